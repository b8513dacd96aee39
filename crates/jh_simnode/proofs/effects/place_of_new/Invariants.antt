use Rattle.std.proofs.Common.{◌≡◌, ◌++◌, take, drop}
use Rattle.jh_simnode.specs.Effects.{numbers_with}
use Rattle.jh_simnode.proofs.effects.place_of_new.Given as goal

abbrev pub invariant-loop-number : goal.invariant-loop-number
invariant-loop-number l = record {
  place : l.place ≡ l.number-index;
  rest : take l.number-index l.numbers ++ numbers_with l.value (drop l.number-index l.numbers) ≡ numbers_with l.value l.numbers;
}
