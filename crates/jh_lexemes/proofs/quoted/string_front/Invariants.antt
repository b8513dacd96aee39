use Rattle.std.proofs.Common.{◌≡◌, ◌+◌, drop, true, false}
use Rattle.jh_lexemes.specs.Lexemes.{quoted}
use Rattle.jh_lexemes.proofs.quoted.string_front.Given as goal

abbrev pub invariant-loop-b : goal.invariant-loop-b
invariant-loop-b l = record {
  len : l.len ≡ 1 + l.b-index;
  rest : quoted l.is_good l.is_escaped l.len (drop l.b-index l.b-items) ≡ quoted true false 1 l.b-items;
}
