use Rattle.std.proofs.Common.{◌≡◌, ◌-◌}
use Rattle.std.specs.Str.{IsUtf8}
use Rattle.jh_edn.specs.Lines.{values_from, values_in}
use Rattle.jh_edn.specs.View.{views}
use Rattle.jh_edn.proofs.LineLemmas.{with_front}
use Rattle.jh_edn.proofs.line.line_values.Given as goal

abbrev pub invariant-loop-turn : goal.invariant-loop-turn
invariant-loop-turn l = record {
  rest : with_front (views l.values.items) (values_from (l.most - l._turn) l.left) ≡ values_in l.text;
  text : IsUtf8 l.left;
}
