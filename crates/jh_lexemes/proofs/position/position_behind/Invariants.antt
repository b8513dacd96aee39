use Rattle.std.proofs.Common.{◌≡◌, ◌+◌, ◌≤◌, drop}
use Rattle.jh_lexemes.specs.Positions.{position_from, position_behind}
use Rattle.jh_lexemes.proofs.position.position_behind.Given as goal

abbrev pub invariant-loop-b : goal.invariant-loop-b
invariant-loop-b l = record {
  line : l.position.line ≤ l.b-index + 1;
  column : l.position.column ≤ l.b-index + 1;
  rest : position_from l.position (drop l.b-index l.before) ≡ position_behind l.before;
}
