use Rattle.jh_unique.specs.Steps.{IsNextFrom}
use Rattle.jh_unique.specs.Tables.{IsValueTable}
use Rattle.jh_unique.proofs.behind.nexts_of.Given as goal

abbrev pub invariant-loop-number : goal.invariant-loop-number
invariant-loop-number l = IsValueTable (IsNextFrom l.ops) l.number l.table
