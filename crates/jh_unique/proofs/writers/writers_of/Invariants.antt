use Rattle.std.proofs.Common.{ℕ, ◌<◌, ℤ, Some}
use Rattle.std.specs.Prelude.{◌≢◌}
use Rattle.jh_unique.specs.Tables.{IsValueTable}
use Rattle.jh_unique.specs.Unique.{WritesAt}
use Rattle.jh_unique.proofs.writers.writers_of.Given as goal

abbrev pub invariant-loop-number : goal.invariant-loop-number
invariant-loop-number l = record {
  table : IsValueTable (λ v p. WritesAt l.ops p v) l.number l.table;
  fresh : (p : ℕ) (v : ℤ) → p < l.number → WritesAt l.ops p v → l.fn.initial ≢ Some v;
}
