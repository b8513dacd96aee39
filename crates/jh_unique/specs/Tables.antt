-- Tables of operations by their values: no public clause names it.
use Rattle.std.specs.Prelude.{◌≡◌, ◌≢◌, ℕ, ◌<◌, ℤ, Option, Some, List, [], length, Vec, unwrap_or, option_map}
use Rattle.std.specs.BTreeMap.{get}
use Rattle.std.specs.Ordering.{int_cmp}
use Rattle.std.specs.declared.alloc.Global.{Global}
use Rattle.std.specs.declared.collections.btree_map.BTreeMap.{BTreeMap}
use Rattle.jh_unique.specs.declared.behind.Nexts.{Nexts}
use Rattle.jh_unique.specs.declared.behind.Nexts.TheVariants as next
use Rattle.jh_unique.specs.declared.behind.Known.{Known}
use Rattle.jh_linear.specs.declared.register.RegOp.{RegOp}
use Rattle.jh_unique.specs.declared.writers.Writers.{Writers}
use Rattle.jh_unique.specs.declared.writers.Writers.TheVariants.{Once, Twice, Initial}
use Rattle.jh_unique.specs.Unique.{WritesAt, WriteOnce}
use Rattle.jh_unique.specs.Reasons.{AreFromOne}
use Rattle.jh_unique.specs.Steps.{AreStandingMarks, IsNextFrom}
use Rattle.jh_unique.specs.Walk.{AreReads}

-- The table has, for each value, which of the operations below a bound is that of the value.
pub record IsValueTable (IsThat : ℤ → ℕ → Type 0) (bound : ℕ) (table : BTreeMap ℤ ℕ Global)
    : Type 0 where
  pub sound : (value : ℤ) (number : ℕ) → get int_cmp table value ≡ Some number
      → (number < bound) × IsThat value number
  pub whole : (value : ℤ) (number : ℕ) → number < bound → IsThat value number
      → get int_cmp table value ≡ Some number

-- a table of who writes each value
abbrev pub IsWriterTable : List RegOp → BTreeMap ℤ ℕ Global → Type 0
IsWriterTable ops table = IsValueTable (λ value number. WritesAt ops number value) (length ops) table

-- such a table, where each value is written once, or why that is not so
abbrev pub AreWritersOf : List RegOp → Option ℤ → Writers → Type 0
AreWritersOf ops initial (Once table) = IsWriterTable ops table × WriteOnce ops initial
AreWritersOf ops initial (Twice first second) = (first ≢ second)
    × ((value : ℤ) × WritesAt ops first value × WritesAt ops second value)
AreWritersOf ops initial (Initial number) =
    (value : ℤ) × WritesAt ops number value × (initial ≡ Some value)

-- a table of which compare-and-set must stand behind each value
abbrev pub IsNextTable : List RegOp → BTreeMap ℤ ℕ Global → Type 0
IsNextTable ops table = IsValueTable (IsNextFrom ops) (length ops) table

-- such a table, or two compare-and-sets from one value
abbrev pub AreNextsOf : List RegOp → Nexts → Type 0
AreNextsOf ops (next.Once table) = IsNextTable ops table
AreNextsOf ops (next.Twice first second) = (value : ℤ) × AreFromOne ops first second value

-- what a table has under a value
abbrev pub reads_under : BTreeMap ℤ (Vec ℕ Global) Global → ℤ → List ℕ
reads_under table value = unwrap_or (option_map (λ list. list.items) (get int_cmp table value)) []

-- a table of the reads of each value
abbrev pub IsReadTable : List RegOp → BTreeMap ℤ (Vec ℕ Global) Global → Type 0
IsReadTable ops table = (value : ℤ) → AreReads ops value (reads_under table value)

-- what must stand, and what of that stands behind each value
pub record KnowsOps (ops : List RegOp) (known : Known) : Type 0 where
  pub marks : AreStandingMarks ops known.there.items
  pub reads : IsReadTable ops known.reads
  pub nexts : IsNextTable ops known.nexts
