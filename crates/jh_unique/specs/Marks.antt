-- Marks of what must be there, on the way: no public clause names it.
use Rattle.std.specs.Prelude.{◌≡◌, ℕ, ℤ, Bool, true, false, List, length, slice_index_or}
use Rattle.jh_linear.specs.declared.register.RegOp.{RegOp}
use Rattle.jh_linear.specs.Order.{has}
use Rattle.jh_unique.specs.Unique.{NeedsValue, reg_call_at, WritesAt, MustStand}

abbrev pub IsMarkedThere : List Bool → ℕ → Type 0
IsMarkedThere there number = slice_index_or there number false ≡ true

-- what is marked must be there
abbrev pub MarkOnlyNeeded : List RegOp → List Bool → Type 0
MarkOnlyNeeded ops there = (number : ℕ) → IsMarkedThere there number → MustStand ops number

-- who wrote what a marked one needs is marked
abbrev pub MarkWriters : List RegOp → List Bool → Type 0
MarkWriters ops there = (number writer : ℕ) (value : ℤ) → IsMarkedThere there number
    → NeedsValue (reg_call_at ops number) value → WritesAt ops writer value → IsMarkedThere there writer

pub record KeepsMarks (ops : List RegOp) (old new : List Bool) : Type 0 where
  pub count : length new ≡ length old
  pub more : (number : ℕ) → IsMarkedThere old number → IsMarkedThere new number
  pub sound : MarkOnlyNeeded ops new
  pub closed : MarkWriters ops new

-- what is in a list is marked, and nothing else
pub record AreMarksOfList (count : ℕ) (list : List ℕ) (marks : List Bool) : Type 0 where
  pub count_is : length marks ≡ count
  pub marked : (number : ℕ) → IsMarkedThere marks number → has list number ≡ true
  pub all : (number : ℕ) → has list number ≡ true → IsMarkedThere marks number
