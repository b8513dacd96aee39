-- Histories that are cut, and halving: proofs rest on it, and no public clause names it.
use Rattle.std.specs.Prelude.{◌≡◌, ℕ, ◌+◌, ◌≤◌, ◌<◌, ℤ, Option, None, Some, List, true, length, slice_index_or}
use Rattle.jh_linear.specs.declared.register.RegOp.{RegOp}
use Rattle.jh_linear.specs.Order.{op_at, IsDone, IsOrder, has}
use Rattle.jh_linear.specs.Stuck.{behind_all, op_end, ops_before}
use Rattle.jh_linear.specs.Verdict.{HaveNoOrder}

-- an order of the history that is cut right before a place, or that it has none
abbrev pub IsOrderBefore : List RegOp → Option ℤ → ℕ → Option (List ℕ) → Type 0
IsOrderBefore ops initial cut None = HaveNoOrder (ops_before ops cut) initial
IsOrderBefore ops initial cut (Some order) = IsOrder (ops_before ops cut) initial order

-- where the operations ended that are known to have happened, the first end first
pub record AreSortedEnds (ops : List RegOp) (ends : List ℕ) : Type 0 where
  pub each : (end : ℕ) → has ends end ≡ true
      → (number : ℕ) × IsDone ops number × (op_end (op_at ops number) ≡ end)
  pub whole : (number : ℕ) → IsDone ops number → has ends (op_end (op_at ops number)) ≡ true
  pub bounded : (number : ℕ) → IsDone ops number
      → (op_at ops number).invoked ≤ op_end (op_at ops number)
  pub small : (end : ℕ) → has ends end ≡ true → end ≤ behind_all
  pub rise : (i j : ℕ) → i ≤ j → j < length ends
      → slice_index_or ends i 0 ≤ slice_index_or ends j 0

-- So far halved: right before the lower end there is an order, this one, and right behind the
-- higher one there is none.
pub record IsHalved (ops : List RegOp) (initial : Option ℤ) (ends : List ℕ) (low high : ℕ)
    (order : List ℕ) : Type 0 where
  pub between : low ≤ high
  pub inside : high < length ends
  pub before : IsOrder (ops_before ops (slice_index_or ends low 0)) initial order
  pub behind : HaveNoOrder (ops_before ops (slice_index_or ends high 0 + 1)) initial
