-- Numbers, sorted by keys: no public clause names it.
use Rattle.std.specs.Prelude.{◌≡◌, ℕ, ◌<◌, ◌≤◌, List, true, length, map, slice_index_or}
use Rattle.std.specs.List.{All}
use Rattle.std.specs.List.Sorted.{IsPermutation}
use Rattle.jh_linear.specs.declared.register.RegOp.{RegOp}
use Rattle.jh_linear.specs.Order.{op_at, has, StandBefore, HasNoneTwice}

abbrev pub seconds_of : List (ℕ × ℕ) → List ℕ
seconds_of entries = map (λ entry. entry.1) entries

-- the numbers in a range, each once, each behind its key
pub record AreKeyedNumbers (IsKeyOf : ℕ → ℕ → Type 0) (from bound : ℕ) (entries : List (ℕ × ℕ))
    : Type 0 where
  pub each : All (λ entry. (from ≤ entry.1) × (entry.1 < bound) × IsKeyOf entry.1 entry.0) entries
  pub whole : (number : ℕ) → from ≤ number → number < bound
      → has (seconds_of entries) number ≡ true
  pub distinct : HasNoneTwice (seconds_of entries)

-- the keys do not fall
abbrev pub RiseInKeys : List (ℕ × ℕ) → Type 0
RiseInKeys entries = (i j : ℕ) (d : ℕ × ℕ) → i ≤ j → j < length entries
    → (slice_index_or entries i d).0 ≤ (slice_index_or entries j d).0

-- what stands second in some pairs, the least key first
abbrev pub AreSortedOut : List (ℕ × ℕ) → List ℕ → Type 0
AreSortedOut entries numbers = (sorted : List (ℕ × ℕ)) × IsPermutation entries sorted
    × RiseInKeys sorted × (numbers ≡ seconds_of sorted)

-- the operation with this number was invoked there
abbrev pub HasInvocation : List RegOp → ℕ → ℕ → Type 0
HasInvocation ops number key = key ≡ (op_at ops number).invoked

-- all operations, in the order of their invocations
pub record IsTurnOfOps (ops : List RegOp) (turn : List ℕ) : Type 0 where
  pub distinct : HasNoneTwice turn
  pub low : (number : ℕ) → has turn number ≡ true → number < length ops
  pub whole : (number : ℕ) → number < length ops → has turn number ≡ true
  pub rise : (first second : ℕ) → StandBefore turn first second
      → (op_at ops first).invoked ≤ (op_at ops second).invoked

-- what such a list has of operations of a kind, in its order
pub record ArePicked (IsKind : ℕ → Type 0) (turn numbers : List ℕ) : Type 0 where
  pub each : (number : ℕ) → has numbers number ≡ true → (has turn number ≡ true) × IsKind number
  pub whole : (number : ℕ) → has turn number ≡ true → IsKind number → has numbers number ≡ true
  pub in_turn : (first second : ℕ) → StandBefore numbers first second
      → StandBefore turn first second
