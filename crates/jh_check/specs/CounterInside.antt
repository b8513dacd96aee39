-- What the counter checker keeps on its way: the first error so far, and sums by place.
-- This project's own.
use Rattle.std.specs.Prelude.{◌≡◌, ℕ, ◌+◌, ◌^◌, ◌<◌, ◌≤◌, nat_lt, pos, List, [], length}
use Rattle.std.specs.Prelude.{slice_index, MatchOption, Option, Some, None, if◌then◌else◌}
use Rattle.jh_ops.specs.Operation.{Operation}
use Rattle.jh_ops.specs.declared.pairs.Pair.{Pair}
use Rattle.jh_check.specs.CounterResults.{IsEarliest, place_of_error, end_place, value_at, integer}
use Rattle.jh_check.specs.CounterResults.{amount, is_surely_added, may_be_added, sure_sum_before}
use Rattle.jh_check.specs.CounterResults.{possible_sum_before}
use Rattle.jh_check.specs.declared.error.CheckError.{CheckError}
use Rattle.jh_check.specs.declared.error.CheckError.TheVariants.{BadValue, NegativeAdd}
use Rattle.jh_check.specs.declared.counter.ReadBounds.{ReadBounds}
use Rattle.jh_check.specs.declared.totals.Bound.{Bound}
use Rattle.jh_check.specs.declared.totals.Bound.TheVariants.{Lower, Upper}
use Rattle.jh_check.specs.declared.totals.Increase.{Increase}

-- the error is about a value
abbrev pub IsValueError : CheckError → Type 0
IsValueError (BadValue place) = Unit {0}
IsValueError (NegativeAdd place) = Unit {0}
IsValueError _ = ⊥

-- the first of the errors, where there is one
abbrev pub IsFirstOf : Option CheckError → List CheckError → Type 0
IsFirstOf first errors =
    MatchOption first (errors ≡ []) (λ error. IsEarliest error errors × IsValueError error)

-- the one at the earlier place
abbrev pub earlier_error : Option CheckError → Option CheckError → Option CheckError
earlier_error None next = next
earlier_error (Some first) None = Some first
earlier_error (Some first) (Some next) =
    if nat_lt (place_of_error next) (place_of_error first) then Some next else Some first

-- what an operation adds to a bound, and from which place on
abbrev pub increase_of : Bound → List Operation → Pair → Option Increase
increase_of Lower history pair =
    if is_surely_added history pair
    then Some (record { place = end_place pair; amount = amount history pair }) else None
increase_of Upper history pair =
    if may_be_added history pair
    then Some (record { place = pair.invoke; amount = amount history pair }) else None

-- what it adds before a place
abbrev pub increase_before : ℕ → Option Increase → ℕ
increase_before place None = 0
increase_before place (Some increase) = if nat_lt increase.place place then increase.amount else 0

-- the bound at a place
abbrev pub bound_before : Bound → List Operation → List Pair → ℕ → ℕ
bound_before Lower history pairs place = sure_sum_before history pairs place
bound_before Upper history pairs place = possible_sum_before history pairs place

-- the bound at each place of the history and behind it
pub record AreBounds (side : Bound) (history : List Operation) (pairs : List Pair)
    (totals : List ℕ) : Type 0 where
  pub long : length totals ≡ length history + 1
  pub at : (place : ℕ) → place ≤ length history
      → slice_index totals place ≡ bound_before side history pairs place
  pub fits : (place : ℕ) → slice_index totals place < 2 ^ 127

-- a read with its bounds, by what these are at each place
abbrev pub bounds_at : List Operation → Pair → List ℕ → List ℕ → ReadBounds
bounds_at history read lower upper =
    record {
      lower = pos (slice_index lower read.invoke);
      value = integer
          (value_at history (end_place read));
      upper = pos (slice_index upper (end_place read));
    }
