-- What the checker of sets over time finds (jepsen.checker, `set-full`: "A more rigorous set analysis.
-- We allow :add operations which add a single element, and :reads which return all elements present
-- at that time. For each element, we construct a timeline like so: [nonexistent] ... [created] ...
-- [present] ... [absent] ... [present] ..."). Quotes below are of the same page.
--
-- An operation is a pair of a history, invoked at one place and completed at another; places are
-- those of the whole history. Elements are in normal form.
use Rattle.std.specs.Prelude.{◌≡◌, ℕ, ◌/◌, min, max, ◌==◌, ◌&&◌, ◌||◌, nat_lt, Bool, true, false}
use Rattle.std.specs.Prelude.{not, reverse, if◌then◌else◌, ℤ, ◌-ℤ◌, int_lt, unsigned_abs, List, [], ◌∷◌, map}
use Rattle.std.specs.Prelude.{filter, flat_map, length, slice_get, codes, Option, Some, None, is_some}
use Rattle.std.specs.Prelude.{is_none, unwrap_or, option_and_then, ◌⊎◌}
use Rattle.std.specs.List.{cons_option}
use Rattle.std.specs.Option.{option_map_or}
use Rattle.jh_edn.specs.Edn.{Edn}
use Rattle.jh_edn.specs.Normal.{normal}
use Rattle.jh_ops.specs.Operation.{Operation}
use Rattle.jh_ops.specs.Pairing.{IsWellFormed, RefusesPairing, history_pairs}
use Rattle.jh_ops.specs.declared.operation.Kind.{Kind}
use Rattle.jh_ops.specs.declared.pairs.Pair.{Pair}
use Rattle.jh_ops.specs.declared.pairs.PairError.TheVariants as pair_errors
use Rattle.jh_check.specs.CounterResults.{asks, end_place, error_of_pairing, has_ended, is_ok_read}
use Rattle.jh_check.specs.CounterResults.{value_at}
use Rattle.jh_check.specs.Distinct.{count_of, has_same_value, set_of}
use Rattle.jh_check.specs.SetResults.{attempts, elements_shown}
use Rattle.jh_check.specs.Tallies.{is_repeated}
use Rattle.jh_check.specs.declared.error.CheckError.{CheckError}
use Rattle.jh_check.specs.declared.error.CheckError.TheVariants as check_errors
use Rattle.jh_check.specs.declared.error.CheckError.TheVariants.{BadValue, NegativeAdd}
use Rattle.jh_check.specs.declared.error.CheckError.TheVariants.{RepeatedAppend, OutOfMemory}
use Rattle.jh_check.specs.declared.verdict.Verdict.{Verdict}
use Rattle.jh_check.specs.declared.verdict.Verdict.TheVariants.{True, Unknown, False}
use Rattle.jh_set_full.specs.declared.set_full.SetFullResult.{SetFullResult}

-- ---- places

-- the later of two places, where there are such
abbrev pub later_of : Option ℕ → Option ℕ → Option ℕ
later_of None b = b
later_of (Some a) None = Some a
later_of (Some a) (Some b) = Some (max a b)

-- the earlier of two places, where there are such
abbrev pub earlier_of : Option ℕ → Option ℕ → Option ℕ
earlier_of None b = b
earlier_of (Some a) None = Some a
earlier_of (Some a) (Some b) = Some (min a b)

abbrev pub greatest_of : List ℕ → Option ℕ
greatest_of [] = None
greatest_of (n ∷ ns) = later_of (Some n) (greatest_of ns)

abbrev pub least : List ℕ → Option ℕ
least [] = None
least (n ∷ ns) = earlier_of (Some n) (least ns)

-- the second is there, and the first is not there or is before it
abbrev pub is_before : Option ℕ → Option ℕ → Bool
is_before a None = false
is_before None (Some b) = true
is_before (Some a) (Some b) = nat_lt a b

-- ---- adds and reads

-- In what follows `pairs` are operations of the history from the one that was invoked last on; of a
-- whole history these.
abbrev pub from_latest : List Operation → List Pair
from_latest history = reverse (history_pairs history)

-- the element that an operation adds, where it is an add
abbrev pub added_by : List Operation → Pair → List Edn
added_by history pair =
    if asks (codes "add") history pair
    then option_map_or (λ value. normal value ∷ []) (value_at history pair.invoke) [] else []

-- the operation adds this element
abbrev pub is_add_of : List Operation → Edn → Pair → Bool
is_add_of history x pair = has_same_value (added_by history pair) x

-- the first of the list for which it is so
abbrev pub first_that : {A : Type 0} → (A → Bool) → List A → Option A
first_that test [] = None
first_that test (x ∷ xs) = if test x then Some x else first_that test xs

-- the last of the operations that add it: one that adds an element again begins it anew
abbrev pub last_add : List Operation → List Pair → Edn → Option Pair
last_add history pairs x = first_that (is_add_of history x) pairs

-- the elements that an operation shows, where it is a read that happened, as often as it shows them
abbrev pub shown_by : List Operation → Pair → List Edn
shown_by history pair =
    if is_ok_read history pair
    then map normal
    (unwrap_or (option_and_then elements_shown (value_at history (end_place pair))) []) else []

-- the operation is a read that happened and has the element
abbrev pub has_element : List Operation → Edn → Pair → Bool
has_element history x pair = has_same_value (shown_by history pair) x

-- it is a read that happened and lacks the element
abbrev pub lacks : List Operation → Edn → Pair → Bool
lacks history x pair = is_ok_read history pair && not (has_element history x pair)

-- the operation completed behind a place
abbrev pub is_later : ℕ → Pair → Bool
is_later place pair = nat_lt place (end_place pair)

-- the reads that completed behind a place and have the element, and those that lack it
abbrev pub having : List Operation → List Pair → Edn → ℕ → List Pair
having history pairs x place = filter (λ pair. is_later place pair && has_element history x pair) pairs

abbrev pub lacking : List Operation → List Pair → Edn → ℕ → List Pair
lacking history pairs x place = filter (λ pair. is_later place pair && lacks history x pair) pairs

-- ---- the timeline of an element

-- the places that decide on an element
pub record Timeline : Type 0 where
  -- "the completion time of the add, or first read, whichever is first"
  pub known : Option ℕ
  -- where the last read was invoked that has it
  pub present : Option ℕ
  -- where the last read was invoked that lacks it
  pub absent : Option ℕ

-- where an operation was invoked
abbrev pub invoke_place : Pair → ℕ
invoke_place pair = pair.invoke

-- where an operation completed ok
abbrev pub ok_end : List Operation → Pair → Option ℕ
ok_end history pair = if has_ended Kind.Ok history pair then Some (end_place pair) else None

-- of an element that this operation added: reads count that completed behind its invocation
abbrev pub timeline_since : List Operation → List Pair → Edn → Pair → Timeline
timeline_since history pairs x add =
    record {
      known = least (cons_option (ok_end history add)
          (map end_place (having history pairs x add.invoke)));
      present = greatest_of (map invoke_place (having history pairs x add.invoke));
      absent = greatest_of (map invoke_place (lacking history pairs x add.invoke));
    }

-- of one that no operation added
abbrev pub no_timeline : Timeline
no_timeline = record { known = None; present = None; absent = None }

abbrev pub timeline_of : List Operation → List Pair → Edn → Timeline
timeline_of history pairs x =
    option_map_or (timeline_since history pairs x) (last_add history pairs x) no_timeline

-- ---- what is found of an element

-- "every read which begins" behind some time "observes the element"
abbrev pub is_stable : Timeline → Bool
is_stable t = is_before t.absent t.present

-- it was known to be there, and "no operation observes that element" behind some later time
abbrev pub is_lost : Timeline → Bool
is_lost t = is_some t.known && (is_before t.known t.absent && is_before t.present t.absent)

abbrev pub is_never_read : Timeline → Bool
is_never_read t = not (is_stable t) && not (is_lost t)

-- it is stable, and was lacking when it was known to be there
abbrev pub is_stale : Timeline → Bool
is_stale t = is_stable t && (is_some t.known && is_before t.known t.absent)

-- the time of the record at a place
abbrev pub time_at : List Operation → Option ℕ → Option ℤ
time_at history place =
    option_and_then (λ op. op.time) (option_and_then (slice_get history) place)

-- whole milliseconds from one time in nanoseconds to another, 0 where that is earlier
abbrev pub milliseconds_between : Option ℤ → Option ℤ → Option ℕ
milliseconds_between (Some a) (Some b) =
    Some (if int_lt b a then 0 else unsigned_abs (b -ℤ a) / 1000000)
milliseconds_between _ _ = None

-- a stale element with how long it was stale
abbrev pub staleness : List Operation → List Pair → Edn → Edn × Option ℕ
staleness history pairs x =
    let t = timeline_of history pairs x in
    (x, milliseconds_between (time_at history t.known) (time_at history t.absent))

-- ---- what stands more than once in a read

-- the greatest number of times that one read shows it
abbrev pub most_shown : List Operation → List Pair → Edn → ℕ
most_shown history pairs x =
    unwrap_or (greatest_of (map (λ pair. count_of (shown_by history pair) x) pairs)) 0

abbrev pub all_shown : List Operation → List Pair → List Edn
all_shown history pairs = flat_map (shown_by history) pairs

abbrev pub duplicates : List Operation → List Pair → List (Edn × ℕ)
duplicates history pairs =
    filter is_repeated
    (map (λ x. (x, most_shown history pairs x)) (set_of (all_shown history pairs)))

-- ---- the result

-- "If true, we expect this set to be linearizable, and stale reads result in an invalid result."
abbrev pub set_full_verdict : Bool → ℕ → ℕ → ℕ → ℕ → Verdict
set_full_verdict linearizable lost duplicated stale stable =
    if not (lost == 0) || (not (duplicated == 0) || (linearizable && not (stale == 0))) then False
    else if stable == 0 then Unknown else True

-- the elements of these whose timeline is so
abbrev pub those_that : (Timeline → Bool) → List Operation → List Pair → List Edn → List Edn
those_that test history pairs xs = filter (λ x. test (timeline_of history pairs x)) xs

abbrev pub set_full_result_of : Bool → List Operation → List Pair → SetFullResult
set_full_result_of linearizable history pairs =
    let elements = set_of (attempts history) in
    let stable = those_that is_stable history pairs elements in
    let lost = those_that is_lost history pairs elements in
    let stale = those_that is_stale history pairs elements in
    let duplicated = duplicates history pairs in
    record {
      verdict = set_full_verdict linearizable (length lost) (length duplicated) (length stale)
          (length stable);
      attempted = length elements;
      stable = length stable;
      lost = lost;
      never_read = those_that is_never_read history pairs elements;
      stale = map (staleness history pairs) stale;
      duplicated = duplicated;
    }

-- the result of a history
abbrev pub set_full_result : Bool → List Operation → SetFullResult
set_full_result linearizable history = set_full_result_of linearizable history (from_latest history)

-- ---- refusals

-- a read that happened whose value is none of list, vector and set
abbrev pub shows_no_elements : List Operation → Pair → Bool
shows_no_elements history pair =
    is_ok_read history pair
    && is_none (option_and_then elements_shown (value_at history (end_place pair)))

-- the least place at which one completed
abbrev pub first_bad_read : List Operation → Option ℕ
first_bad_read history =
    least (map end_place (filter (shows_no_elements history) (from_latest history)))

-- its operations pair, and each read that happened shows elements
abbrev pub AreReadsKnown : List Operation → Type 0
AreReadsKnown history = IsWellFormed history × (first_bad_read history ≡ None)

-- Why there is no result: first for its pairs, then for the first bad read. Memory can run out
-- for the pairs, or where neither is wrong.
abbrev pub RefusesSetFull : List Operation → CheckError → Type 0
RefusesSetFull history (check_errors.Pair error) =
    (error_of_pairing error ≡ check_errors.Pair error) × RefusesPairing history error
RefusesSetFull history (BadValue place) =
    IsWellFormed history × (first_bad_read history ≡ Some place)
RefusesSetFull history (NegativeAdd place) = ⊥
RefusesSetFull history (RepeatedAppend place) = ⊥
RefusesSetFull history OutOfMemory =
    RefusesPairing history pair_errors.OutOfMemory ⊎ AreReadsKnown history
