-- What is kept on the way to the calls of a history and to those that are drawn, and what bars are
-- made of: proofs rest on it, and no public clause names it.
-- This project's own.
use Rattle.std.specs.Prelude.{◌≡◌, ℕ, ◌<◌, ◌≤◌, Bool, true, false, not, ◌&&◌, ◌||◌, ◌==◌}
use Rattle.std.specs.Prelude.{nat_le, nat_lt, List, [], ◌∷◌, ◌++◌, if◌then◌else◌, filter, length, map}
use Rattle.std.specs.Prelude.{slice_index, slice_set, All, MatchOption, Option, Some, None, max}
use Rattle.std.specs.Prelude.{option_map, option_and_then, unwrap_or}
use Rattle.std.specs.BTreeMap.{BTreeMap, get, Updates}
use Rattle.std.specs.BTreeSet as sets
use Rattle.std.specs.BTreeSet.{BTreeSet, contains}
use Rattle.std.specs.declared.cmp.Ordering.{Ordering}
use Rattle.std.specs.List.{enumerate_from, filter_map}
use Rattle.std.specs.Option.{option_map_or}
use Rattle.std.specs.Ordering.{nat_cmp, ordering_then}
use Rattle.jh_ops.specs.Operation.{Operation}
use Rattle.jh_ops.specs.Pairing.{is_invoke}
use Rattle.jh_ops.specs.declared.operation.Kind.{Kind}
use Rattle.jh_ops.specs.declared.operation.Process.{Process}
use Rattle.jh_timeline.specs.Lanes.{begins_in, call_end, completion_in, first_row_of, held_in}
use Rattle.jh_timeline.specs.Lanes.{is_invoking, has_unknown_outcome, last_in, last_row_of, place_noted}
use Rattle.jh_timeline.specs.declared.calls.Ahead.{Ahead}
use Rattle.jh_timeline.specs.declared.drawn.Order.{Order}
use Rattle.jh_timeline.specs.declared.lanes.Ends.{Ends}
use Rattle.jh_timeline.specs.declared.marks.Note.{Note}
use Rattle.jh_timeline.specs.declared.picture.Call.{Call}
use Rattle.jh_timeline.specs.declared.picture.Window.{Window}

-- ---- calls

-- a record of this process, behind these, the latest first, answers an invocation
abbrev pub is_answering : Process → List Operation → Bool
is_answering (Process.Client client) before = is_invoking client before
is_answering Process.Nemesis before = false

-- the same of each of these records
abbrev pub answers_behind : (before ops : List Operation) → List Bool
answers_behind before [] = []
answers_behind before (op ∷ ops) =
    is_answering op.process before ∷ answers_behind (op ∷ before) ops

-- the same, where this says of each client whether its last record is an invocation
abbrev pub invoking_with : BTreeMap ℕ Bool → Process → Bool
invoking_with invoking (Process.Client client) = unwrap_or (get nat_cmp invoking client) false
invoking_with invoking Process.Nemesis = false

-- what records of a client say of the one that it has before them, if there are any
abbrev pub ahead_in : ℕ → ℕ → List Operation → Option Ahead
ahead_in client index records =
    option_map (λ last. record { completion = completion_in client index records; last = last })
    (last_in client index records)

-- the index of the last of them and of one more in front
abbrev pub last_with : ℕ → Option Ahead → ℕ
last_with index behind = option_map_or (λ ahead. ahead.last) behind index

-- what they say with one more in front
abbrev pub ahead_with : Kind → ℕ → Option Ahead → Ahead
ahead_with kind index behind =
    record {
      completion = if is_invoke kind then None else Some index;
      last = last_with index behind;
    }

-- the call that a record in front of these begins
abbrev pub call_with : Kind → ℕ → ℕ → Option Ahead → Call
call_with kind client index behind =
    record {
      client = client;
      first = index;
      completion =
          if is_invoke kind then option_and_then (λ ahead. ahead.completion) behind else Some index;
      last = last_with index behind;
    }

-- the same of an invocation, or of a completion that answers none, and nothing of any other
abbrev pub new_calls : Kind → Bool → ℕ → ℕ → Option Ahead → List Call
new_calls kind answers client index behind =
    if is_invoke kind || not answers then call_with kind client index behind ∷ [] else []

-- ---- which of them are drawn

-- the place that a call of a number has, by the notes of calls
abbrev pub place_with : BTreeMap ℕ Note → ℕ → Option ℕ
place_with notes number = option_and_then place_noted (get nat_cmp notes number)

-- the places of the calls that begin in the window
abbrev pub places_with : Window → BTreeMap ℕ Note → List Call → List ℕ
places_with window notes calls =
    filter_map (λ numbered. place_with notes numbered.0)
    (filter (λ numbered. begins_in window numbered.1) (enumerate_from 0 calls))

-- the call of a number takes effect behind the least place
abbrev pub is_behind : Order → ℕ → Bool
is_behind order number =
    option_map_or (λ place. option_map_or (λ least. nat_lt least place) order.least false)
    (place_with order.notes number) false

-- the call is drawn though it began before the window, where it is known whether it takes effect
-- behind one that begins there
abbrev pub reaches_with : Window → List Operation → Bool → Call → Bool
reaches_with window history behind call =
    if has_unknown_outcome history call then call.last == call_end call && behind
    else nat_le window.from (call_end call)

abbrev pub is_drawn_with : Window → List Operation → Bool → Call → Bool
is_drawn_with window history behind call =
    nat_lt (max window.from call.first) window.to
    && (nat_le window.from call.first || reaches_with window history behind call)

-- it is not drawn, though it may take effect in the window
abbrev pub is_left_out_with : Window → List Operation → Bool → Call → Bool
is_left_out_with window history behind call =
    nat_lt call.first window.from
    && (has_unknown_outcome history call && not (is_drawn_with window history behind call))

-- the calls that are drawn, where this says of their numbers which take effect behind
abbrev pub drawn_with : Window → List Operation → (ℕ → Bool) → List Call → List Call
drawn_with window history behind calls =
    map (λ numbered. held_in window numbered.1)
    (filter (λ numbered. is_drawn_with window history (behind numbered.0) numbered.1)
    (enumerate_from 0 calls))

-- how many are left out
abbrev pub count_left_out_with : Window → List Operation → (ℕ → Bool) → List Call → ℕ
count_left_out_with window history behind calls =
    length (filter (λ numbered. is_left_out_with window history (behind numbered.0) numbered.1)
    (enumerate_from 0 calls))

-- ---- calls in order

-- A call after another: it begins later, and if both are of one client, they have one last record.
pub record Follows (earlier later : Call) : Type 0 where
  pub first : earlier.first < later.first
  pub last : earlier.client ≡ later.client → earlier.last ≡ later.last
  pub reach : later.first ≤ later.last

-- each of these calls is so to those behind it
abbrev pub AreDrawnInOrder : (Call → Call → Type 0) → List Call → Type 0
AreDrawnInOrder Is [] = Unit {0}
AreDrawnInOrder Is (call ∷ calls) = All (Is call) calls × AreDrawnInOrder Is calls

abbrev pub AreCallsInOrder : List Call → Type 0
AreCallsInOrder calls = AreDrawnInOrder Follows calls

-- And in the window it begins below the end of the earlier, if both are of one client.
pub record FollowsIn (window : Window) (earlier later : Call) : Type 0 where
  pub follows : Follows earlier later
  pub ended : earlier.client ≡ later.client → last_row_of window earlier < first_row_of window later
  pub within : last_row_of window earlier ≤ earlier.last

-- ---- lanes that are free

-- pairs of an index and a lane, by the index first
abbrev pub pair_cmp : ℕ × ℕ → ℕ × ℕ → Ordering
pair_cmp a b = ordering_then (nat_cmp a.0 b.0) (nat_cmp a.1 b.1)

-- a lane is among the busy ones, up to that index
abbrev pub is_busy : BTreeSet (ℕ × ℕ) → ℕ → ℕ → Bool
is_busy busy last lane = contains pair_cmp busy (last, lane)

-- each busy lane is held at the index
abbrev pub AreHeld : BTreeSet (ℕ × ℕ) → ℕ → Type 0
AreHeld busy index = (last lane : ℕ) → is_busy busy last lane ≡ true → index ≤ last

-- one lane less is busy, which was held up to an index before that one
pub record IsPopped (old new : BTreeSet (ℕ × ℕ)) (index : ℕ) (popped : ℕ × ℕ) : Type 0 where
  pub ended : popped.0 < index
  pub had : contains pair_cmp old popped ≡ true
  pub updates : sets.Updates pair_cmp old new popped false
  pub fewer : length new.keys < length old.keys

-- At an index each lane but one is free, and held no longer, or busy up to where it is held.
pub record AreKept (ends : Ends) (index but : ℕ) : Type 0 where
  pub known : (lane : ℕ) → lane < length ends.until.items → (lane ≡ but → ⊥)
      → contains nat_cmp ends.free lane ≡ false
      → is_busy ends.busy (slice_index ends.until.items lane) lane ≡ true
  pub free : (lane : ℕ) → contains nat_cmp ends.free lane ≡ true → (lane < length ends.until.items)
      × (slice_index ends.until.items lane < index) × (lane ≡ but → ⊥)
  pub busy : (last lane : ℕ) → is_busy ends.busy last lane ≡ true → (lane < length ends.until.items)
      × (slice_index ends.until.items lane ≡ last) × (lane ≡ but → ⊥)

-- the first lane that is free at the index, where each lane is held up to one
pub record IsFirst (ends : List ℕ) (index lane : ℕ) : Type 0 where
  pub within : lane ≤ length ends
  pub free : lane < length ends → slice_index ends lane < index
  pub first : (lower : ℕ) → lower < lane → index ≤ slice_index ends lower

-- up to where lanes are held, with one that is held now
abbrev pub lane_ends_with : List ℕ → ℕ → ℕ → List ℕ
lane_ends_with ends lane last =
    if nat_lt lane (length ends) then slice_set ends lane last else ends ++ last ∷ []

-- A process takes a lane at its first call: the first lane that is free, which it has up to its
-- last record.
pub record TakesFree (old new : BTreeMap ℕ ℕ) (ends longer : List ℕ) (call : Call)
    (lane : ℕ) : Type 0 where
  pub free : IsFirst ends call.first lane
  pub until : longer ≡ lane_ends_with ends lane call.last
  pub held : Updates nat_cmp old new call.client (Some lane)

-- A process keeps the lane that it has.
pub record KeepsLane (old new : BTreeMap ℕ ℕ) (ends longer : List ℕ) (had lane : ℕ) : Type 0 where
  pub same : lane ≡ had
  pub until : longer ≡ ends
  pub held : new ≡ old

abbrev pub TakesOrKeepsLane : BTreeMap ℕ ℕ → BTreeMap ℕ ℕ → List ℕ → List ℕ → Call → ℕ → Type 0
TakesOrKeepsLane old new ends longer call lane =
    MatchOption (get nat_cmp old call.client) (TakesFree old new ends longer call lane)
    (λ had. KeepsLane old new ends longer had lane)
