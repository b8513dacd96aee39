-- What the loops of this crate keep (this project's own).
use Rattle.std.specs.Prelude.{ℕ, ◌&&◌, ◌||◌, Bool, true, false, nat_lt, List, [], ◌∷◌, map, filter}
use Rattle.std.specs.Prelude.{codes, if◌then◌else◌, slice_get, Option, Some, option_map}
use Rattle.std.specs.Prelude.{option_and_then}
use Rattle.std.specs.BTreeMap.{BTreeMap, get}
use Rattle.std.specs.List.{enumerate_from}
use Rattle.std.specs.Option.{option_map_or}
use Rattle.std.specs.Ordering.{nat_cmp}
use Rattle.jh_edn.specs.View.{views}
use Rattle.jh_ops.specs.Operation.{Operation}
use Rattle.jh_ops.specs.Pairing.{is_invoke}
use Rattle.jh_ops.specs.declared.operation.Kind.{Kind}
use Rattle.jh_ops.specs.declared.operation.Op.{Op}
use Rattle.jh_ops.specs.declared.operation.Process.{Process}
use Rattle.jh_ops.specs.declared.pairs.Pair.{Pair}
use Rattle.jh_check.specs.Distinct.{Ascends}
use Rattle.jh_check.specs.declared.counter.ReadBounds.{ReadBounds}
use Rattle.jh_timeline.specs.Lanes.{call_end}
use Rattle.jh_timeline.specs.declared.marks.Note.{Note}
use Rattle.jh_timeline.specs.declared.marks.Place.{Place}
use Rattle.jh_timeline.specs.declared.picture.Call.{Call}
use Rattle.jh_timeline_marks.specs.Marked.{acknowledges, begins_with_one_of, ends_by_taking, ends_with_one_of}
use Rattle.jh_timeline_marks.specs.Marked.{call_completion, is_completed_at, note_if, shows_twice}
use Rattle.jh_timeline_marks.specs.declared.queues.QueueValues.{QueueValues}
use Rattle.jh_timeline_marks.specs.declared.set.Elements.{Elements}
use Rattle.jh_timeline_marks.specs.declared.set_full.TimedElements.{TimedElements}

-- a client invokes something
abbrev pub is_by_client : Kind → Process → Bool
is_by_client kind (Process.Client client) = is_invoke kind
is_by_client kind Process.Nemesis = false

abbrev pub is_invocation : Op → Bool
is_invocation op = is_by_client op.kind op.process

-- where clients invoke something
abbrev pub invocations : List Op → List ℕ
invocations history =
    map (λ numbered. numbered.0)
    (filter (λ numbered. is_invocation numbered.1) (enumerate_from 0 history))

-- the pair of a client's record at a place, if it is an invocation, where this is the place of the
-- client's next record
abbrev pub pair_with : Kind → ℕ → Option ℕ → List Pair
pair_with Kind.Invoke place next = record { invoke = place; outcome = next } ∷ []
pair_with _ place next = []

-- the note of a call where a history is stuck, with this place in the order of what is before
abbrev pub stuck_note_with : (end : ℕ) → (named pending : Bool) → Option Place → Call → Option Note
stuck_note_with end named pending place call =
    if is_completed_at end call then Some Note.Stuck
    else if named then Some Note.Named
    else if pending then Some (Note.Pending place)
    else option_map Note.Placed place

-- the bounds of the read that is completed at an index, by the places of ends
abbrev pub bounds_with : List ReadBounds → BTreeMap ℕ ℕ → ℕ → Option ReadBounds
bounds_with reads places index = option_and_then (slice_get reads) (get nat_cmp places index)

-- ---- sets

-- what is found is in normal order
pub record AreSorted (elements : Elements) : Type 0 where
  pub lost : Ascends (views elements.lost.items)
  pub late : Ascends (views elements.late.items)
  pub recovered : Ascends (views elements.recovered.items)

-- a call acknowledged what is lost before the last read, or what is late
abbrev pub is_lost_with : Elements → List Operation → Call → Bool
is_lost_with elements history call =
    (acknowledges (views elements.lost.items) history call
    && option_map_or (λ index. nat_lt (call_end call) index) elements.read true)
    || acknowledges (views elements.late.items) history call

-- the note of a call, by what is found
abbrev pub found_note_with : Elements → List Operation → Call → Option Note
found_note_with elements history call =
    if is_lost_with elements history call then Some Note.Lost
    else if begins_with_one_of (codes "add") (views elements.recovered.items) history call then Some Note.Recovered
    else note_if (elements.is_unexpected
    && option_map_or (λ index. is_completed_at index call) elements.read false) Note.Unexpected

-- ---- queues

-- what is found of a queue is in normal order
pub record AreQueueValuesSorted (values : QueueValues) : Type 0 where
  pub lost : Ascends (views values.lost.items)
  pub unexpected : Ascends (views values.unexpected.items)
  pub duplicated : Ascends (views values.duplicated.items)
  pub recovered : Ascends (views values.recovered.items)

-- the note of a call, by what is found of a queue
abbrev pub queue_note_with : QueueValues → List Operation → Call → Option Note
queue_note_with values history call =
    if ends_with_one_of (codes "enqueue") (views values.lost.items) history call then Some Note.Lost
    else if ends_by_taking (views values.unexpected.items) history call then Some Note.Unexpected
    else if ends_by_taking (views values.duplicated.items) history call then Some Note.Repeated
    else note_if (begins_with_one_of (codes "enqueue") (views values.recovered.items) history call)
    Note.Recovered

-- ---- sets over time

-- what is found of a set over time is in normal order
pub record AreTimedSorted (elements : TimedElements) : Type 0 where
  pub lost : Ascends (views elements.lost.items)
  pub stale : Ascends (views elements.stale.items)

-- the note of a call, by what is found of a set over time
abbrev pub timed_note_with : TimedElements → List Operation → Call → Option Note
timed_note_with elements history call =
    if begins_with_one_of (codes "add") (views elements.lost.items) history call then Some Note.Lost
    else if begins_with_one_of (codes "add") (views elements.stale.items) history call
    then Some Note.Stale
    else note_if (option_map_or shows_twice (call_completion history call) false) Note.Repeated
