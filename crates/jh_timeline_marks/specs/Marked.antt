-- What a checker found in a history, as marks at its calls (what each checker finds stands in the
-- definitions of its own crate; which calls that marks is this project's own). Each call has at most
-- one note.
use Rattle.std.specs.Prelude.{ℕ, ◌+◌, ℤ, ◌==◌, ◌&&◌, ◌||◌, Bool, true, false, not, nat_lt, List, [], ◌∷◌}
use Rattle.std.specs.Prelude.{length, map, filter, take, codes, if◌then◌else◌, slice_get, Option}
use Rattle.std.specs.Prelude.{Some, None, option_map, option_and_then, is_some}
use Rattle.std.specs.List.{enumerate_from, filter_map, last_or, list_any, position_from}
use Rattle.std.specs.Option.{option_flatten, option_map_or}
use Rattle.jh_edn.specs.Edn.{Edn}
use Rattle.jh_edn.specs.Normal.{normal}
use Rattle.jh_ops.specs.Operation.{Operation, is_asked}
use Rattle.jh_ops.specs.Pairing.{history_pairs}
use Rattle.jh_ops.specs.declared.operation.Kind.{Kind}
use Rattle.jh_ops.specs.declared.pairs.Pair.{Pair}
use Rattle.jh_check.specs.CounterResults.{is_in_bounds, read_ends}
use Rattle.jh_check.specs.Distinct.{has_same_value, set_of}
use Rattle.jh_check.specs.SetResults.{acknowledged_values, elements_shown, final_read}
use Rattle.jh_check.specs.declared.counter.ReadBounds.{ReadBounds}
use Rattle.jh_check.specs.declared.set.SetFound.{SetFound}
use Rattle.jh_checkers.specs.Lines.{named_by_unique_reason}
use Rattle.jh_checkers.specs.declared.explanation.Explanation.{Explanation}
use Rattle.jh_checkers.specs.declared.finding.Finding.{Finding}
use Rattle.jh_checkers.specs.declared.finding.Finding.TheVariants.{Set, Counter, Ids, Register}
use Rattle.jh_checkers.specs.declared.finding.Finding.TheVariants.{ListAppend, TotalQueue, Queue}
use Rattle.jh_checkers.specs.declared.finding.Finding.TheVariants.{Bank, SetFull, Mutex, FifoQueue}
use Rattle.jh_bank.specs.declared.judge.BankResult.{BankResult}
use Rattle.jh_fifo.specs.declared.verdict.FifoVerdict.{FifoVerdict}
use Rattle.jh_fifo.specs.declared.verdict.FifoVerdict.TheVariants as fifo
use Rattle.jh_fifo_check.specs.FifoFindings.{named_by_verdict}
use Rattle.jh_queue.specs.declared.queue.QueueResult.{QueueResult}
use Rattle.jh_queue.specs.declared.queue.QueueResult.TheVariants.{Dequeued, First}
use Rattle.jh_set_full.specs.declared.set_full.SetFullResult.{SetFullResult}
use Rattle.jh_total_queue.specs.TotalQueue.{taken_by}
use Rattle.jh_total_queue.specs.declared.total_queue.TotalQueueResult.{TotalQueueResult}
use Rattle.jh_linear.specs.Operations.{reg_op_of}
use Rattle.jh_linear.specs.declared.operations.Object.{Object}
use Rattle.jh_linear.specs.declared.register.RegCall.{RegCall}
use Rattle.jh_linear.specs.declared.register.RegCall.TheVariants.{Read, Write, Cas}
use Rattle.jh_linear.specs.declared.verdict.LinVerdict.{LinVerdict}
use Rattle.jh_linear.specs.declared.verdict.LinVerdict.TheVariants.{Valid, Invalid, Unknown}
use Rattle.jh_linear.specs.declared.verdict.Stuck.{Stuck}
use Rattle.jh_timeline.specs.Lanes.{call_end}
use Rattle.jh_timeline.specs.declared.marks.Mark.{Mark}
use Rattle.jh_timeline.specs.declared.marks.Note.{Note}
use Rattle.jh_timeline.specs.declared.marks.Place.{Place}
use Rattle.jh_timeline.specs.declared.marks.StepKind.{StepKind}
use Rattle.jh_timeline.specs.declared.picture.Call.{Call}
use Rattle.jh_txn_findings.specs.declared.finding.FoundStep.{FoundStep}
use Rattle.jh_txn_findings.specs.declared.finding.FoundWhy.{FoundWhy}
use Rattle.jh_txn_findings.specs.declared.finding.FoundWhy.TheVariants as why
use Rattle.jh_txn_findings.specs.declared.finding.TxnFinding.{TxnFinding}
use Rattle.jh_txn_findings.specs.declared.finding.TxnFinding.TheVariants as txns

-- ---- calls

-- a note where something holds
abbrev pub note_if : Bool → Note → Option Note
note_if holds note = if holds then Some note else None

-- the record with which the call begins
abbrev pub invocation_of : List Operation → Call → Option Operation
invocation_of history call = slice_get history call.first

abbrev pub call_completion : List Operation → Call → Option Operation
call_completion history call = option_and_then (slice_get history) call.completion

-- the call is completed at this index
abbrev pub is_completed_at : ℕ → Call → Bool
is_completed_at index call = option_map_or (λ completion. completion == index) call.completion false

-- a client's operation of this kind, of the function of this name, has one of these values
abbrev pub has_one_of : Kind → List ℕ → List Edn → Operation → Bool
has_one_of kind name values op = is_asked kind name op && has_same_value values (normal op.value)

-- the call ends with a client's `:ok` of this function, which has one of these values
abbrev pub ends_with_one_of : List ℕ → List Edn → List Operation → Call → Bool
ends_with_one_of name values history call =
    option_map_or (has_one_of Kind.Ok name values) (call_completion history call) false

-- the call begins with a client's invocation of this function, which has one of these values
abbrev pub begins_with_one_of : List ℕ → List Edn → List Operation → Call → Bool
begins_with_one_of name values history call =
    option_map_or (has_one_of Kind.Invoke name values) (invocation_of history call) false

-- the place that a number has among these, if it is one: the first
abbrev pub place_among : List ℕ → ℕ → Option ℕ
place_among numbers number = position_from (λ other. other == number) 0 numbers

-- the call is completed at one of these places of the history
abbrev pub is_completed_among : List ℕ → Call → Bool
is_completed_among places call =
    option_map_or (λ completion. is_some (place_among places completion)) call.completion false

-- ---- registers and mutexes: an operation of a mutex tells no value

-- where clients invoke something: a number in an order means the invocation at this place here
abbrev pub invocations_of : List Operation → List ℕ
invocations_of history = map (λ pair. pair.invoke) (history_pairs history)

-- the number of a call among the operations of the history, by which orders name it
abbrev pub operation_number : List Operation → Call → Option ℕ
operation_number history call = place_among (invocations_of history) call.first

-- the place of a call in an order, if it has one
abbrev pub place_in : List ℕ → List Operation → Call → Option ℕ
place_in order history call = option_and_then (place_among order) (operation_number history call)

-- the value that a register has behind a call, where the call tells: what is written, or was read
abbrev pub value_behind : RegCall → Option ℤ
value_behind (Read seen) = seen
value_behind (Write new) = Some new
value_behind (Cas old new) = Some new

-- the value that the operation of a pair tells
abbrev pub value_told : List Operation → Pair → Option ℤ
value_told history pair =
    option_and_then (λ op. value_behind op.call) (reg_op_of Object.Register history pair)

-- the value that the operation of a number tells
abbrev pub value_told_by : List Operation → ℕ → Option ℤ
value_told_by history number =
    option_and_then (value_told history) (slice_get (history_pairs history) number)

-- what a register holds behind the operations of an order: the last value that one of them tells
abbrev pub held_behind : List Operation → List ℕ → Option ℤ
held_behind history order = last_or None (filter_map (value_told_by history) order)

-- what it holds behind each operation of an order, one after another
abbrev pub held_along : List Operation → List ℕ → List (Option ℤ)
held_along history order =
    map (λ numbered. held_behind history (take (numbered.0 + 1) order)) (enumerate_from 0 order)

-- the place of this number in an order along which a register holds these values
abbrev pub place_along : List (Option ℤ) → ℕ → Place
place_along held number =
    record { number = number; holds = option_flatten (slice_get held number) }

-- its place in an order along which a register holds these values
abbrev pub placed_note : List (Option ℤ) → List ℕ → List Operation → Call → Option Note
placed_note held order history call =
    option_map Note.Placed (option_map (place_along held) (place_in order history call))

-- its place in an order of operations of a register
abbrev pub ordered_note : List ℕ → List Operation → Call → Option Note
ordered_note order history call = placed_note (held_along history order) order history call

-- the numbers of what is pending, where that is known
abbrev pub pending_numbers_in : Option Explanation → List ℕ
pending_numbers_in explanation = option_map_or (λ shown. shown.pending.items) explanation []

-- it is pending where the history is stuck
abbrev pub is_pending_call : Option Explanation → List Operation → Call → Bool
is_pending_call explanation history call =
    is_some (place_in (pending_numbers_in explanation) history call)

-- the numbers of what the reason names why there is no order, where one is given
abbrev pub named_numbers_in : Option Explanation → List ℕ
named_numbers_in explanation =
    option_map_or named_by_unique_reason (option_and_then (λ shown. shown.because) explanation) []

-- it is named by that reason
abbrev pub is_named_call : Option Explanation → List Operation → Call → Bool
is_named_call explanation history call =
    is_some (place_in (named_numbers_in explanation) history call)

-- Of a no: that the history is stuck at its completion, or that the reason names it, or that it is
-- pending where the history is stuck, with its place in the order of what is before, or its place
-- there.
abbrev pub stuck_note : Stuck → Option Explanation → List Operation → Call → Option Note
stuck_note stuck explanation history call =
    if is_completed_at stuck.end call then Some Note.Stuck
    else if is_named_call explanation history call then Some Note.Named
    else if is_pending_call explanation history call
    then Some (Note.Pending (option_map (place_along (held_along history stuck.order))
    (place_in stuck.order history call)))
    else ordered_note stuck.order history call

-- of a yes its place in the order
abbrev pub register_note : LinVerdict → Option Explanation → List Operation → Call → Option Note
register_note (Valid order) explanation history call = ordered_note order history call
register_note (Invalid stuck) explanation history call = stuck_note stuck explanation history call
register_note (Unknown reached) explanation history call = None

-- ---- unique ids

-- it gave an id that was given more than once
abbrev pub ids_note : List (Edn × ℕ) → List Operation → Call → Option Note
ids_note duplicated history call =
    let ids = map (λ id. id.0) duplicated in
    note_if (ends_with_one_of (codes "generate") ids history call) Note.Repeated

-- ---- counters

-- the bounds of the read that is completed at an index, if one is
abbrev pub read_bounds_at : List ReadBounds → List Operation → ℕ → Option ReadBounds
read_bounds_at reads history index =
    option_and_then (slice_get reads)
    (place_among (read_ends history (history_pairs history)) index)

-- the bounds, where what was read lies outside
abbrev pub outside_note : ReadBounds → Option Note
outside_note read = note_if (not (is_in_bounds read)) (Note.Outside read.lower read.upper)

-- it read what lies outside its bounds
abbrev pub counter_note : List ReadBounds → List Operation → Call → Option Note
counter_note reads history call =
    option_and_then outside_note (option_and_then (read_bounds_at reads history) call.completion)

-- ---- sets

-- the call acknowledges one of these: it ends with a client's `:ok` of its add
abbrev pub acknowledges : List Edn → List Operation → Call → Bool
acknowledges elements history call = ends_with_one_of (codes "add") elements history call

-- the call ends before the last read that happened, by which the set is judged, if there is one
abbrev pub ends_before_read : List Operation → Call → Bool
ends_before_read history call =
    option_map_or (λ read. nat_lt (call_end call) read.0) (final_read history) true

-- the records before that read, and all where there is none
abbrev pub before_final_read : List Operation → List Operation
before_final_read history = option_map_or (λ read. take read.0 history) (final_read history) history

-- what was acknowledged by then
abbrev pub acknowledged_before : List Operation → List Edn
acknowledged_before history = acknowledged_values (before_final_read history)

-- the elements that are lost and were not acknowledged by then
abbrev pub late_losses : SetFound → List Operation → List Edn
late_losses found history =
    filter (λ x. not (has_same_value (acknowledged_before history) x)) found.lost

-- It acknowledges a lost element before that read, which should have shown it. One that was not
-- acknowledged by then is lost by what acknowledged it behind the read.
abbrev pub acknowledges_lost : SetFound → List Operation → Call → Bool
acknowledges_lost found history call =
    (acknowledges found.lost history call && ends_before_read history call)
    || acknowledges (late_losses found history) history call

-- it is completed by the last read that happened
abbrev pub is_final_read : List Operation → Call → Bool
is_final_read history call =
    option_map_or (λ read. is_completed_at read.0 call) (final_read history) false

-- it is the read that shows what nobody tried to add
abbrev pub shows_unexpected : SetFound → List Operation → Call → Bool
shows_unexpected found history call =
    not (length found.unexpected == 0) && is_final_read history call

-- it acknowledged what is lost, or tried to add what is recovered, or showed what is unexpected
abbrev pub found_note : SetFound → List Operation → Call → Option Note
found_note found history call =
    if acknowledges_lost found history call then Some Note.Lost
    else if begins_with_one_of (codes "add") found.recovered history call then Some Note.Recovered
    else note_if (shows_unexpected found history call) Note.Unexpected

-- nothing, where the set was never read
abbrev pub set_note : Option SetFound → List Operation → Call → Option Note
set_note found history call = option_and_then (λ shown. found_note shown history call) found

-- ---- transactions

-- how a step leads on
abbrev pub step_kind_of : FoundWhy → StepKind
step_kind_of (why.WriteRead key element) = StepKind.WriteRead
step_kind_of (why.WriteWrite key element) = StepKind.WriteWrite
step_kind_of (why.FirstCommitter key element) = StepKind.FirstCommitter
step_kind_of (why.ReadWrite key element) = StepKind.ReadWrite
step_kind_of why.RealTime = StepKind.RealTime

-- a step of a cycle
abbrev pub step_note : FoundStep → Note
step_note step = Note.Step step.place (step_kind_of step.why)

-- the first step of a cycle that leads from its transaction
abbrev pub cycle_note : List FoundStep → List Operation → Call → Option Note
cycle_note steps history call =
    option_map step_note (option_and_then (slice_get steps)
    (place_in (map (λ step. step.place) steps) history call))

-- the number is this one
abbrev pub is_at_number : ℕ → Option ℕ → Bool
is_at_number number found = option_map_or (λ other. other == number) found false

-- it is the transaction at this place
abbrev pub has_bad_read : ℕ → List Operation → Call → Bool
has_bad_read place history call =
    is_at_number place (operation_number history call)

-- its first place in an order, of a snapshot order where it starts; its bad read; its step of a cycle
abbrev pub transactions_note : TxnFinding → List Operation → Call → Option Note
transactions_note (txns.Valid order) history call = placed_note [] order.items history call
transactions_note (txns.BadRead place index kind operations) history call =
    note_if (has_bad_read place history call) Note.BadRead
transactions_note (txns.Cycle steps operations) history call = cycle_note steps.items history call
transactions_note txns.Unknown history call = None

-- ---- queues

-- the values of a tally
abbrev pub counted_values : List (Edn × ℕ) → List Edn
counted_values tally = map (λ entry. entry.0) tally

-- the operation is known to have taken out one of these
abbrev pub takes_one_of : List Edn → Operation → Bool
takes_one_of values op = list_any (λ x. has_same_value values (normal x)) (taken_by op)

-- the call ends by taking out one of these
abbrev pub ends_by_taking : List Edn → List Operation → Call → Bool
ends_by_taking values history call =
    option_map_or (takes_one_of values) (call_completion history call) false

-- it put in what is lost, took out what is unexpected or came out too often, or tried to put in what is
-- recovered
abbrev pub total_queue_note : TotalQueueResult → List Operation → Call → Option Note
total_queue_note found history call =
    if ends_with_one_of (codes "enqueue") (counted_values found.lost) history call
    then Some Note.Lost
    else if ends_by_taking (counted_values found.unexpected) history call then Some Note.Unexpected
    else if ends_by_taking (counted_values found.duplicated) history call then Some Note.Repeated
    else note_if
    (begins_with_one_of (codes "enqueue") (counted_values found.recovered) history call)
    Note.Recovered

-- it is the first dequeue that comes from no enqueue
abbrev pub queue_note : QueueResult → Call → Option Note
queue_note (Dequeued count) call = None
queue_note (First place completion) call =
    note_if (is_completed_among (place ∷ []) call) Note.Unexpected

-- the verdict on a first-in-first-out queue names it
abbrev pub named_note : FifoVerdict → List Operation → Call → Option Note
named_note verdict history call =
    note_if (is_some (place_in (named_by_verdict verdict) history call)) Note.Named

-- of a yes its place in the order
abbrev pub fifo_note : FifoVerdict → List Operation → Call → Option Note
fifo_note (fifo.Valid order) history call = placed_note [] order.items history call
fifo_note verdict history call = named_note verdict history call

-- ---- banks

-- it is a read that has an error
abbrev pub bank_note : BankResult → Call → Option Note
bank_note found call = note_if (is_completed_among found.wrong.items call) Note.WrongBalances

-- ---- sets over time

-- a read that happened shows an element more than once
abbrev pub shows_twice : Operation → Bool
shows_twice op =
    is_asked Kind.Ok (codes "read") op
    && option_map_or (λ xs. nat_lt (length (set_of (map normal xs))) (length xs))
    (elements_shown op.value) false

-- it tried to add what is lost, or what was stale, or showed an element twice
abbrev pub set_full_note : SetFullResult → List Operation → Call → Option Note
set_full_note found history call =
    if begins_with_one_of (codes "add") found.lost history call then Some Note.Lost
    else if begins_with_one_of (codes "add") (map (λ stale. stale.0) found.stale) history call
    then Some Note.Stale
    else note_if (option_map_or shows_twice (call_completion history call) false) Note.Repeated

-- ---- all

-- the note of a call, by a finding
abbrev pub note_of : Finding → List Operation → Call → Option Note
note_of (Set found) history call = set_note found.found history call
note_of (Counter found) history call = counter_note found.reads history call
note_of (Ids found) history call = ids_note found.duplicated history call
note_of (Register judged explanation) history call = register_note judged explanation history call
note_of (ListAppend found) history call = transactions_note found history call
note_of (TotalQueue found) history call = total_queue_note found history call
note_of (Queue found) history call = queue_note found call
note_of (Bank found) history call = bank_note found call
note_of (SetFull found) history call = set_full_note found history call
note_of (Mutex judged explanation) history call = register_note judged explanation history call
note_of (FifoQueue found) history call = fifo_note found.verdict history call

-- the mark of a note at the call of a number
abbrev pub mark_at : ℕ → Option Note → Option Mark
mark_at call note = option_map (λ shown. record { call = call; note = shown }) note

-- call by call its mark, where it has a note
abbrev pub marks_by : (Call → Option Note) → List Call → List Mark
marks_by note calls =
    filter_map (λ numbered. mark_at numbered.0 (note numbered.1)) (enumerate_from 0 calls)

-- the marks of calls
abbrev pub marks_of : List Operation → Finding → List Call → List Mark
marks_of history finding calls = marks_by (note_of finding history) calls
