-- What holds of every test and every list of lines that is read. Each law is proved as the clause of a
-- function that does nothing. This project's own.
use Rattle.std.specs.Prelude.{◌≡◌, ℕ, suc, ◌+◌, ◌==◌, ◌<◌, ◌≤◌, true, false, ◌&&◌}
use Rattle.std.specs.Prelude.{◌*◌, List, [], ◌∷◌, ◌++◌, Option, Some, None, if◌then◌else◌}
use Rattle.std.specs.Prelude.{Result, Ok, Err}
use Rattle.std.specs.List.{AllByRecursion}
use Rattle.jh_edn.specs.Edn.{Edn, is_empty}
use Rattle.jh_env.specs.Cells.{Link, NodeCell, link_at, node_at}
use Rattle.jh_env.specs.Overlay.{link_over, node_over}
use Rattle.jh_gen.specs.DriverState.{DriverState, IsDriverOf, IsFresh}
use Rattle.jh_gen.specs.Generator.{Generator, clients, limit}
use Rattle.jh_lines.specs.Answering.{after_lines}
use Rattle.jh_nemesis.specs.State.{faults_in, first_state}
use Rattle.jh_ops.specs.Operation.{Operation}
use Rattle.jh_ops.specs.declared.call.Request.{Request}
use Rattle.jh_ops.specs.declared.operation.Kind.{Kind}
use Rattle.jh_ops.specs.declared.operation.Process.{Process}
use Rattle.jh_ops.specs.Pairing.{is_invoke}
use Rattle.jh_test_parts.specs.LineMeanings.{MeaningValue, Op, Bad}
use Rattle.jh_conversation.specs.Lines.{ends_step, at_first, clock_after, ended_request, is_test_over}
use Rattle.jh_test_parts.specs.LineMeanings.{kept_pairs, line_meaning}
use Rattle.jh_conversation.specs.Lines.{count_line, take_line, take_in}
use Rattle.jh_test_parts.specs.Values.{fits_call}
use Rattle.jh_test_parts.specs.Test.{thread_of_process}
use Rattle.jh_conversation.specs.Machine.{Machine, are_free, caller_of}
use Rattle.jh_test_parts.specs.Test.{TestValue}
use Rattle.jh_conversation.specs.Turn.{all_stopped, keeps_rate, main_stopped, may_call, millisecond}
use Rattle.jh_conversation.specs.Turn.{move, round, second, turn}
use Rattle.jh_test_parts.specs.declared.calls.ValuedCall.{ValuedCall}
use Rattle.jh_conversation.specs.declared.callers.BadLine.{BadLine}
use Rattle.jh_conversation.specs.declared.callers.OpenStep.{OpenStep}
use Rattle.jh_test_parts.specs.declared.complaints.Complaint.{Complaint}
use Rattle.jh_test_parts.specs.declared.complaints.Complaint.TheVariants as complaint
use Rattle.jh_conversation.specs.declared.phase.Phase.{Phase}
use Rattle.jh_conversation.specs.declared.phase.Phase.TheVariants.{Main, Heal, Rest, Over}
use Rattle.jh_test_parts.specs.declared.records.ChangedLink.{ChangedLink}
use Rattle.jh_test_parts.specs.declared.records.ChangedNode.{ChangedNode}
use Rattle.jh_test_parts.specs.declared.records.Recorded.{Recorded}
use Rattle.jh_test_parts.specs.declared.records.Recorded.TheVariants.{Invoked, Ended, StepBegun}
use Rattle.jh_test_parts.specs.declared.records.Recorded.TheVariants.{StepEnded}

-- a driver of the test before its first call, of this generator
abbrev pub IsDriverAtFirst : TestValue → Generator → DriverState → Type 0
IsDriverAtFirst t generator driver =
    IsDriverOf driver (clients (limit t.ops generator)) [] × IsFresh driver t.clients

abbrev pub IsFinalDriver : TestValue → Option Generator → Option DriverState → Type 0
IsFinalDriver t None None = Unit {0}
IsFinalDriver t (Some generator) (Some driver) = IsDriverAtFirst t generator driver
IsFinalDriver t _ _ = ⊥

-- The drivers that a test begins with: of its generator, and of its final one where there is one.
pub record Drivers (t : TestValue) : Type 0 where
  pub first : DriverState
  pub is_first : IsDriverAtFirst t t.generator first
  pub final_calls : Option DriverState
  pub is_final : IsFinalDriver t t.final_calls final_calls

-- the machine behind its first turn
abbrev pub start : (t : TestValue) → Drivers t → Machine
start t d = turn t (at_first t d.first d.final_calls (first_state t.start))

-- the machine after these lines
abbrev pub run : (t : TestValue) → Drivers t → List (List ℕ) → Machine
run t d lines = after_lines (take_line t) (start t d) lines

-- The history is the conversation.

-- the clock behind a line with this time
abbrev pub clock_at : Option ℕ → ℕ → ℕ
clock_at None now = now
clock_at (Some time) now = clock_after now time

-- the record of the end of the step that is open, if it is one
abbrev pub step_ended_by : Option OpenStep → Operation → ℕ → List Recorded
step_ended_by None op now = []
step_ended_by (Some step) op now =
    if ends_step step op then StepEnded now step.entry step.code (kept_pairs op) ∷ [] else []

-- the record of the end of a call, if it is one
abbrev pub ended_by : ℕ → Operation → ℕ → Result Request Complaint → List Recorded
ended_by process op now (Err why) = []
ended_by process op now (Ok request) =
    Ended now process op.kind request op.value (kept_pairs op) ∷ []

abbrev pub heard_from : TestValue → Machine → Operation → ℕ → Process → List Recorded
heard_from t m op now Process.Nemesis = step_ended_by m.step op now
heard_from t m op now (Process.Client process) =
    ended_by process op now
    (ended_request t m process op (caller_of m (thread_of_process t process)).call)

-- the record of what a line means, if it ends a call or a step
abbrev pub heard : TestValue → Machine → MeaningValue → List Recorded
heard t m (Op op time) = heard_from t m op (clock_at time m.clock) op.process
heard t m _ = []

-- what is read and what is then said, the newest first; behind the end nothing is heard
abbrev pub talk_at : TestValue → Machine → List ℕ → List Recorded
talk_at t m line =
    (take_line t m line).said ++ (if is_test_over m then [] else heard t m (line_meaning line))

abbrev pub talk_from : TestValue → Machine → List (List ℕ) → List Recorded
talk_from t m [] = []
talk_from t m (line ∷ lines) = talk_from t (take_line t m line) lines ++ talk_at t m line

abbrev pub talk : (t : TestValue) → Drivers t → List (List ℕ) → List Recorded
talk t d lines = talk_from t (start t d) lines ++ (start t d).said

abbrev pub HistoryIsTalk : Type 0
HistoryIsTalk =
    (t : TestValue) (d : Drivers t) (lines : List (List ℕ)) → (run t d lines).history ≡ talk t d lines

-- What is said are calls and steps, what is heard the ends of calls and of steps.
abbrev pub IsSaid : Recorded → Type 0
IsSaid (Invoked time process node call) = Unit {0}
IsSaid (StepBegun time entry step cells) = Unit {0}
IsSaid _ = ⊥

abbrev pub IsHeard : Recorded → Type 0
IsHeard (Ended time process kind request value rest) = Unit {0}
IsHeard (StepEnded time entry code rest) = Unit {0}
IsHeard _ = ⊥

abbrev pub KindsAreApart : Type 0
KindsAreApart =
    (t : TestValue) (d : Drivers t) (lines : List (List ℕ)) (line : List ℕ)
    → AllByRecursion IsSaid (take_line t (run t d lines) line).said
    × AllByRecursion IsHeard (heard t (run t d lines) (line_meaning line))

-- its times never go back
abbrev pub time_of : Recorded → ℕ
time_of (Invoked time process node call) = time
time_of (Ended time process kind request value rest) = time
time_of (StepBegun time entry step cells) = time
time_of (StepEnded time entry code rest) = time

abbrev pub AreTimesInOrder : ℕ → List Recorded → Type 0
AreTimesInOrder now [] = Unit {0}
AreTimesInOrder now (r ∷ past) = (time_of r ≤ now) × AreTimesInOrder (time_of r) past

abbrev pub TimesAreInOrder : Type 0
TimesAreInOrder =
    (t : TestValue) (d : Drivers t) (lines : List (List ℕ))
    → AreTimesInOrder (run t d lines).clock (run t d lines).history

-- The history is well formed.

-- what a process does: nothing, this call, or nothing any more
pub data Status : Type 0 where
  Idle : Status
  Busy : ValuedCall → Status
  Gone : Status

abbrev pub after_end : Kind → Status
after_end Kind.Info = Gone
after_end _ = Idle

-- what a process does behind a history, the newest record first
abbrev pub status : ℕ → List Recorded → Status
status p [] = Idle
status p (Invoked time process node call ∷ past) =
    if process == p then Busy call else status p past
status p (Ended time process kind request value rest ∷ past) =
    if process == p then after_end kind else status p past
status p (_ ∷ past) = status p past

-- the call that a process has open ends so: with its own request, and a value that it can have
abbrev pub IsEndOfOpen : TestValue → Status → Kind → Request → Edn → Type 0
IsEndOfOpen t (Busy call) kind request value =
    (is_invoke kind ≡ false) × (request ≡ call.request) × (fits_call t call kind value ≡ true)
IsEndOfOpen t _ kind request value = ⊥

-- A process invokes only while it does nothing, and its call ends, once, only while it is open.
abbrev pub IsFormed : TestValue → List Recorded → Type 0
IsFormed t [] = Unit {0}
IsFormed t (Invoked time process node call ∷ past) = (status process past ≡ Idle) × IsFormed t past
IsFormed t (Ended time process kind request value rest ∷ past) =
    IsEndOfOpen t (status process past) kind request value × IsFormed t past
IsFormed t (_ ∷ past) = IsFormed t past

abbrev pub HistoryIsFormed : Type 0
HistoryIsFormed =
    (t : TestValue) (d : Drivers t) (lines : List (List ℕ)) → IsFormed t (run t d lines).history

-- The cells of the steps are the environment.

-- what a link that was l is after these changes, in order
abbrev pub link_after_changes : List ChangedLink → ℕ → ℕ → Link → Link
link_after_changes [] a b l = l
link_after_changes (one ∷ more) a b l =
    link_after_changes more a b (if one.source == a && one.destination == b then one.link else l)

abbrev pub node_after_changes : List ChangedNode → ℕ → NodeCell → NodeCell
node_after_changes [] a n = n
node_after_changes (one ∷ more) a n = node_after_changes more a (if one.node == a then one.cell else n)

-- what it is after all steps of a history, the newest record first
abbrev pub link_after_steps : List Recorded → ℕ → ℕ → Link → Link
link_after_steps [] a b l = l
link_after_steps (StepBegun time entry step cells ∷ past) a b l =
    link_after_changes cells.links a b (link_after_steps past a b l)
link_after_steps (_ ∷ past) a b l = link_after_steps past a b l

abbrev pub node_after_steps : List Recorded → ℕ → NodeCell → NodeCell
node_after_steps [] a n = n
node_after_steps (StepBegun time entry step cells ∷ past) a n = node_after_changes cells.nodes a (node_after_steps past a n)
node_after_steps (_ ∷ past) a n = node_after_steps past a n

-- at each moment the changes of all steps, applied to the start in order, are what the active faults
-- make of it
abbrev pub CellsAreEnvironment : Type 0
CellsAreEnvironment =
    (t : TestValue) (d : Drivers t) (lines : List (List ℕ)) (a b : ℕ) (l : Link) (n : NodeCell)
    → (link_at t.start.start a b ≡ Some l
    → link_after_steps (run t d lines).history a b l
    ≡ link_over (faults_in (run t d lines).nemesis.active) a b l)
    × (node_at t.start.start a ≡ Some n
    → node_after_steps (run t d lines).history a n
    ≡ node_over (faults_in (run t d lines).nemesis.active) a n)

abbrev pub IsPastHeal : Phase → Type 0
IsPastHeal Main = ⊥
IsPastHeal Heal = ⊥
IsPastHeal _ = Unit {0}

-- from *rest* on no fault is active, and the changes add up to the start
abbrev pub RestIsQuiet : Type 0
RestIsQuiet =
    (t : TestValue) (d : Drivers t) (lines : List (List ℕ)) → IsPastHeal (run t d lines).phase
    → is_empty (run t d lines).nemesis.active ≡ true

abbrev pub RestIsStart : Type 0
RestIsStart =
    (t : TestValue) (d : Drivers t) (lines : List (List ℕ)) (a b : ℕ) (l : Link) (n : NodeCell)
    → IsPastHeal (run t d lines).phase
    → (link_at t.start.start a b ≡ Some l → link_after_steps (run t d lines).history a b l ≡ l)
    × (node_at t.start.start a ≡ Some n → node_after_steps (run t d lines).history a n ≡ n)

-- Calls.

abbrev pub invocations_in : List Recorded → ℕ
invocations_in [] = 0
invocations_in (Invoked time process node call ∷ past) = suc (invocations_in past)
invocations_in (_ ∷ past) = invocations_in past

-- *final* has not begun
abbrev pub IsBeforeFinal : Phase → Type 0
IsBeforeFinal Main = Unit {0}
IsBeforeFinal Heal = Unit {0}
IsBeforeFinal Rest = Unit {0}
IsBeforeFinal _ = ⊥

-- the machine that has taken in a line, before its turn
abbrev pub took : (t : TestValue) → Drivers t → List (List ℕ) → List ℕ → Machine
took t d lines line = take_in t (line_meaning line) (count_line (run t d lines))

-- from a line on that stops, there is no call until *final* begins
abbrev pub StopEndsMainCalls : Type 0
StopEndsMainCalls =
    (t : TestValue) (d : Drivers t) (lines more : List (List ℕ)) (line : List ℕ)
    → main_stopped ≤ (took t d lines line).stops → IsBeforeFinal (run t d (lines ++ line ∷ more)).phase
    → invocations_in (run t d (lines ++ line ∷ more)).history ≡ invocations_in (run t d lines).history

-- and from one on that stops a second time, or that is no reply, there is none at all
abbrev pub TwoStopsEndCalls : Type 0
TwoStopsEndCalls =
    (t : TestValue) (d : Drivers t) (lines more : List (List ℕ)) (line : List ℕ)
    → all_stopped ≤ (took t d lines line).stops
    → invocations_in (run t d (lines ++ line ∷ more)).history ≡ invocations_in (run t d lines).history

-- before so many milliseconds, where there is a limit
abbrev pub IsBeforeLimit : Option ℕ → ℕ → Type 0
IsBeforeLimit None time = Unit {0}
IsBeforeLimit (Some most) time = time < most * millisecond

-- the call with this number, from 0, is not before its time at so many calls a second
abbrev pub IsAtRate : Option ℕ → ℕ → ℕ → Type 0
IsAtRate None number time = Unit {0}
IsAtRate (Some rate) number time = number * second ≤ time * rate

-- no call is past the limit or faster than the rate
abbrev pub AreTimely : TestValue → List Recorded → Type 0
AreTimely t [] = Unit {0}
AreTimely t (Invoked time process node call ∷ past) =
    IsBeforeLimit t.time_limit time × IsAtRate t.rate (invocations_in past) time × AreTimely t past
AreTimely t (_ ∷ past) = AreTimely t past

abbrev pub CallsAreTimely : Type 0
CallsAreTimely =
    (t : TestValue) (d : Drivers t) (lines : List (List ℕ)) → IsBeforeFinal (run t d lines).phase
    → AreTimely t (run t d lines).history

-- The first line that is no reply is the one that is kept.

abbrev pub complaint_of_step_end : Option OpenStep → Operation → Option Complaint
complaint_of_step_end None op = Some complaint.NoStepOpen
complaint_of_step_end (Some step) op = if ends_step step op then None else Some complaint.OtherStep

-- why no call is ended, if none is
abbrev pub complaint_of_end : Result Request Complaint → Option Complaint
complaint_of_end (Ok request) = None
complaint_of_end (Err why) = Some why

abbrev pub complaint_of_operation : TestValue → Machine → Operation → Process → Option Complaint
complaint_of_operation t m op Process.Nemesis = complaint_of_step_end m.step op
complaint_of_operation t m op (Process.Client process) =
    complaint_of_end (ended_request t m process op (caller_of m (thread_of_process t process)).call)

-- why a line is no reply, if it is none
abbrev pub complaint_of : TestValue → Machine → MeaningValue → Option Complaint
complaint_of t m (Bad why) = Some why
complaint_of t m (Op op time) = complaint_of_operation t m op op.process
complaint_of t m _ = None

-- the first line that is no reply with its number, counted on from n; what is read behind the end is not
-- looked at
abbrev pub first_bad_or : (t : TestValue) → Option Complaint → ℕ → Option BadLine → Option BadLine
first_bad_or t None number later = later
first_bad_or t (Some why) number later = Some (record { number = number; why = why })

abbrev pub first_bad : TestValue → Machine → ℕ → List (List ℕ) → Option BadLine
first_bad t m n [] = None
first_bad t m n (line ∷ lines) =
    first_bad_or t (if is_test_over m then None else complaint_of t m (line_meaning line)) (n + 1)
    (first_bad t (take_line t m line) (n + 1) lines)

abbrev pub FirstBadIsKept : Type 0
FirstBadIsKept =
    (t : TestValue) (d : Drivers t) (lines : List (List ℕ))
    → (run t d lines).bad ≡ first_bad t (start t d) 0 lines

-- Each turn ends, and what the machine then waits for.

-- the last of the passes stays in its phase, and its last round gave nothing
abbrev pub TurnSettles : Type 0
TurnSettles =
    (t : TestValue) (d : Drivers t) (lines : List (List ℕ)) (line : List ℕ)
    → is_test_over (run t d lines) ≡ false
    → (last : Machine) × (take_line t (run t d lines) line ≡ round t last)
    × ((round t last).given ≡ last.given) × (move t (round t last) ≡ None)

-- What a machine waits for.
pub data Waits (t : TestValue) (m : Machine) : Type 0 where
  -- it is over
  IsOver : m.phase ≡ Over → Waits t m
  -- a call is open
  ForCall : are_free m.callers ≡ false → Waits t m
  -- a step is open
  ForStep : (step : OpenStep) → m.step ≡ Some step → Waits t m
  -- one more call would be faster than the rate
  ForRate : m.phase ≡ Main → keeps_rate t.rate m.given m.clock ≡ false → Waits t m
  -- the time of recovery has not passed
  ForRecovery : m.phase ≡ Rest → m.clock < m.rest_began + t.recovery * millisecond → Waits t m
  -- in the last round the generator gave no call, though none is open and one may be given
  ForGenerator : (last : Machine) → m ≡ round t last → m.given ≡ last.given
      → are_free m.callers ≡ true → may_call t m ≡ true → Waits t m

abbrev pub AlwaysWaits : Type 0
AlwaysWaits = (t : TestValue) (d : Drivers t) (lines : List (List ℕ)) → Waits t (run t d lines)
