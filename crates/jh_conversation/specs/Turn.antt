-- A turn: all that can be said at a moment. A step that is due is taken, threads that have no call
-- open ask for one, and a phase that is over makes way for the next one. This project's own; which
-- call a thread is given is what the driver of the generator answers (jepsen.generator).
use Rattle.std.specs.Prelude.{ℕ, zero, suc, ◌+◌, ◌*◌, ◌/◌, ◌^◌, ◌==◌, nat_le, Bool, true, false}
use Rattle.std.specs.Prelude.{not}
use Rattle.std.specs.Prelude.{◌&&◌, ◌||◌, pos, List, [], ◌∷◌, length, set, slice_get}
use Rattle.std.specs.Prelude.{slice_index_or}
use Rattle.std.specs.Prelude.{Option, None, Some, if◌then◌else◌}
use Rattle.rand_pcg.specs.Pcg.{pcg64}
use Rattle.jh_edn.specs.Edn.{Edn, int, is_empty}
use Rattle.jh_edn.specs.Parts.{vector_of}
use Rattle.jh_gen.specs.DriverState.{DriverState, asked, max_calls}
use Rattle.jh_gen.specs.declared.answers.GenAnswer.{GenAnswer}
use Rattle.jh_gen.specs.declared.answers.GenAnswer.TheVariants.{Call, Done, Pending}
use Rattle.jh_gen.specs.declared.answers.Thread.TheVariants as thread
use Rattle.jh_nemesis.specs.State.{faults_in}
use Rattle.jh_nemesis.specs.Steps.{answer_of, code_of, state_after}
use Rattle.jh_nemesis.specs.declared.steps.Step.TheVariants.{WithdrawAll}
use Rattle.jh_ops.specs.Words.{content_value}
use Rattle.jh_ops.specs.declared.call.Call.TheVariants as call
use Rattle.jh_ops.specs.declared.call.Request.{Request}
use Rattle.jh_ops.specs.declared.call.Request.TheVariants.{Txn}
use Rattle.jh_ops.specs.Requests.{asked_content}
use Rattle.jh_conversation.specs.Machine.{Machine}
use Rattle.jh_conversation.specs.Machine.{are_free, has_no_call, new_callers, caller_process, say}
use Rattle.jh_conversation.specs.Machine.{caller_of}
use Rattle.jh_test_parts.specs.Test.{TestValue, node_of_thread}
use Rattle.jh_test_parts.specs.Changes.{changed_cells}
use Rattle.jh_test_parts.specs.Transactions.{TransactionSource, next_transaction}
use Rattle.jh_test_parts.specs.declared.calls.ValuedCall.{ValuedCall}
use Rattle.jh_conversation.specs.declared.callers.OpenStep.{OpenStep}
use Rattle.jh_conversation.specs.declared.turns.Due.{Due}
use Rattle.jh_test_parts.specs.declared.parts.TestEntry.{TestEntry}
use Rattle.jh_test_parts.specs.declared.parts.KeyShares.{KeyShares}
use Rattle.jh_conversation.specs.declared.phase.Phase.{Phase}
use Rattle.jh_conversation.specs.declared.phase.Phase.TheVariants.{Main, Heal, Rest, Final, Over}
use Rattle.jh_test_parts.specs.declared.parts.When.{When}
use Rattle.jh_test_parts.specs.declared.parts.When.TheVariants.{Calls, Milliseconds}
use Rattle.jh_test_parts.specs.declared.records.Recorded.TheVariants.{StepBegun, Invoked}

-- How many nanoseconds a second has, and a millisecond.
abbrev pub second : ℕ
second = 10 ^ 9

abbrev pub millisecond : ℕ
millisecond = 10 ^ 6

-- What may be said.

-- how far calls are stopped: those of *main*, or all; 0 where none are
abbrev pub main_stopped : ℕ
main_stopped = 1

abbrev pub all_stopped : ℕ
all_stopped = 2

abbrev pub are_no_calls_stopped : (stops : ℕ) → Bool
are_no_calls_stopped stops = stops == 0

abbrev pub are_all_calls_stopped : (stops : ℕ) → Bool
are_all_calls_stopped stops = nat_le all_stopped stops

-- a limit in milliseconds has come, where there is one
abbrev pub has_come : Option ℕ → ℕ → Bool
has_come None now = false
has_come (Some limit) now = nat_le (limit * millisecond) now

-- one more call keeps to a rate a second
abbrev pub keeps_rate : Option ℕ → ℕ → ℕ → Bool
keeps_rate None given now = true
keeps_rate (Some rate) given now = nat_le (given * second) (now * rate)

-- a call may be given in a phase, so far as stops, the time limit and the rate go
abbrev pub may_call_in_phase : Phase → TestValue → (stops given now : ℕ) → Bool
may_call_in_phase Main t stops given now =
    are_no_calls_stopped stops && (not (has_come t.time_limit now) && keeps_rate t.rate given now)
may_call_in_phase Final t stops given now = not (are_all_calls_stopped stops)
may_call_in_phase _ t stops given now = false

-- a call may be given: in *main* none after a stop, past the time limit or faster than the rate; in
-- *final* none after a second stop; none once the driver has no more
abbrev pub may_call : TestValue → Machine → Bool
may_call t m = not m.has_spent && may_call_in_phase m.phase t m.stops m.given m.clock

-- the calls of a phase are stopped: those of *main* by a stop or the time limit, others by a second stop
abbrev pub are_calls_stopped : Phase → TestValue → (stops now : ℕ) → Bool
are_calls_stopped Main t stops now = not (are_no_calls_stopped stops) || has_come t.time_limit now
are_calls_stopped _ t stops now = are_all_calls_stopped stops

-- no call is open, and no more may come
abbrev pub calls_ended : TestValue → Machine → Bool
calls_ended t m = are_free m.callers && (m.has_spent || are_calls_stopped m.phase t m.stops m.clock)

abbrev pub has_come_to : When → Machine → Bool
has_come_to (Calls n) m = nat_le n m.answered
has_come_to (Milliseconds n) m = nat_le (n * millisecond) m.clock

abbrev pub if_due : Machine → Option TestEntry → Option Due
if_due m None = None
if_due m (Some entry) =
    if has_come_to entry.at m then Some (record { entry = m.taken; step = entry.step }) else None

-- the step that is due: in *main* that of the next entry, and none once the calls have ended or
-- after a stop; in *heal* the withdrawal of all faults, where one is active
abbrev pub due_in_phase : Phase → TestValue → Machine → Option Due
due_in_phase Main t m =
    if calls_ended t m || not (are_no_calls_stopped m.stops) then None
    else if_due m (slice_get t.schedule m.taken)
due_in_phase Heal t m =
    if is_empty m.nemesis.active then None
    else Some (record { entry = length t.schedule; step = WithdrawAll })
due_in_phase _ t m = None

-- 1. The step that is due, where none is open.

abbrev pub begin : Due → Machine → Machine
begin due m =
    let after = state_after m.nemesis due.step in
    say
    (StepBegun m.clock due.entry due.step
    (changed_cells m.nemesis.start (faults_in m.nemesis.active) (faults_in after.active)))
    (record m {
      nemesis = after;
      step = Some (record { entry = due.entry; code = code_of (answer_of m.nemesis due.step) });
      taken = m.taken + 1;
    })

abbrev pub begin_due : Machine → Option OpenStep → Option Due → Machine
begin_due m None (Some due) = begin due m
begin_due m _ _ = m

abbrev pub step : TestValue → Machine → Machine
step t m = begin_due m m.step (due_in_phase m.phase t m)

-- 2. Calls: threads that have none open ask, again and again until a whole round gave nothing.

-- the group of a thread, and how many there are
abbrev pub group_of : KeyShares → ℕ → ℕ
group_of shares thread = thread / shares.threads

abbrev pub group_count : TestValue → KeyShares → ℕ
group_count t shares = t.clients / shares.threads

-- the key of a group's call with this number, from 0: the groups' keys take turns
abbrev pub key_of_call : TestValue → KeyShares → ℕ → ℕ → ℕ
key_of_call t shares group number = group + group_count t shares * (number / shares.calls)

abbrev pub value_with_key : TestValue → Option KeyShares → ℕ → List ℕ → Edn → Edn
value_with_key t None thread counts value = value
value_with_key t (Some shares) thread counts value =
    let group = group_of shares thread in
    vector_of (int (pos (key_of_call t shares group (slice_index_or counts group 0))) ∷ value ∷ [])

-- one more call of the thread's group
abbrev pub counts_after : Option KeyShares → ℕ → List ℕ → List ℕ
counts_after None thread counts = counts
counts_after (Some shares) thread counts =
    let group = group_of shares thread in
    set counts group (slice_index_or counts group 0 + 1)

-- what a request asks with: a transaction is the next one that the seed chooses
abbrev pub value_asked : TransactionSource → Request → Edn
value_asked source Txn = (next_transaction source).0
value_asked source request = content_value (asked_content request)

-- the transactions to come after a request
abbrev pub source_after : TransactionSource → Request → TransactionSource
source_after source Txn = (next_transaction source).1
source_after source request = source

-- the call that a thread makes for a request
abbrev pub call_made : TestValue → Machine → ℕ → Request → ValuedCall
call_made t m thread request = record {
  request = request;
  value = value_with_key t t.keys thread m.calls_by_group (value_asked m.transactions request);
}

abbrev pub invoke : TestValue → ℕ → Request → Machine → Machine
invoke t thread request m =
    let call = call_made t m thread request in
    say (Invoked m.clock (caller_process t m thread) (node_of_thread t thread) call)
    (record m {
      given = m.given + 1;
      transactions = source_after m.transactions request;
      calls_by_group = counts_after t.keys thread m.calls_by_group;
      callers = set m.callers thread (record { used_numbers = (caller_of m thread).used_numbers; call = Some call });
    })

-- what the driver's answer to a thread makes of the machine; a generator of clients gives no step of the
-- nemesis, and a step would end the calls
abbrev pub after_answer : TestValue → ℕ → GenAnswer → Machine → Machine
after_answer t number Pending m = m
after_answer t number Done m = record m { has_spent = true }
after_answer t number (Call process (call.Client request)) m = invoke t number request m
after_answer t number (Call process (call.Step place)) m = record m { has_spent = true }

-- a driver that has given all the calls that it may has no more
abbrev pub driver_answer : DriverState → ℕ → ℕ → GenAnswer × DriverState
driver_answer d number random_number =
    if nat_le max_calls d.given then (Done, d) else asked d (thread.Client number) random_number

abbrev pub ask : TestValue → ℕ → Machine → Machine
ask t number m =
    let drawn = pcg64 m.random_numbers in
    let answer = driver_answer m.driver number drawn.0 in
    after_answer t number answer.0 (record m { driver = answer.1; random_numbers = drawn.1 })

abbrev pub visit : TestValue → ℕ → Machine → Machine
visit t number m =
    if has_no_call (caller_of m number).call && may_call t m then ask t number m else m

-- so many threads from one on
abbrev pub visits : TestValue → ℕ → ℕ → Machine → Machine
visits t number zero m = m
visits t number (suc n) m = visits t (suc number) n (visit t number m)

abbrev pub round : TestValue → Machine → Machine
round t m = visits t 0 t.clients m

-- at most so many rounds, and none behind one that gave nothing
abbrev pub rounds : TestValue → ℕ → Machine → Machine
rounds t zero m = m
rounds t (suc n) m =
    if (round t m).given == m.given then round t m else rounds t n (round t m)

-- each round that gives a call makes a thread busy, so one more than the threads is enough
abbrev pub calls : TestValue → Machine → Machine
calls t m = rounds t (suc t.clients) m

-- 3. The next phase, where this one is over.

abbrev pub heal : Machine → Machine
heal m = record m { phase = Heal }

abbrev pub rest : Machine → Machine
rest m = record m { phase = Rest; rest_began = m.clock }

abbrev pub end : Machine → Machine
end m = record m { phase = Over }

-- the driver of *final*, and all threads anew: each has used up as many numbers as processes have crashed,
-- so none goes on as a process that crashed
abbrev pub final : TestValue → DriverState → Machine → Machine
final t driver m = record m {
  phase = Final;
  driver = driver;
  final_calls = None;
  has_spent = false;
  callers = new_callers t.clients m.crashed;
}

abbrev pub when : Bool → Machine → Option Machine
when b m = if b then Some m else None

abbrev pub has_healed : Machine → Option OpenStep → Bool
has_healed m None = is_empty m.nemesis.active
has_healed m (Some step) = false

abbrev pub has_recovered : TestValue → Machine → Bool
has_recovered t m = nat_le (m.rest_began + t.recovery * millisecond) m.clock

-- *rest* goes over to *final*, which a driver is there for, or to the end
abbrev pub after_rest : TestValue → Option DriverState → Machine → Option Machine
after_rest t None m = Some (end m)
after_rest t (Some driver) m =
    if are_all_calls_stopped m.stops then Some (end m)
    else when (has_recovered t m) (final t driver m)

abbrev pub move_from : Phase → TestValue → Machine → Option Machine
move_from Main t m = when (calls_ended t m) (heal m)
move_from Heal t m = when (has_healed m m.step) (rest m)
move_from Rest t m = after_rest t m.final_calls m
move_from Final t m = when (calls_ended t m) (end m)
move_from Over t m = None

-- the machine in its next phase, or None where it stays in this one
abbrev pub move : TestValue → Machine → Option Machine
move t m = move_from m.phase t m

-- all that can be said in a phase
abbrev pub work : TestValue → Machine → Machine
work t m = calls t (step t m)

abbrev pub go_on : (Machine → Machine) → Machine → Option Machine → Machine
go_on more m None = m
go_on more m (Some next) = more next

-- so many phases at most
abbrev pub passes : TestValue → ℕ → Machine → Machine
passes t zero m = m
passes t (suc n) m = go_on (passes t n) (work t m) (move t (work t m))

-- there are five phases, and none comes twice
unfoldable pub turn : TestValue → Machine → Machine
turn t m = passes t 5 m
