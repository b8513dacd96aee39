-- What the machine makes of a line that is read. This project's own; that a client which crashed goes on
-- as another process is jepsen.generator's.
use Rattle.std.specs.Prelude.{ℕ, ◌+◌, ◌-◌, ◌^◌, ◌==◌, max, min, Bool, true, false, ◌&&◌, ◌||◌, not}
use Rattle.std.specs.Prelude.{pos, List}
use Rattle.std.specs.Prelude.{[], set, codes, Option, None, Some, Result, Ok, Err}
use Rattle.std.specs.Prelude.{if◌then◌else◌, replicate}
use Rattle.jh_edn.specs.Edn.{int, is_keyword}
use Rattle.jh_gen.specs.DriverState.{DriverState, driver_after_end}
use Rattle.jh_gen.specs.declared.answers.Ended.{Ended}
use Rattle.jh_gen.specs.declared.answers.Ended.TheVariants as ended
use Rattle.jh_gen.specs.declared.answers.Thread.TheVariants as thread
use Rattle.jh_nemesis.specs.State.{State}
use Rattle.rand_pcg.specs.Lcg.{started, increment_of}
use Rattle.rand_pcg.specs.Pcg.{multiplier_128}
use Rattle.jh_ops.specs.Operation.{Operation}
use Rattle.jh_ops.specs.Pairing.{is_info, is_invoke}
use Rattle.jh_ops.specs.declared.call.Request.{Request}
use Rattle.jh_ops.specs.declared.operation.Kind.{Kind}
use Rattle.jh_ops.specs.declared.operation.Process.{Process}
use Rattle.jh_ops.specs.Requests.{request_name}
use Rattle.jh_txn_histories.specs.Written.{is_equal}
use Rattle.jh_conversation.specs.Machine.{Machine}
use Rattle.jh_conversation.specs.Machine.{hear, new_callers, caller_process, caller_of}
use Rattle.jh_test_parts.specs.LineMeanings.{MeaningValue, Nothing, Clock, Stop, Op, Bad, kept_pairs, line_meaning}
use Rattle.jh_test_parts.specs.Test.{thread_of_process}
use Rattle.jh_test_parts.specs.Values.{fits_call}
use Rattle.jh_test_parts.specs.Transactions.{first_source}
use Rattle.jh_test_parts.specs.Test.{TestValue}
use Rattle.jh_conversation.specs.Turn.{all_stopped, main_stopped, turn}
use Rattle.jh_test_parts.specs.declared.calls.ValuedCall.{ValuedCall}
use Rattle.jh_conversation.specs.declared.callers.BadLine.{BadLine}
use Rattle.jh_conversation.specs.declared.callers.OpenStep.{OpenStep}
use Rattle.jh_test_parts.specs.declared.complaints.Complaint.{Complaint}
use Rattle.jh_test_parts.specs.declared.complaints.Complaint.TheVariants as complaint
use Rattle.jh_conversation.specs.declared.phase.Phase.{Phase}
use Rattle.jh_conversation.specs.declared.phase.Phase.TheVariants.{Main, Over}
use Rattle.jh_test_parts.specs.declared.records.Recorded.TheVariants.{StepEnded, Ended as EndedCall}

abbrev pub is_end_phase : Phase → Bool
is_end_phase Over = true
is_end_phase _ = false

abbrev pub is_test_over : Machine → Bool
is_test_over m = is_end_phase m.phase

-- the first of these lines is kept
abbrev pub first : Option BadLine → BadLine → Option BadLine
first None later = Some later
first (Some earlier) later = Some earlier

-- how far calls are stopped after so many more stops: two of them stop all calls
abbrev pub stops_after : ℕ → ℕ → ℕ
stops_after more stops = min all_stopped (stops + more)

-- A line that is no reply: the first one is kept, and each stops all calls.
abbrev pub refuse : Complaint → Machine → Machine
refuse why m = record m {
  bad = first m.bad (record { number = m.read; why = why });
  stops = stops_after all_stopped m.stops;
}

-- the greatest time that was read; an integer of a text is less than 2^63
abbrev pub clock_after : ℕ → ℕ → ℕ
clock_after now time = min (max now time) (2 ^ 63 - 1)

abbrev pub at_time : Option ℕ → Machine → Machine
at_time None m = m
at_time (Some time) m = record m { clock = clock_after m.clock time }

-- a stop in *main* stops its calls, one elsewhere all
abbrev pub stops_by : Phase → ℕ
stops_by Main = main_stopped
stops_by _ = all_stopped

abbrev pub stop : Machine → Machine
stop m = record m { stops = stops_after (stops_by m.phase) m.stops }

-- Completions.

abbrev pub more_crashes : Kind → ℕ
more_crashes Kind.Info = 1
more_crashes _ = 0

abbrev pub ended_as : Kind → Ended
ended_as Kind.Ok = ended.Ok
ended_as Kind.Fail = ended.Fail
ended_as _ = ended.Info

-- a call of a thread, which made this request, has ended
abbrev pub finish : TestValue → ℕ → Request → Operation → Machine → Machine
finish t number request op m =
    hear
    (EndedCall m.clock (caller_process t m number) op.kind request op.value
    (kept_pairs op))
    (record m {
      driver = driver_after_end m.driver (thread.Client number) (ended_as op.kind);
      answered = m.answered + 1;
      crashed = m.crashed + more_crashes op.kind;
      callers = set m.callers number (record {
        used_numbers = (caller_of m number).used_numbers + more_crashes op.kind;
        call = None;
      });
    })

-- The request whose call an operation ends, or why it ends none: the thread of its process has a call open
-- under this number, whose function it has, and a value that this call can have.
abbrev pub ended_call : TestValue → ValuedCall → Operation → Result Request Complaint
ended_call t call op =
    if is_invoke op.kind || not (is_keyword (request_name call.request) op.f)
    then Err complaint.OtherCall
    else if not (fits_call t call op.kind op.value) then Err complaint.BadValue
    else Ok call.request

abbrev pub ended_request : TestValue → Machine → ℕ → Operation → Option ValuedCall
    → Result Request Complaint
ended_request t m process op None = Err complaint.NoCallOpen
ended_request t m process op (Some call) =
    if caller_process t m (thread_of_process t process) == process then ended_call t call op
    else Err complaint.NoCallOpen

-- the machine behind an operation of a thread's process, which ends a call or none
abbrev pub take_completion : TestValue → ℕ → Operation → Option ℕ → Machine → Result Request Complaint
    → Machine
take_completion t number op time m (Err why) = refuse why m
take_completion t number op time m (Ok request) = finish t number request op (at_time time m)

-- The ends of steps.

abbrev pub ends_step : OpenStep → Operation → Bool
ends_step step op =
    is_info op.kind && (is_keyword (codes "step") op.f && is_equal (int (pos step.entry)) op.value)

abbrev pub end_step : OpenStep → Operation → Machine → Machine
end_step step op m =
    hear (StepEnded m.clock step.entry step.code (kept_pairs op)) (record m { step = None })

abbrev pub take_step_end : Operation → Option ℕ → Machine → Option OpenStep → Machine
take_step_end op time m None = refuse complaint.NoStepOpen m
take_step_end op time m (Some step) =
    if ends_step step op then end_step step op (at_time time m)
    else refuse complaint.OtherStep m

abbrev pub take_operation : TestValue → Operation → Option ℕ → Process → Machine → Machine
take_operation t op time Process.Nemesis m = take_step_end op time m m.step
take_operation t op time (Process.Client process) m =
    take_completion t (thread_of_process t process) op time m
    (ended_request t m process op (caller_of m (thread_of_process t process)).call)

abbrev pub take_in : TestValue → MeaningValue → Machine → Machine
take_in t Nothing m = m
take_in t (Clock time) m = at_time (Some time) m
take_in t Stop m = stop m
take_in t (Bad why) m = refuse why m
take_in t (Op op time) m = take_operation t op time op.process m

-- one more line was read, to which nothing is said yet
abbrev pub count_line : Machine → Machine
count_line m = record m { read = m.read + 1; said = [] }

-- The machine after a line. Nothing is said or heard behind the end.
abbrev pub take_line : TestValue → Machine → List ℕ → Machine
take_line t m line =
    if is_test_over m then count_line m else turn t (take_in t (line_meaning line) (count_line m))

-- the machine before its first turn
abbrev pub at_first : TestValue → DriverState → Option DriverState → State → Machine
at_first t driver final_calls nemesis = record {
  phase = Main;
  driver = driver;
  final_calls = final_calls;
  has_spent = false;
  random_numbers = started 128 multiplier_128 t.seed (increment_of 128 0);
  transactions = first_source t.transactions t.seed;
  calls_by_group = replicate t.clients 0;
  callers = new_callers t.clients 0;
  given = 0;
  answered = 0;
  crashed = 0;
  nemesis = nemesis;
  taken = 0;
  step = None;
  stops = 0;
  clock = 0;
  rest_began = 0;
  read = 0;
  bad = None;
  history = [];
  said = [];
}
