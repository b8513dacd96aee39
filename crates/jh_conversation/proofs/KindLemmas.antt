-- What is said are calls and steps, what is heard the ends of calls and of steps.
use Rattle.std.proofs.Common.{◌≡◌, ℕ, true, false, List, [], ◌∷◌, refl, sym, subst}
use Rattle.std.specs.Prelude.{Option, None, Some, Result, Ok, Err, if◌then◌else◌}
use Rattle.std.specs.List.{AllByRecursion}
use Rattle.jh_ops.specs.declared.call.Request.{Request}
use Rattle.jh_ops.specs.declared.operation.Process.{Process}
use Rattle.jh_conversation.specs.Laws.{Drivers, IsHeard, IsSaid, step_ended_by, clock_at, ended_by}
use Rattle.jh_conversation.specs.Laws.{heard, heard_from, run}
use Rattle.jh_test_parts.specs.LineMeanings.{MeaningValue, Nothing, Clock, Stop, Op, Bad}
use Rattle.jh_conversation.specs.Lines.{ended_request, ends_step, is_test_over, count_line, take_line, take_in}
use Rattle.jh_test_parts.specs.LineMeanings.{kept_pairs, line_meaning}
use Rattle.jh_test_parts.specs.Test.{thread_of_process}
use Rattle.jh_conversation.specs.Machine.{Machine, caller_of}
use Rattle.jh_test_parts.specs.Test.{TestValue}
use Rattle.jh_conversation.specs.Turn.{turn}
use Rattle.jh_test_parts.specs.declared.complaints.Complaint.{Complaint}
use Rattle.jh_conversation.specs.declared.callers.OpenStep.{OpenStep}
use Rattle.jh_test_parts.specs.declared.records.Recorded.TheVariants.{StepEnded}
use Rattle.jh_test_parts.specs.declared.records.Recorded.{Recorded}
use Rattle.jh_conversation.proofs.KeptLemmas.{IsKeptInTurn, by_answers, kept_turn}
use Rattle.jh_conversation.proofs.TalkLemmas.{hears}

abbrev SaysSaid : Machine → Type 0
SaysSaid m = AllByRecursion IsSaid m.said

said_by_turn : (t : TestValue) → IsKeptInTurn t SaysSaid
said_by_turn t = record {
  calls = by_answers _ _ (record { asks = λ m d w h. h; spends = λ m h. h; invokes = λ m thread request w i y h. (tt, h) });
  begins = λ m due w d h. (tt, h);
  heals = λ m is e h. h;
  rests = λ m is w q h. h;
  ends_rest = λ m is h. h;
  finals = λ m d is f h. h;
  ends_final = λ m is e h. h;
}

line_said : (t : TestValue) (m : Machine) (line : List ℕ) → AllByRecursion IsSaid (take_line t m line).said
line_said t m line =
    elim (is_test_over m) as (λ b. AllByRecursion IsSaid (if b then count_line m else turn t (take_in t (line_meaning line) (count_line m))).said) [
      | true ↦ tt
      | false ↦ kept_turn t SaysSaid (said_by_turn t) (take_in t (line_meaning line) (count_line m)) (none_said (sym (hears t (count_line m) (line_meaning line) refl).1))
    ]
  where
    none_said : {l : List Recorded} → [] ≡ l → AllByRecursion IsSaid l
    none_said e = subst (AllByRecursion IsSaid) e tt

all_heard : (t : TestValue) (m : Machine) (line : MeaningValue) → AllByRecursion IsHeard (heard t m line)
all_heard t m Nothing = tt
all_heard t m (Clock time) = tt
all_heard t m Stop = tt
all_heard t m (Bad why) = tt
all_heard t m (Op op time) = go op.process
  where
    step_end : (w : Option OpenStep) → AllByRecursion IsHeard (step_ended_by w op (clock_at time m.clock))
    step_end None = tt
    step_end (Some w) = elim (ends_step w op) as (λ b. AllByRecursion IsHeard (if b then StepEnded (clock_at time m.clock) w.entry w.code (kept_pairs op) ∷ [] else [])) [ true ↦ (tt, tt) | false ↦ tt ]

    completion : (process : ℕ) (ended : Result Request Complaint) → AllByRecursion IsHeard (ended_by process op (clock_at time m.clock) ended)
    completion process (Err why) = tt
    completion process (Ok request) = (tt, tt)

    go : (p : Process) → AllByRecursion IsHeard (heard_from t m op (clock_at time m.clock) p)
    go Process.Nemesis = step_end m.step
    go (Process.Client process) = completion process (ended_request t m process op (caller_of m (thread_of_process t process)).call)

pub kinds_apart : (t : TestValue) (d : Drivers t) (lines : List (List ℕ)) (line : List ℕ)
    → AllByRecursion IsSaid (take_line t (run t d lines) line).said × AllByRecursion IsHeard (heard t (run t d lines) (line_meaning line))
kinds_apart t d lines line = (line_said t (run t d lines) line, all_heard t (run t d lines) (line_meaning line))
