-- The first line that is no reply is the one that is kept.
use Rattle.std.proofs.Common.{◌≡◌, ℕ, ◌+◌, true, false, List, [], ◌∷◌, refl}
use Rattle.std.proofs.Common.{ap, ◌∙◌}
use Rattle.std.specs.Prelude.{Option, None, Some, Result, Ok, Err, if◌then◌else◌}
use Rattle.jh_lines.specs.Answering.{after_lines}
use Rattle.jh_nemesis.specs.State.{first_state}
use Rattle.jh_ops.specs.Operation.{Operation}
use Rattle.jh_ops.specs.declared.call.Request.{Request}
use Rattle.jh_ops.specs.declared.operation.Process.{Process}
use Rattle.jh_conversation.specs.Laws.{Drivers, complaint_of, complaint_of_step_end}
use Rattle.jh_conversation.specs.Laws.{complaint_of_end}
use Rattle.jh_conversation.specs.Laws.{complaint_of_operation, first_bad, first_bad_or, run, start}
use Rattle.jh_test_parts.specs.LineMeanings.{MeaningValue, Nothing, Clock, Stop, Op, Bad}
use Rattle.jh_conversation.specs.Lines.{end_step, ends_step, at_first, at_time, first}
use Rattle.jh_conversation.specs.Lines.{is_test_over, count_line, refuse, take_line, take_step_end}
use Rattle.jh_conversation.specs.Lines.{ended_request, take_completion, take_in, take_operation}
use Rattle.jh_test_parts.specs.LineMeanings.{line_meaning}
use Rattle.jh_test_parts.specs.Test.{thread_of_process}
use Rattle.jh_conversation.specs.Machine.{Machine, caller_of}
use Rattle.jh_test_parts.specs.Test.{TestValue}
use Rattle.jh_conversation.specs.Turn.{turn}
use Rattle.jh_conversation.specs.declared.callers.BadLine.{BadLine}
use Rattle.jh_conversation.specs.declared.callers.OpenStep.{OpenStep}
use Rattle.jh_test_parts.specs.declared.complaints.Complaint.{Complaint}
use Rattle.jh_test_parts.specs.declared.complaints.Complaint.TheVariants as complaint
use Rattle.jh_conversation.proofs.KeptLemmas.{IsKeptByLine, IsKeptInTurn, by_answers, kept_lines}
use Rattle.jh_conversation.proofs.KeptLemmas.{kept_turn}

-- the line with this number, of which this is wrong
abbrev bad_line : ℕ → Complaint → BadLine
bad_line number why = record { number = number; why = why }

-- which line was found to be no reply, and how many lines were read
abbrev FindsBad : Option BadLine → ℕ → Machine → Type 0
FindsBad bad read m = (m.bad ≡ bad) × (m.read ≡ read)

abbrev HasBad : BadLine → Machine → Type 0
HasBad found m = m.bad ≡ Some found

finds_in_turn : (t : TestValue) (bad : Option BadLine) (read : ℕ) → IsKeptInTurn t (FindsBad bad read)
finds_in_turn t bad read = record {
  calls = by_answers _ _ (record { asks = λ m d w h. h; spends = λ m h. h; invokes = λ m thread request w i y h. h });
  begins = λ m due w d h. h;
  heals = λ m is e h. h;
  rests = λ m is w q h. h;
  ends_rest = λ m is h. h;
  finals = λ m d is f h. h;
  ends_final = λ m is e h. h;
}

bad_in_turn : (t : TestValue) (found : BadLine) → IsKeptInTurn t (HasBad found)
bad_in_turn t found = record {
  calls = by_answers _ _ (record { asks = λ m d w h. h; spends = λ m h. h; invokes = λ m thread request w i y h. h });
  begins = λ m due w d h. h;
  heals = λ m is e h. h;
  rests = λ m is w q h. h;
  ends_rest = λ m is h. h;
  finals = λ m d is f h. h;
  ends_final = λ m is e h. h;
}

bad_by_line : (t : TestValue) (found : BadLine) → IsKeptByLine t (HasBad found)
bad_by_line t found = record {
  counts_line = λ m h. h;
  clocks = λ m time h. h;
  stops = λ m h. h;
  refuses = λ m why h. ap (λ b. first b (bad_line m.read why)) h;
  step_ends = λ m w op e h. h;
  finishes = λ m thread c op e no fits h. h;
}

-- what is found of a line with this complaint
abbrev pub bad_of : Option Complaint → ℕ → Option BadLine
bad_of None read = None
bad_of (Some why) read = Some (bad_line read why)

refused : (m : Machine) (why : Complaint) → m.bad ≡ None → FindsBad (Some (bad_line m.read why)) m.read (refuse why m)
refused m why none = (ap (λ b. first b (bad_line m.read why)) none, refl)

timed : (m : Machine) (time : Option ℕ) → m.bad ≡ None → FindsBad None m.read (at_time time m)
timed m None none = (none, refl)
timed m (Some time) none = (none, refl)

finds_step_end : (m : Machine) (op : Operation) (time : Option ℕ) → m.bad ≡ None → (w : Option OpenStep)
    → FindsBad (bad_of (complaint_of_step_end w op) m.read) m.read (take_step_end op time m w)
finds_step_end m op time none None = refused m complaint.NoStepOpen none
finds_step_end m op time none (Some w) =
    elim (ends_step w op) as (λ b. FindsBad (bad_of (if b then None else Some complaint.OtherStep) m.read) m.read (if b then end_step w op (at_time time m) else refuse complaint.OtherStep m)) [
      | true ↦ timed m time none
      | false ↦ refused m complaint.OtherStep none
    ]

finds_completion : (t : TestValue) (m : Machine) (thread : ℕ) (op : Operation) (time : Option ℕ) → m.bad ≡ None → (e : Result Request Complaint)
    → FindsBad (bad_of (complaint_of_end e) m.read) m.read (take_completion t thread op time m e)
finds_completion t m thread op time none (Err why) = refused m why none
finds_completion t m thread op time none (Ok request) = timed m time none

-- what one line brings
finds_take : (t : TestValue) (m : Machine) (line : MeaningValue) → m.bad ≡ None → FindsBad (bad_of (complaint_of t m line) m.read) m.read (take_in t line m)
finds_take t m Nothing none = (none, refl)
finds_take t m (Clock time) none = (none, refl)
finds_take t m Stop none = (none, refl)
finds_take t m (Bad why) none = refused m why none
finds_take t m (Op op time) none = go op.process
  where
    go : (p : Process) → FindsBad (bad_of (complaint_of_operation t m op p) m.read) m.read (take_operation t op time p m)
    go Process.Nemesis = finds_step_end m op time none m.step
    go (Process.Client process) = finds_completion t m (thread_of_process t process) op time none (ended_request t m process op (caller_of m (thread_of_process t process)).call)

-- a complaint is the same once the line is counted
same_complaint : (t : TestValue) (m : Machine) (line : MeaningValue) → complaint_of t (count_line m) line ≡ complaint_of t m line
same_complaint t m Nothing = refl
same_complaint t m (Clock time) = refl
same_complaint t m Stop = refl
same_complaint t m (Bad why) = refl
same_complaint t m (Op op time) = go op.process
  where
    go : (p : Process) → complaint_of_operation t (count_line m) op p ≡ complaint_of_operation t m op p
    go Process.Nemesis = refl
    go (Process.Client process) = refl

finds_line : (t : TestValue) (m : Machine) (line : List ℕ) → m.bad ≡ None
    → FindsBad (bad_of (if is_test_over m then None else complaint_of t m (line_meaning line)) (m.read + 1)) (m.read + 1) (take_line t m line)
finds_line t m line none =
    elim (is_test_over m) as (λ b. FindsBad (bad_of (if b then None else complaint_of t m (line_meaning line)) (m.read + 1)) (m.read + 1) (if b then count_line m else turn t (take_in t (line_meaning line) (count_line m)))) [
      | true ↦ (none, refl)
      | false ↦
          let found = bad_of (complaint_of t m (line_meaning line)) (m.read + 1) in
          let took = finds_take t (count_line m) (line_meaning line) none in
          kept_turn t (FindsBad found (m.read + 1)) (finds_in_turn t found (m.read + 1)) (take_in t (line_meaning line) (count_line m))
          (took.0 ∙ ap (λ c. bad_of c (m.read + 1)) (same_complaint t m (line_meaning line)), took.1)
    ]

finds_all : (t : TestValue) (d : Drivers t) (lines : List (List ℕ)) (m : Machine) (n : ℕ) → FindsBad None n m → (after_lines (take_line t) m lines).bad ≡ first_bad t m n lines
finds_all t d [] m n h = h.0
finds_all t d (line ∷ lines) m n h =
    let one = finds_line t m line h.0 in
    let number : m.read + 1 ≡ n + 1 = ap (λ k. k + 1) h.1 in
    go (if is_test_over m then None else complaint_of t m (line_meaning line)) (one.0 ∙ ap (bad_of (if is_test_over m then None else complaint_of t m (line_meaning line))) number)
    (λ none. finds_all t d lines (take_line t m line) (n + 1) (none, one.1 ∙ number))
  where
    go : (c : Option Complaint) → (take_line t m line).bad ≡ bad_of c (n + 1)
        → ((take_line t m line).bad ≡ None → (after_lines (take_line t) (take_line t m line) lines).bad ≡ first_bad t (take_line t m line) (n + 1) lines)
        → (after_lines (take_line t) (take_line t m line) lines).bad ≡ first_bad_or t c (n + 1) (first_bad t (take_line t m line) (n + 1) lines)
    go None e later = later e
    go (Some why) e later = kept_lines t (HasBad (bad_line (n + 1) why)) (bad_in_turn t (bad_line (n + 1) why)) (bad_by_line t (bad_line (n + 1) why)) lines (take_line t m line) e

pub first_bad_kept : (t : TestValue) (d : Drivers t) (lines : List (List ℕ)) → (run t d lines).bad ≡ first_bad t (start t d) 0 lines
first_bad_kept t d lines =
    finds_all t d lines (start t d) 0 (kept_turn t (FindsBad None 0) (finds_in_turn t None 0) (at_first t d.first d.final_calls (first_state t.start)) (refl, refl))
