-- The history is what was said and what was heard.
use Rattle.std.proofs.Common.{◌≡◌, ℕ, true, false, List, [], ◌∷◌, ◌++◌}
use Rattle.std.proofs.Common.{refl, sym, ap, ◌∙◌}
use Rattle.std.specs.Prelude.{Option, None, Some, Result, Ok, Err, IfOk, if◌then◌else◌}
use Rattle.std.proofs.lemmas.List.{append_assoc}
use Rattle.jh_lines.specs.Answering.{after_lines}
use Rattle.jh_nemesis.specs.State.{faults_in, first_state}
use Rattle.jh_nemesis.specs.Steps.{state_after}
use Rattle.jh_ops.specs.Operation.{Operation}
use Rattle.jh_ops.specs.declared.call.Request.{Request}
use Rattle.jh_ops.specs.declared.operation.Process.{Process}
use Rattle.jh_conversation.specs.Conversations.{ConversationIsRun, ConversationValue, conversation_after}
use Rattle.jh_conversation.specs.Laws.{Drivers, step_ended_by, clock_at, ended_by, heard, heard_from}
use Rattle.jh_conversation.specs.Laws.{run, start, talk, talk_at, talk_from}
use Rattle.jh_test_parts.specs.LineMeanings.{MeaningValue, Nothing, Clock, Stop, Op, Bad}
use Rattle.jh_conversation.specs.Lines.{end_step, ends_step, at_first, at_time, clock_after}
use Rattle.jh_conversation.specs.Lines.{finish, is_test_over, count_line, refuse, take_line, take_step_end}
use Rattle.jh_conversation.specs.Lines.{ended_request, take_completion, take_in, take_operation}
use Rattle.jh_test_parts.specs.LineMeanings.{kept_pairs, line_meaning}
use Rattle.jh_test_parts.specs.Test.{thread_of_process}
use Rattle.jh_conversation.specs.Machine.{Machine, caller_process, caller_of}
use Rattle.jh_test_parts.specs.Test.{TestValue}
use Rattle.jh_test_parts.specs.Changes.{changed_cells}
use Rattle.jh_conversation.specs.Turn.{call_made, turn}
use Rattle.jh_test_parts.specs.Test.{node_of_thread}
use Rattle.jh_conversation.specs.declared.callers.OpenStep.{OpenStep}
use Rattle.jh_test_parts.specs.declared.records.Recorded.TheVariants.{Invoked, Ended, StepBegun}
use Rattle.jh_test_parts.specs.declared.records.Recorded.TheVariants.{StepEnded}
use Rattle.jh_test_parts.specs.declared.records.Recorded.{Recorded}
use Rattle.jh_test_parts.specs.declared.complaints.Complaint.{Complaint}
use Rattle.jh_test_parts.specs.declared.complaints.Complaint.TheVariants as complaint
use Rattle.jh_conversation.proofs.KeptLemmas.{IsKeptInTurn, by_answers, kept_turn}
use Rattle.jh_conversation.proofs.LineLemmas.{ended_own}

-- what was said stands before what was there
abbrev HasSaid : List Recorded → Machine → Type 0
HasSaid before m = m.history ≡ m.said ++ before

said_in_turn : (t : TestValue) (before : List Recorded) → IsKeptInTurn t (HasSaid before)
said_in_turn t before = record {
  calls = by_answers _ _ (record {
    asks = λ m d w h. h;
    spends = λ m h. h;
    invokes = λ m thread request within idle may h. ap (λ l. Invoked m.clock (caller_process t m thread) (node_of_thread t thread) (call_made t m thread request) ∷ l) h;
  });
  begins = λ m due w d h.
      let after = state_after m.nemesis due.step in
      ap (λ l. StepBegun m.clock due.entry due.step (changed_cells m.nemesis.start (faults_in m.nemesis.active) (faults_in after.active)) ∷ l) h;
  heals = λ m is e h. h;
  rests = λ m is w q h. h;
  ends_rest = λ m is h. h;
  finals = λ m d is f h. h;
  ends_final = λ m is e h. h;
}

-- a line adds the record that it stands for, and says nothing
abbrev pub Hears : Machine → List Recorded → Machine → Type 0
Hears m records next = (next.history ≡ records ++ m.history) × (next.said ≡ [])

heard_step_end : (m : Machine) (op : Operation) (time : Option ℕ) → m.said ≡ [] → (w : Option OpenStep)
    → Hears m (step_ended_by w op (clock_at time m.clock)) (take_step_end op time m w)
heard_step_end m op time none None = (refl, none)
heard_step_end m op time none (Some w) =
    elim (ends_step w op) as (λ b. Hears m (if b then StepEnded (clock_at time m.clock) w.entry w.code (kept_pairs op) ∷ [] else [])
    (if b then end_step w op (at_time time m) else refuse complaint.OtherStep m)) [
      | true ↦ ended time
      | false ↦ (refl, none)
    ]
  where
    ended : (time : Option ℕ) → Hears m (StepEnded (clock_at time m.clock) w.entry w.code (kept_pairs op) ∷ []) (end_step w op (at_time time m))
    ended None = (refl, none)
    ended (Some time) = (refl, none)

heard_finish : (t : TestValue) (m : Machine) (process : ℕ) (op : Operation) (time : Option ℕ) (request : Request) → m.said ≡ [] → caller_process t m (thread_of_process t process) ≡ process
    → Hears m (ended_by process op (clock_at time m.clock) (Ok request)) (finish t (thread_of_process t process) request op (at_time time m))
heard_finish t m process op None request none e = (ap (λ p. Ended m.clock p op.kind request op.value (kept_pairs op) ∷ m.history) e, none)
heard_finish t m process op (Some time) request none e = (ap (λ p. Ended (clock_after m.clock time) p op.kind request op.value (kept_pairs op) ∷ m.history) e, none)

heard_completion : (t : TestValue) (m : Machine) (process : ℕ) (op : Operation) (time : Option ℕ) → m.said ≡ [] → (e : Result Request Complaint)
    → IfOk e (λ _. caller_process t m (thread_of_process t process) ≡ process)
    → Hears m (ended_by process op (clock_at time m.clock) e) (take_completion t (thread_of_process t process) op time m e)
heard_completion t m process op time none (Err why) own = (refl, none)
heard_completion t m process op time none (Ok request) own = heard_finish t m process op time request none own

hears_time : (m : Machine) (time : ℕ) → m.said ≡ [] → Hears m [] (at_time (Some time) m)
hears_time m time none = (refl, none)

pub hears : (t : TestValue) (m : Machine) (line : MeaningValue) → m.said ≡ [] → Hears m (heard t m line) (take_in t line m)
hears t m Nothing none = (refl, none)
hears t m (Clock time) none = (refl, none)
hears t m Stop none = (refl, none)
hears t m (Bad why) none = (refl, none)
hears t m (Op op time) none = go op.process
  where
    go : (p : Process) → Hears m (heard_from t m op (clock_at time m.clock) p) (take_operation t op time p m)
    go Process.Nemesis = heard_step_end m op time none m.step
    go (Process.Client process) =
        let call = (caller_of m (thread_of_process t process)).call in
        heard_completion t m process op time none (ended_request t m process op call) (ended_own t m process op call)

talked : (t : TestValue) (d : Drivers t) (m : Machine) (line : List ℕ) → (take_line t m line).history ≡ talk_at t m line ++ m.history
talked t d m line =
    elim (is_test_over m) as (λ b. (if b then count_line m else turn t (take_in t (line_meaning line) (count_line m))).history
    ≡ ((if b then count_line m else turn t (take_in t (line_meaning line) (count_line m))).said ++ (if b then [] else heard t m (line_meaning line))) ++ m.history) [
      | true ↦ refl
      | false ↦
          let took = hears t (count_line m) (line_meaning line) refl in
          let next = take_in t (line_meaning line) (count_line m) in
          kept_turn t (HasSaid next.history) (said_in_turn t next.history) next (ap (λ l. l ++ next.history) (sym took.1))
          ∙ ap (λ l. (turn t next).said ++ l) took.0
          ∙ sym (append_assoc (turn t next).said (heard t m (line_meaning line)) m.history)
    ]

talked_all : (t : TestValue) (d : Drivers t) (lines : List (List ℕ)) (m : Machine) → (after_lines (take_line t) m lines).history ≡ talk_from t m lines ++ m.history
talked_all t d [] m = refl
talked_all t d (line ∷ lines) m =
    talked_all t d lines (take_line t m line) ∙ ap (λ l. talk_from t (take_line t m line) lines ++ l) (talked t d m line)
    ∙ sym (append_assoc (talk_from t (take_line t m line) lines) (talk_at t m line) m.history)

pub history_is_talk : (t : TestValue) (d : Drivers t) (lines : List (List ℕ)) → (run t d lines).history ≡ talk t d lines
history_is_talk t d lines =
    talked_all t d lines (start t d)
    ∙ ap (λ l. talk_from t (start t d) lines ++ l) (kept_turn t (HasSaid []) (said_in_turn t []) (at_first t d.first d.final_calls (first_state t.start)) refl ∙ nothing (start t d).said)
  where
    nothing : (l : List Recorded) → l ++ [] ≡ l
    nothing [] = refl
    nothing (r ∷ l) = ap (λ l. r ∷ l) (nothing l)

-- a conversation keeps its test, and its machine takes each line
after_is : (t : TestValue) (m : Machine) (lines : List (List ℕ))
    → ◌≡◌ {A = ConversationValue} (after_lines conversation_after (record { test = t; machine = m }) lines) (record { test = t; machine = after_lines (take_line t) m lines })
after_is t m [] = refl
after_is t m (line ∷ lines) = after_is t (take_line t m line) lines

pub conversation_run : ConversationIsRun
conversation_run t d lines = after_is t (start t d) lines
