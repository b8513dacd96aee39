-- What each single change keeps is kept by a turn, by a line and by every list of lines.
use Rattle.std.proofs.Common.{◌≡◌, ℕ, zero, suc, ◌+◌, ◌<◌, ◌≤◌, ◌==◌, Bool, true, false, ◌&&◌, ◌||◌}
use Rattle.std.proofs.Common.{not, nat_le, List, [], ◌∷◌, refl, ◌∙◌, arith}
use Rattle.std.specs.Prelude.{Option, None, Some, Result, Ok, Err, if◌then◌else◌}
use Rattle.std.proofs.lemmas.Bool.{cond_both, and_parts, false≢true, not-false}
use Rattle.rand_pcg.specs.Lcg.{Lcg}
use Rattle.rand_pcg.specs.Pcg.{pcg64}
use Rattle.jh_edn.specs.Edn.{is_empty, is_keyword}
use Rattle.jh_gen.specs.DriverState.{DriverState}
use Rattle.jh_gen.specs.declared.answers.GenAnswer.{GenAnswer}
use Rattle.jh_gen.specs.declared.answers.GenAnswer.TheVariants.{Call, Done, Pending}
use Rattle.jh_ops.specs.Operation.{Operation}
use Rattle.jh_ops.specs.declared.call.Call.TheVariants as call
use Rattle.jh_ops.specs.declared.call.Request.{Request}
use Rattle.jh_ops.specs.declared.operation.Process.{Process}
use Rattle.jh_ops.specs.Pairing.{is_invoke}
use Rattle.jh_ops.specs.Requests.{request_name}
use Rattle.jh_test_parts.specs.LineMeanings.{MeaningValue, Nothing, Clock, Stop, Op, Bad}
use Rattle.jh_lines.specs.Answering.{after_lines}
use Rattle.jh_nemesis.specs.State.{first_state}
use Rattle.jh_conversation.specs.Lines.{end_step, ends_step, at_first, at_time, finish}
use Rattle.jh_conversation.specs.Lines.{is_test_over, count_line, refuse, take_line, stop, take_step_end}
use Rattle.jh_conversation.specs.Lines.{ended_call, ended_request, take_completion, take_in, take_operation}
use Rattle.jh_test_parts.specs.LineMeanings.{line_meaning}
use Rattle.jh_test_parts.specs.Values.{fits_call}
use Rattle.jh_test_parts.specs.Test.{thread_of_process}
use Rattle.jh_conversation.specs.Machine.{Machine, has_no_call, caller_process, caller_of}
use Rattle.jh_conversation.specs.Laws.{Drivers, start, run}
use Rattle.jh_test_parts.specs.Test.{TestValue}
use Rattle.jh_conversation.specs.Turn.{after_rest, driver_answer, ask, begin, begin_due, calls}
use Rattle.jh_conversation.specs.Turn.{calls_ended, due_in_phase, end, final, go_on, has_healed}
use Rattle.jh_conversation.specs.Turn.{has_recovered, heal, invoke, may_call, move, move_from}
use Rattle.jh_conversation.specs.Turn.{passes, rest, round, rounds, step, after_answer, turn, visit, visits}
use Rattle.jh_conversation.specs.Turn.{when, work}
use Rattle.jh_conversation.specs.declared.turns.Due.{Due}
use Rattle.jh_test_parts.specs.declared.calls.ValuedCall.{ValuedCall}
use Rattle.jh_conversation.specs.declared.callers.OpenStep.{OpenStep}
use Rattle.jh_test_parts.specs.declared.complaints.Complaint.{Complaint}
use Rattle.jh_test_parts.specs.declared.complaints.Complaint.TheVariants as complaint
use Rattle.jh_conversation.specs.declared.phase.Phase.{Phase}
use Rattle.jh_conversation.specs.declared.phase.Phase.TheVariants.{Main, Heal, Rest, Final, Over}

-- what a thread's answer makes of it
pub record IsKeptByAnswers (t : TestValue) (P : Machine → Type 0) : Type 0 where
  pub asks : (m : Machine) (driver : DriverState) (random_numbers : Lcg) → P m → P (record m { driver = driver; random_numbers = random_numbers })
  pub spends : (m : Machine) → P m → P (record m { has_spent = true })
  pub invokes : (m : Machine) (thread : ℕ) (request : Request) → thread < t.clients → (caller_of m thread).call ≡ None → may_call t m ≡ true → P m → P (invoke t thread request m)

-- a thread that asks
pub record IsKeptByCalls (t : TestValue) (P : Machine → Type 0) : Type 0 where
  pub visits : (m : Machine) (thread : ℕ) → thread < t.clients → (caller_of m thread).call ≡ None → may_call t m ≡ true → P m → P (ask t thread m)

pub by_answers : (t : TestValue) (P : Machine → Type 0) → IsKeptByAnswers t P → IsKeptByCalls t P
by_answers t P k = record {
  visits = λ m thread within idle may h.
      let drawn = pcg64 m.random_numbers in
      let answer = driver_answer m.driver thread drawn.0 in
      go (record m { driver = answer.1; random_numbers = drawn.1 }) thread answer.0 within idle may (k.asks m answer.1 drawn.1 h);
}
  where
    go : (m : Machine) (thread : ℕ) (answer : GenAnswer) → thread < t.clients → (caller_of m thread).call ≡ None → may_call t m ≡ true → P m → P (after_answer t thread answer m)
    go m thread Pending within idle may h = h
    go m thread Done within idle may h = k.spends m h
    go m thread (Call p (call.Client request)) within idle may h = k.invokes m thread request within idle may h
    go m thread (Call p (call.Step place)) within idle may h = k.spends m h

-- those of a turn
pub record IsKeptInTurn (t : TestValue) (P : Machine → Type 0) : Type 0 where
  pub calls : IsKeptByCalls t P
  pub begins : (m : Machine) (due : Due) → m.step ≡ None → due_in_phase m.phase t m ≡ Some due → P m → P (begin due m)
  pub heals : (m : Machine) → m.phase ≡ Main → calls_ended t m ≡ true → P m → P (heal m)
  pub rests : (m : Machine) → m.phase ≡ Heal → m.step ≡ None → is_empty m.nemesis.active ≡ true → P m → P (rest m)
  pub ends_rest : (m : Machine) → m.phase ≡ Rest → P m → P (end m)
  pub finals : (m : Machine) (driver : DriverState) → m.phase ≡ Rest → m.final_calls ≡ Some driver → P m → P (final t driver m)
  pub ends_final : (m : Machine) → m.phase ≡ Final → calls_ended t m ≡ true → P m → P (end m)

-- and those of a line
pub record IsKeptByLine (t : TestValue) (P : Machine → Type 0) : Type 0 where
  pub counts_line : (m : Machine) → P m → P (count_line m)
  pub clocks : (m : Machine) (time : ℕ) → P m → P (at_time (Some time) m)
  pub stops : (m : Machine) → P m → P (stop m)
  pub refuses : (m : Machine) (why : Complaint) → P m → P (refuse why m)
  pub step_ends : (m : Machine) (open_step : OpenStep) (op : Operation) → m.step ≡ Some open_step → P m → P (end_step open_step op m)
  pub finishes : (m : Machine) (thread : ℕ) (open_call : ValuedCall) (op : Operation) → (caller_of m thread).call ≡ Some open_call → is_invoke op.kind ≡ false → fits_call t open_call op.kind op.value ≡ true → P m → P (finish t thread open_call.request op m)

-- P holds where there is a machine
abbrev pub IfMoved : (Machine → Type 0) → Option Machine → Type 0
IfMoved P None = Unit {0}
IfMoved P (Some m) = P m

free : (c : Option ValuedCall) → has_no_call c ≡ true → c ≡ None
free None is = refl
free (Some c) is = absurd (false≢true is)

module _ (t : TestValue) (P : Machine → Type 0) (k : IsKeptByCalls t P) where
  pub kept_visit : (m : Machine) (thread : ℕ) → thread < t.clients → P m → P (visit t thread m)
  kept_visit m thread within h =
      cond_both (has_no_call (caller_of m thread).call && may_call t m) (ask t thread m) m P
      (λ e. let both = and_parts _ _ e in k.visits m thread within (free _ both.0) both.1 h)
      (λ _. h)

  pub kept_visits : (n : ℕ) (m : Machine) (thread : ℕ) → thread + n ≤ t.clients → P m → P (visits t thread n m)
  kept_visits zero m thread within h = h
  kept_visits (suc n) m thread within h = kept_visits n (visit t thread m) (suc thread) (omega arith) (kept_visit m thread (omega arith) h)

  pub kept_round : (m : Machine) → P m → P (round t m)
  kept_round m h = kept_visits t.clients m 0 (omega arith) h

  pub kept_rounds : (n : ℕ) (m : Machine) → P m → P (rounds t n m)
  kept_rounds zero m h = h
  kept_rounds (suc n) m h = cond_both ((round t m).given == m.given) (round t m) (rounds t n (round t m)) P (λ _. kept_round m h) (λ _. kept_rounds n (round t m) (kept_round m h))

  pub kept_calls : (m : Machine) → P m → P (calls t m)
  kept_calls m h = kept_rounds (suc t.clients) m h

module _ (t : TestValue) (P : Machine → Type 0) (k : IsKeptInTurn t P) where
  pub kept_step : (m : Machine) → P m → P (step t m)
  kept_step m h = go m.step (due_in_phase m.phase t m) refl refl
    where
      go : (w : Option OpenStep) (due : Option Due) → m.step ≡ w → due_in_phase m.phase t m ≡ due → P (begin_due m w due)
      go None None e f = h
      go None (Some due) e f = k.begins m due e f h
      go (Some w) None e f = h
      go (Some w) (Some due) e f = h

  pub kept_work : (m : Machine) → P m → P (work t m)
  kept_work m h = kept_calls t P k.calls (step t m) (kept_step m h)

  kept_when : (b : Bool) (m : Machine) → (b ≡ true → P m) → IfMoved P (when b m)
  kept_when true m h = h refl
  kept_when false m h = tt

  pub kept_move : (m : Machine) → P m → IfMoved P (move t m)
  kept_move m h = go m.phase refl
    where
      healed : (w : Option OpenStep) → m.step ≡ w → has_healed m w ≡ true → m.phase ≡ Heal → P (rest m)
      healed None e quiet is = k.rests m is e quiet h
      healed (Some w) e quiet is = absurd (false≢true quiet)

      rested : (d : Option DriverState) → m.final_calls ≡ d → m.phase ≡ Rest → IfMoved P (after_rest t d m)
      rested None e is = k.ends_rest m is h
      rested (Some d) e is = cond_both (nat_le 2 m.stops) (Some (end m)) (when (has_recovered t m) (final t d m)) (IfMoved P) (λ _. k.ends_rest m is h) (λ _. kept_when _ _ (λ _. k.finals m d is e h))

      go : (phase : Phase) → m.phase ≡ phase → IfMoved P (move_from phase t m)
      go Main is = kept_when _ _ (λ e. k.heals m is e h)
      go Heal is = kept_when _ _ (λ e. healed m.step refl e is)
      go Rest is = rested m.final_calls refl is
      go Final is = kept_when _ _ (λ e. k.ends_final m is e h)
      go Over is = tt

  pub kept_passes : (n : ℕ) (m : Machine) → P m → P (passes t n m)
  kept_passes zero m h = h
  kept_passes (suc n) m h = go (λ next i. kept_passes n next i) (move t (work t m)) (kept_move (work t m) (kept_work m h))
    where
      go : ((next : Machine) → P next → P (passes t n next)) → (next : Option Machine) → IfMoved P next → P (go_on (passes t n) (work t m) next)
      go more None i = kept_work m h
      go more (Some next) i = more next i

  pub kept_turn : (m : Machine) → P m → P (turn t m)
  unfolding turn
  kept_turn m h = kept_passes 5 m h

module _ (t : TestValue) (P : Machine → Type 0) (l : IsKeptByLine t P) where
  kept_time : (m : Machine) (time : Option ℕ) → P m → P (at_time time m)
  kept_time m None h = h
  kept_time m (Some time) h = l.clocks m time h

  same_step : (m : Machine) (time : Option ℕ) → (at_time time m).step ≡ m.step
  same_step m None = refl
  same_step m (Some time) = refl

  same_call : (m : Machine) (time : Option ℕ) (thread : ℕ) → (caller_of (at_time time m) thread).call ≡ (caller_of m thread).call
  same_call m None thread = refl
  same_call m (Some time) thread = refl

  kept_step_end : (m : Machine) (op : Operation) (time : Option ℕ) (w : Option OpenStep) → m.step ≡ w → P m → P (take_step_end op time m w)
  kept_step_end m op time None e h = l.refuses m _ h
  kept_step_end m op time (Some w) e h =
      cond_both (ends_step w op) (end_step w op (at_time time m)) (refuse complaint.OtherStep m) P
      (λ _. l.step_ends (at_time time m) w op (same_step m time ∙ e) (kept_time m time h))
      (λ _. l.refuses m _ h)

  or_parts_false : (a b : Bool) → (a || b) ≡ false → a ≡ false
  or_parts_false true b e = e
  or_parts_false false b e = refl

  abbrev Takes : Machine → ℕ → Operation → Option ℕ → Result Request Complaint → Type 0
  Takes m thread op time e = P (take_completion t thread op time m e)

  kept_end : (m : Machine) (thread : ℕ) (open_call : ValuedCall) (op : Operation) (time : Option ℕ) → (caller_of m thread).call ≡ Some open_call → P m → Takes m thread op time (ended_call t open_call op)
  kept_end m thread open_call op time e h =
      cond_both (is_invoke op.kind || not (is_keyword (request_name open_call.request) op.f)) (Err complaint.OtherCall)
      (if not (fits_call t open_call op.kind op.value) then Err complaint.BadValue else Ok open_call.request) (Takes m thread op time)
      (λ _. l.refuses m complaint.OtherCall h)
      (λ no. cond_both (not (fits_call t open_call op.kind op.value)) (Err complaint.BadValue) (Ok open_call.request) (Takes m thread op time)
      (λ _. l.refuses m complaint.BadValue h)
      (λ fits. l.finishes (at_time time m) thread open_call op (same_call m time thread ∙ e) (or_parts_false _ _ no) (not-false _ fits) (kept_time m time h)))

  kept_completion : (m : Machine) (process : ℕ) (op : Operation) (time : Option ℕ) (c : Option ValuedCall) → (caller_of m (thread_of_process t process)).call ≡ c → P m → Takes m (thread_of_process t process) op time (ended_request t m process op c)
  kept_completion m process op time None e h = l.refuses m complaint.NoCallOpen h
  kept_completion m process op time (Some c) e h =
      cond_both (caller_process t m (thread_of_process t process) == process) (ended_call t c op) (Err complaint.NoCallOpen) (Takes m (thread_of_process t process) op time)
      (λ _. kept_end m (thread_of_process t process) c op time e h)
      (λ _. l.refuses m complaint.NoCallOpen h)

  pub kept_take_in : (m : Machine) (line : MeaningValue) → P m → P (take_in t line m)
  kept_take_in m Nothing h = h
  kept_take_in m (Clock time) h = l.clocks m time h
  kept_take_in m Stop h = l.stops m h
  kept_take_in m (Bad why) h = l.refuses m why h
  kept_take_in m (Op op time) h = go op.process
    where
      go : (p : Process) → P (take_operation t op time p m)
      go Process.Nemesis = kept_step_end m op time m.step refl h
      go (Process.Client process) = kept_completion m process op time (caller_of m (thread_of_process t process)).call refl h

module _ (t : TestValue) (P : Machine → Type 0) (k : IsKeptInTurn t P) (l : IsKeptByLine t P) where
  pub kept_line : (m : Machine) (line : List ℕ) → P m → P (take_line t m line)
  kept_line m line h =
      cond_both (is_test_over m) (count_line m) (turn t (take_in t (line_meaning line) (count_line m))) P
      (λ _. l.counts_line m h)
      (λ _. kept_turn t P k (take_in t (line_meaning line) (count_line m)) (kept_take_in t P l (count_line m) (line_meaning line) (l.counts_line m h)))

  pub kept_lines : (lines : List (List ℕ)) (m : Machine) → P m → P (after_lines (take_line t) m lines)
  kept_lines [] m h = h
  kept_lines (line ∷ lines) m h = kept_lines lines (take_line t m line) (kept_line m line h)

-- what holds at first holds after all lines
pub kept_run : (t : TestValue) (d : Drivers t) (P : Machine → Type 0) → IsKeptInTurn t P → IsKeptByLine t P
    → (lines : List (List ℕ)) → P (at_first t d.first d.final_calls (first_state t.start)) → P (run t d lines)
kept_run t d P k l lines h =
    kept_lines t P k l lines (start t d) (kept_turn t P k (at_first t d.first d.final_calls (first_state t.start)) h)
