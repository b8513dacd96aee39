-- What stands between two turns stands after the next part of one.
use Rattle.std.proofs.Common.{◌≡◌, ℕ, cond, ◌+◌, ◌%◌, ◌<◌, ◌≤◌, Bool, true, false, List, [], ◌∷◌, ◌++◌, length, set, refl, ap, sym, ◌∙◌, arith, subst, Vec}
use Rattle.std.specs.Prelude.{Option, Some, None, slice_get, slice_index, nat_le, IfSome}
use Rattle.std.specs.Global.{Global}
use Rattle.std.proofs.lemmas.Bool.{lt-leb}
use Rattle.std.proofs.lemmas.Option.{slice_get_past}
use Rattle.rand_pcg.specs.Lcg.{Lcg}
use Rattle.rand_pcg.specs.Pcg.{pcg64}
use Rattle.jh_ops.specs.declared.call.Request.{Request}
use Rattle.jh_gen.specs.DriverState.{DriverState, driver_after_end}
use Rattle.jh_gen.specs.declared.answers.Thread.TheVariants as thread
use Rattle.jh_nemesis.specs.declared.steps.Step.{Step}
use Rattle.jh_nemesis.specs.declared.steps.StepAnswer.{StepAnswer}
use Rattle.jh_simnode.specs.declared.replicas.Reply.{Reply}
use Rattle.jh_simnode.specs.declared.events.Event.{Event}
use Rattle.jh_simnode.specs.declared.schedule.Entry.{Entry}
use Rattle.jh_simnode.specs.declared.turns.Assignment.TheVariants as assignment
use Rattle.jh_simnode.specs.declared.turns.Run.{Run}
use Rattle.jh_simnode.specs.Counts.{applied_count, is_step, last_event, process_after, calls_by}
use Rattle.jh_simnode.specs.Events.{WorldValue, AddsEvent, IsLegal}
use Rattle.jh_simnode.specs.Plans.{PlanValue}
use Rattle.jh_simnode.specs.Runs.{Turns, call_event, turns_after_call, turns_after_end, first_turns, is_due, move_of, setup_of, thread_of, ticks_after, ticks_at, turns_after_wait, random_number_at, run_stream, numbers_taken}
use Rattle.jh_simnode.specs.Runs.Move.{Ticks, Applies, Waits, Calls, Ends}
use Rattle.jh_simnode.specs.Running.{Asks, Falls, HasReply, BeforeFirstTurn, IsOver, Keeps, MayCall, NothingDue, BetweenTurns, reply_ending, is_run_due}
use Rattle.jh_simnode.proofs.EventCountLemmas.{count_yes, count_no, last_push}
use Rattle.jh_simnode.proofs.MoveLemmas.{goes, is_over, quiet_step, quiet_tick, due_next, ask_next}
use Rattle.jh_simnode.proofs.TurnLemmas.{keeps_on, keeps_beside, process_thread}
use Rattle.jh_simnode.proofs.AskLemmas.{random_number_is, random_numbers_are}

-- a run before its first turn, on a world in which nothing happened
pub first_stands : (p : PlanValue) (run : Run) (w : WorldValue) → BeforeFirstTurn p run → w.journal ≡ [] → w.setup ≡ setup_of p → BetweenTurns p run w
first_stands p run w first empty setup = record {
  turns = first_turns;
  led = (0, (refl, empty));
  keeps = subst (λ j. Keeps p first_turns j run) (sym empty) first.keeps;
  setup = setup;
  quiet = ap (λ j. ticks_after p j (last_event j)) empty;
}

due_is : (p : PlanValue) (r : Turns) (journal : List Event) (run : Run) (entry : Entry) → Keeps p r journal run → is_due r journal entry ≡ is_run_due run entry
due_is p r journal run entry k = rw (k.ended, k.counts.answered) refl

-- the next step of the schedule, where it is due
pub step_stands : (p : PlanValue) (run : Run) (w w' : WorldValue) (entry : Entry) (step : Step) (answer : StepAnswer) (number : ℕ) → BetweenTurns p run w
    → slice_get p.schedule run.applied ≡ Some entry → is_run_due run entry ≡ true → step ≡ entry.step → AddsEvent w (Event.Step step answer) number w'
    → BetweenTurns p (record run { applied = run.applied + 1 }) w'
step_stands p run w w' entry step answer number s there due copied adds =
    let r = s.turns in
    let journal = w.journal in
    let e : Event = Event.Step entry.step answer in
    let same : w'.journal ≡ journal ++ e ∷ [] = adds.journal ∙ ap (λ (x : Step). journal ++ Event.Step x answer ∷ []) copied in
    let run' : Run = record run { applied = run.applied + 1 } in
    let here : slice_get p.schedule (applied_count journal) ≡ Some entry = ap (slice_get p.schedule) (sym s.keeps.counts.applied) ∙ there in
    let next = due_next p r journal entry s.quiet here (due_is p r journal run entry s.keeps ∙ due) in
    let applied_is : run.applied + 1 ≡ applied_count (journal ++ e ∷ []) = ap (λ n. n + 1) s.keeps.counts.applied ∙ sym (count_yes is_step journal e refl) in
    record {
      turns = r;
      led = goes p r r journal w'.journal (Applies entry) next s.led (refl, (answer, same));
      keeps = subst (λ j. Keeps p r j run') (sym same) (keeps_beside p r journal e run run' s.keeps refl (λ u. refl) (λ u. refl) refl applied_is);
      setup = adds.setup ∙ s.setup;
      quiet = subst (λ j. ticks_after p j (last_event j) ≡ false) (sym same) (quiet_step p journal entry.step answer);
    }

none_left : (p : PlanValue) (r : Turns) (journal : List Event) (o : Option Entry) → o ≡ None → IfSome o (λ entry. is_due r journal entry ≡ false)
none_left p r journal o h = subst (λ o. IfSome o (λ entry. is_due r journal entry ≡ false)) (sym h) tt

-- no entry is left
pub past_settled : (p : PlanValue) (run : Run) (w : WorldValue) → BetweenTurns p run w → length p.schedule ≤ run.applied → NothingDue p run w
past_settled p run w s past = record {
  stands = s;
  settled = none_left p s.turns w.journal (slice_get p.schedule (applied_count w.journal)) (ap (slice_get p.schedule) (sym s.keeps.counts.applied) ∙ slice_get_past p.schedule run.applied past);
}

-- the next entry isn't due
pub early_settled : (p : PlanValue) (run : Run) (w : WorldValue) (entry : Entry) → BetweenTurns p run w → slice_get p.schedule run.applied ≡ Some entry → is_run_due run entry ≡ false → NothingDue p run w
early_settled p run w entry s there early = record {
  stands = s;
  settled =
      (let here : slice_get p.schedule (applied_count w.journal) ≡ Some entry = ap (slice_get p.schedule) (sym s.keeps.counts.applied) ∙ there in
      let none : IfSome (Some entry) (λ x. is_due s.turns w.journal x ≡ false) = due_is p s.turns w.journal run entry s.keeps ∙ early in
      subst (λ o. IfSome o (λ x. is_due s.turns w.journal x ≡ false)) (sym here) none);
}

-- after a tick that was due
pub tick_stands : (p : PlanValue) (run : Run) (w w' : WorldValue) (t number : ℕ) → HasReply p run w t → ticks_at p (calls_by p.clients t w.journal) ≡ true → AddsEvent w Event.Tick number w' → BetweenTurns p run w'
tick_stands p run w w' t number h due adds =
    let r = h.turns in
    let journal = w.journal in
    let next : move_of p r journal ≡ Ticks = rw (h.due ∙ due) refl in
    record {
      turns = r;
      led = goes p r r journal w'.journal Ticks next h.led (refl, adds.journal);
      keeps = subst (λ j. Keeps p r j run) (sym adds.journal)
          (keeps_beside p r journal Event.Tick run run h.keeps refl (λ u. refl) (λ u. refl) refl (h.keeps.counts.applied ∙ sym (count_no is_step journal Event.Tick refl)));
      setup = adds.setup ∙ h.setup;
      quiet = subst (λ j. ticks_after p j (last_event j) ≡ false) (sym adds.journal) (quiet_tick p journal);
    }

-- where no tick is due
pub call_stands : (p : PlanValue) (run : Run) (w : WorldValue) (t : ℕ) → HasReply p run w t → ticks_at p (calls_by p.clients t w.journal) ≡ false → BetweenTurns p run w
call_stands p run w t h none = record { turns = h.turns; led = h.led; keeps = h.keeps; setup = h.setup; quiet = h.due ∙ none }

same_event : (a a' n n' d d' : ℕ) (q : Request) (y : Reply) → a ≡ a' → n ≡ n' → d ≡ d' → Event.Call a n q d y ≡ Event.Call a' n' q d' y
same_event a a' n n' d d' q y e f g = rw (e, f, g) refl

-- after the call that a thread was given
pub called_on : (p : PlanValue) (run : Run) (w w' : WorldValue) (t process : ℕ) (request : Request) (node draw number : ℕ) (reply : Reply) (driver : DriverState) (random_numbers : Lcg) (calls : Vec ℕ Global)
    → MayCall p run w t process request → node ≡ t % length p.env.names → (draw, random_numbers) ≡ pcg64 run.random_numbers
    → AddsEvent w (Event.Call process node request draw reply) number w' → driver ≡ driver_after_end run.driver (thread.Client t) (reply_ending reply)
    → calls.items ≡ set run.calls.items t (slice_index run.calls.items t + 1)
    → HasReply p (record run { driver = driver; random_numbers = random_numbers; calls = calls; answered = run.answered + 1; waits = 0 }) w' t
called_on p run w w' t process request node draw number reply driver random_numbers calls m place next adds ends counted =
    let r = m.turns in
    let journal = w.journal in
    let c = p.clients in
    let run' : Run = record run { driver = driver; random_numbers = random_numbers; calls = calls; answered = run.answered + 1; waits = 0 } in
    let mine = m.thread_is in
    let patient : nat_le c r.waits ≡ false = lt-leb c r.waits m.patient in
    let move = ask_next p r journal m.quiet m.settled m.going patient ∙ m.move in
    let draw_is : draw ≡ random_number_at run_stream p.seed (numbers_taken r journal + 1) = random_number_is run.random_numbers random_numbers draw next ∙ ap (λ (g : Lcg). (pcg64 g).0) m.has.random_numbers in
    let event : Event.Call process node request draw reply ≡ call_event p r journal request reply =
    same_event process (process_after c (thread_of p r) journal) node (thread_of p r % length p.env.names) draw (random_number_at run_stream p.seed (numbers_taken r journal + 1)) request reply m.process_is
    (place ∙ ap (λ x. x % length p.env.names) mine) draw_is in
    let same : w'.journal ≡ journal ++ call_event p r journal request reply ∷ [] = adds.journal ∙ ap (λ (e : Event). journal ++ e ∷ []) event in
    let small : thread_of p r < c = subst (λ x. x < c) mine m.within in
    let few : r.waits < 16 = (let patient_is = m.patient in let crowd = m.crowd in omega (arith, patient_is, crowd)) in
    let kept = keeps_on p r journal m.path request reply run run' m.has small m.few_asks few (ends ∙ ap (λ x. driver_after_end run.driver (thread.Client x) (reply_ending reply)) mine)
    (random_numbers_are run.random_numbers random_numbers draw next) (counted ∙ ap (λ x. set run.calls.items x (slice_index run.calls.items x + 1)) mine) refl refl refl refl refl in
    let after : List Event = journal ++ call_event p r journal request reply ∷ [] in
    let named : process_after c (thread_of p r) journal % c ≡ t = process_thread c (thread_of p r) journal small ∙ sym mine in
    let due : ticks_after p after (last_event after) ≡ ticks_at p (calls_by c t after) =
    ap (ticks_after p after) (last_push journal (call_event p r journal request reply)) ∙ ap (λ x. ticks_at p (calls_by c x after)) named in
    record {
      turns = turns_after_call r m.path;
      led = goes p r (turns_after_call r m.path) journal w'.journal (Calls m.path request) move m.led (refl, (reply, same));
      keeps = subst (λ j. Keeps p (turns_after_call r m.path) j run') (sym same) kept;
      setup = adds.setup ∙ m.setup;
      within = m.within;
      due = subst (λ j. ticks_after p j (last_event j) ≡ ticks_at p (calls_by c t j)) (sym same) due;
    }

-- after an ask that got nothing, and after the end
pub waited_stands : (p : PlanValue) (run run' : Run) (w : WorldValue) (s : NothingDue p run w) → s.stands.turns.has_ended ≡ false → s.stands.turns.waits < p.clients
    → Asks p s.stands.turns w.journal assignment.Waits run' → BetweenTurns p run' w
waited_stands p run run' w s going patient h =
    let r = s.stands.turns in
    let move = ask_next p r w.journal s.stands.quiet s.settled going (lt-leb p.clients r.waits patient) ∙ h.0 in
    record { turns = turns_after_wait r; led = goes p r (turns_after_wait r) w.journal w.journal Waits move s.stands.led (refl, refl); keeps = h.1; setup = s.stands.setup; quiet = s.stands.quiet }

pub ended_stands : (p : PlanValue) (run run' : Run) (w : WorldValue) (s : NothingDue p run w) → s.stands.turns.has_ended ≡ false → s.stands.turns.waits < p.clients
    → Asks p s.stands.turns w.journal assignment.Ends run' → BetweenTurns p run' w
ended_stands p run run' w s going patient h =
    let r = s.stands.turns in
    let move = ask_next p r w.journal s.stands.quiet s.settled going (lt-leb p.clients r.waits patient) ∙ h.0 in
    record { turns = turns_after_end r; led = goes p r (turns_after_end r) w.journal w.journal Ends move s.stands.led (refl, refl); keeps = h.1; setup = s.stands.setup; quiet = s.stands.quiet }

-- a wait and the end bring the end nearer
pub falls_waiting : (run run' : Run) (w : WorldValue) → run'.waits ≡ run.waits + 1 → run'.has_ended ≡ run.has_ended → run.waits < 16 → Falls run w run' w
falls_waiting run run' w more same small =
    let unit_of : Bool → ℕ = λ b. cond b 0 1 in
    let as_before : unit_of run'.has_ended ≡ unit_of run.has_ended = ap unit_of same in
    omega (arith, more, as_before, small)

pub falls_ending : (run run' : Run) (w : WorldValue) → run'.waits ≡ run.waits → run'.has_ended ≡ true → run.has_ended ≡ false → Falls run w run' w
falls_ending run run' w same over going =
    let unit_of : Bool → ℕ = λ b. cond b 0 1 in
    let after : unit_of run'.has_ended ≡ 0 = ap unit_of over in
    let before : unit_of run.has_ended ≡ 1 = ap unit_of going in
    omega (arith, same, after, before)

-- a whole run
pub over : (p : PlanValue) (run : Run) (w : WorldValue) → NothingDue p run w → run.has_ended ≡ true → IsLegal w.setup w.journal → IsOver p w
over p run w s turns_after_end legal =
    let r = s.stands.turns in
    let done : r.has_ended ≡ true = sym s.stands.keeps.ended ∙ turns_after_end in
    record {
      turns = r;
      reached = record { run = s.stands.led; legal = subst (λ u. IsLegal u w.journal) s.stands.setup legal };
      ended = done;
      rests = is_over p r w.journal s.stands.quiet s.settled done;
    }
