-- How a serial run goes on, one move after another.
use Rattle.std.proofs.Common.{◌≡◌, suc, true, false, List, [], ◌∷◌, ◌++◌, refl, ap, sym, ◌∙◌, subst}
use Rattle.std.specs.Prelude.{Option, Some, None, slice_get, nat_le, IfSome}
use Rattle.jh_nemesis.specs.declared.steps.StepAnswer.{StepAnswer}
use Rattle.jh_simnode.specs.declared.events.Event.{Event}
use Rattle.jh_simnode.specs.declared.schedule.Entry.{Entry}
use Rattle.jh_simnode.specs.Counts.{applied_count, last_event}
use Rattle.jh_simnode.specs.Plans.{PlanValue}
use Rattle.jh_simnode.specs.Runs.{Turns, Move, Comes, IsReachable, ask_move, entry_move, is_due, move_of, ticks_after, turn_move}
use Rattle.jh_simnode.specs.Runs.Move.{Applies, Rests}
use Rattle.jh_simnode.specs.Running.{NoEntryDue}
use Rattle.jh_simnode.proofs.EventCountLemmas.{last_push}

-- a run goes on by its next move
pub goes : (p : PlanValue) (r r' : Turns) (journal journal' : List Event) (m : Move) → move_of p r journal ≡ m → IsReachable p r journal → Comes p r journal r' journal' m → IsReachable p r' journal'
goes p r r' journal journal' m e h t = (suc h.0, (r, (journal, (h.1, subst (Comes p r journal r' journal') (sym e) t))))

-- neither a tick nor a step brings a tick
pub quiet_step : (p : PlanValue) (journal : List Event) (step : _) (answer : StepAnswer) → ticks_after p (journal ++ Event.Step step answer ∷ []) (last_event (journal ++ Event.Step step answer ∷ [])) ≡ false
quiet_step p journal step answer = ap (ticks_after p (journal ++ Event.Step step answer ∷ [])) (last_push journal (Event.Step step answer))

pub quiet_tick : (p : PlanValue) (journal : List Event) → ticks_after p (journal ++ Event.Tick ∷ []) (last_event (journal ++ Event.Tick ∷ [])) ≡ false
quiet_tick p journal = ap (ticks_after p (journal ++ Event.Tick ∷ [])) (last_push journal Event.Tick)

-- an entry that is due is applied next
pub due_next : (p : PlanValue) (r : Turns) (journal : List Event) (entry : Entry) → ticks_after p journal (last_event journal) ≡ false
    → slice_get p.schedule (applied_count journal) ≡ Some entry → is_due r journal entry ≡ true → move_of p r journal ≡ Applies entry
due_next p r journal entry quiet there due = rw (quiet, there, due) refl

none_due : (p : PlanValue) (r : Turns) (journal : List Event) (o : Option Entry) → IfSome o (λ entry. is_due r journal entry ≡ false) → entry_move p r journal o ≡ turn_move p r journal
none_due p r journal None h = refl
none_due p r journal (Some entry) h = rw h refl

-- where neither a tick nor an entry is due, it is a thread's turn, or the run rests
pub turn_next : (p : PlanValue) (r : Turns) (journal : List Event) → ticks_after p journal (last_event journal) ≡ false → NoEntryDue p r journal → move_of p r journal ≡ turn_move p r journal
turn_next p r journal quiet settled = rw quiet (none_due p r journal (slice_get p.schedule (applied_count journal)) settled)

pub ask_next : (p : PlanValue) (r : Turns) (journal : List Event) → ticks_after p journal (last_event journal) ≡ false → NoEntryDue p r journal → r.has_ended ≡ false → nat_le p.clients r.waits ≡ false
    → move_of p r journal ≡ ask_move p r journal
ask_next p r journal quiet settled going patient = turn_next p r journal quiet settled ∙ rw (going, patient) refl

-- a run whose calls have ended and which has no entry left is over
pub is_over : (p : PlanValue) (r : Turns) (journal : List Event) → ticks_after p journal (last_event journal) ≡ false → NoEntryDue p r journal → r.has_ended ≡ true → move_of p r journal ≡ Rests
is_over p r journal quiet settled ended = turn_next p r journal quiet settled ∙ rw ended refl
