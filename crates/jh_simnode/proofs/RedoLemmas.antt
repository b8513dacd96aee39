-- A redo after an undo gives environment and active faults of a world back.
use Rattle.std.proofs.Common.{◌≡◌, ℕ, ◌+◌, ◌≤◌, Bool, true, false, List, [], ◌∷◌, ◌++◌, length, refl, ap, ◌∙◌, arith}
use Rattle.jh_edn.specs.Edn.{is_empty}
use Rattle.std.specs.Prelude.{if◌then◌else◌}
use Rattle.jh_nemesis.specs.State.{State, Active, state_back_to, state_forth_to}
use Rattle.jh_nemesis.specs.Steps.{answer_of, moved_state, is_ok}
use Rattle.jh_nemesis.specs.declared.steps.Step.{Step}
use Rattle.jh_nemesis.specs.declared.steps.Step.TheVariants.{Begin, Withdraw, WithdrawAll, Undo, Redo}
use Rattle.jh_nemesis.specs.declared.steps.StepAnswer.TheVariants.{Ok, NothingToUndo}
use Rattle.jh_simnode.specs.declared.events.Event.{Event}
use Rattle.jh_simnode.specs.Events.{Setup, Moment, opening, faults_after, moment_after, moment_after_all, moment_at}
use Rattle.jh_simnode.specs.Laws.{state_at, FutureReturns, RedoRestoresWorld}
use Rattle.jh_simnode.proofs.OverlayLemmas.{EndsWith, on_top, below_top, all_from, after_all_append, due_append, moved_at, due_at, same_env}

none_ends : (base : List Active) → length base ≤ 0 → EndsWith base []
none_ends [] h = record { first = []; joined = refl }
none_ends (b ∷ bs) h = absurd (omega arith)

undone_ends : (base : List Active) (s : State) (past : List Active) → EndsWith base s.future → EndsWith base (state_back_to s past).future
undone_ends base s [] e = e
undone_ends base s (p ∷ ps) e = on_top s.active base s.future e

redone_ends : (base : List Active) (s : State) (future : List Active) → EndsWith base s.future → EndsWith base future → length base ≤ length (state_forth_to s future).future → EndsWith base (state_forth_to s future).future
redone_ends base s [] whole e short = whole
redone_ends base s (f ∷ fs) whole e short = below_top base f fs e short

moved_ends : (base : List Active) (s : State) (step : Step) → EndsWith base s.future → length base ≤ length (moved_state s step).future → EndsWith base (moved_state s step).future
moved_ends base s (Begin id f) e short = none_ends base short
moved_ends base s (Withdraw id) e short = none_ends base short
moved_ends base s WithdrawAll e short = none_ends base short
moved_ends base s Undo e short = undone_ends base s s.past e
moved_ends base s Redo e short = redone_ends base s s.future e e short

chosen_ends : (base : List Active) (b : Bool) (s t : State) → (length base ≤ length s.future → EndsWith base s.future) → (length base ≤ length t.future → EndsWith base t.future)
    → length base ≤ length (if b then s else t).future → EndsWith base (if b then s else t).future
chosen_ends base true s t p q = p
chosen_ends base false s t p q = q

after_ends : (base : List Active) (s : State) (e : Event) → EndsWith base s.future → length base ≤ length (faults_after s e).future → EndsWith base (faults_after s e).future
after_ends base s (Event.Call process node request draw reply) h short = h
after_ends base s (Event.Step step answer) h short =
    chosen_ends base (is_ok (answer_of s step)) (moved_state s step) s (moved_ends base s step h) (λ l. h) short
after_ends base s Event.Tick h short = h

future_least : (u : Setup) (n : ℕ) (m : Moment) (es : List Event) → FutureReturns u n m es → n ≤ length m.faults.future
future_least u n m [] h = omega arith
future_least u n m (e ∷ es) h = h.0

-- where the future never falls below its end, that end is left
future_returns : (u : Setup) (base : List Active) (m : Moment) (es : List Event) → FutureReturns u (length base) m es → EndsWith base m.faults.future → (moment_after_all u m es).faults.future ≡ base
future_returns u base m [] h e = all_from e.first base m.faults.future e.joined h
future_returns u base m (x ∷ es) h e =
    future_returns u base (moment_after u m x) es h.1 (after_ends base m.faults x e (future_least u (length base) (moment_after u m x) es h.1))

-- what an accepted undo leaves to be redone
undone_future : (s : State) (past : List Active) → Ok ≡ (if is_empty past then NothingToUndo else Ok) → (state_back_to s past).future ≡ s.active ∷ s.future
undone_future s [] e = cc
undone_future s (p ∷ ps) e = refl

redone_of : (s : State) (future : List Active) (f : Active) (fs : List Active) → future ≡ f ∷ fs → ((state_forth_to s future).active ≡ f) × ((state_forth_to s future).future ≡ fs)
redone_of s future f fs e = rw e (refl, refl)

pub redo_restores : RedoRestoresWorld
redo_restores u before mid after legal returns =
    let undo_at = before ++ Event.Step Undo Ok ∷ [] in
    let s = state_at u before in
    let first = (due_append u (opening u) (undo_at ++ mid ++ Event.Step Redo Ok ∷ []) after legal).0 in
    let second = (due_append u (opening u) (undo_at ++ mid) (Event.Step Redo Ok ∷ []) first).0 in
    let changed : state_at u undo_at ≡ moved_state s Undo = moved_at u before mid Undo second in
    let due = due_at u before mid (Event.Step Undo Ok) second in
    let future : (state_at u undo_at).future ≡ s.active ∷ s.future = ap (λ (r : State). r.future) changed ∙ undone_future s s.past due.1 in
    let count : length s.future + 1 ≡ length (s.active ∷ s.future) = omega arith in
    let back : (state_at u (undo_at ++ mid)).future ≡ s.active ∷ s.future =
    ap (λ (m : Moment). m.faults.future) (after_all_append u (opening u) undo_at mid)
    ∙ future_returns u (s.active ∷ s.future) (moment_at u undo_at) mid (rw count at returns) (record { first = []; joined = future }) in
    let redone_there : state_at u (undo_at ++ mid ++ Event.Step Redo Ok ∷ []) ≡ moved_state (state_at u (undo_at ++ mid)) Redo = moved_at u (undo_at ++ mid) after Redo legal in
    let both = redone_of (state_at u (undo_at ++ mid)) (state_at u (undo_at ++ mid)).future s.active s.future back in
    let now : (state_at u (undo_at ++ mid ++ Event.Step Redo Ok ∷ [])).active ≡ s.active = ap (λ (r : State). r.active) redone_there ∙ both.0 in
    (now, ap (λ (r : State). r.future) redone_there ∙ both.1, same_env u (undo_at ++ mid ++ Event.Step Redo Ok ∷ []) before now)
