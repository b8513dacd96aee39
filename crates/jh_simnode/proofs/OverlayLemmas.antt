-- The cells of a world are what its active faults make of the start, whatever its journal is.
use Rattle.std.proofs.Common.{◌≡◌, ℕ, ◌+◌, ◌≤◌, Bool, true, false, List, [], ◌∷◌, ◌++◌, length, filter, not, refl, ap, ◌∙◌, arith, length-append, add-zero}
use Rattle.std.specs.Prelude.{ℤ, Option, Some, None, option_map, if◌then◌else◌}
use Rattle.jh_env.specs.Cells.{Life}
use Rattle.jh_env.specs.Cells.{Running, Paused, Killed}
use Rattle.jh_env.specs.Cells.{Link}
use Rattle.jh_env.specs.Cells.{Table, link_at, node_at}
use Rattle.jh_env.specs.Overlay.{link_over, node_over}
use Rattle.jh_env.specs.Cells.{NodeCell}
use Rattle.std.proofs.Math.Bool.{or-false}
use Rattle.jh_nemesis.specs.State.{State, Active, faults_in, has_id, state_back_to, state_forth_to}
use Rattle.jh_nemesis.specs.Steps.{state_after, state_after_all, answer_of, moved_state, is_ok}
use Rattle.jh_nemesis.specs.Laws.{is_change}
use Rattle.jh_nemesis.specs.declared.steps.Step.{Step}
use Rattle.jh_nemesis.specs.declared.steps.Step.TheVariants.{Begin, Withdraw, WithdrawAll, Undo, Redo}
use Rattle.jh_nemesis.specs.declared.steps.StepAnswer.{StepAnswer}
use Rattle.jh_nemesis.specs.declared.steps.StepAnswer.TheVariants.{Ok}
use Rattle.jh_nemesis.proofs.StepLemmas.{state_after_start}
use Rattle.jh_simnode.specs.declared.events.Event.{Event}
use Rattle.jh_simnode.specs.Reach.{EnvCells, cells_over}
use Rattle.jh_simnode.specs.Events.{Setup, Moment, opening, env_of, faults_after, moment_after, moment_after_all, moment_at, IsDue, AreDue, IsLegal}
use Rattle.jh_simnode.specs.Laws.{state_at, env_at, steps_in, is_quiet, OverlayStands, QuietStays, WithdrawLeaves, WithdrawAllLeaves, PastReturns, UndoRestoresWorld}

pub after_all_append : (u : Setup) (m : Moment) (xs ys : List Event) → moment_after_all u m (xs ++ ys) ≡ moment_after_all u (moment_after_all u m xs) ys
after_all_append u m [] ys = refl
after_all_append u m (x ∷ xs) ys = after_all_append u (moment_after u m x) xs ys

pub due_append : (u : Setup) (m : Moment) (xs ys : List Event) → AreDue u m (xs ++ ys) → AreDue u m xs × AreDue u (moment_after_all u m xs) ys
due_append u m [] ys h = (tt, h)
due_append u m (x ∷ xs) ys h = let r = due_append u (moment_after u m x) xs ys h.1 in ((h.0, r.0), r.1)

faults_after_start : (s : State) (e : Event) → (faults_after s e).start ≡ s.start
faults_after_start s (Event.Call process node request draw reply) = refl
faults_after_start s (Event.Step step answer) = state_after_start s step
faults_after_start s Event.Tick = refl

pub start_stays : (u : Setup) (m : Moment) (es : List Event) → (moment_after_all u m es).faults.start ≡ m.faults.start
start_stays u m [] = refl
start_stays u m (e ∷ es) = start_stays u (moment_after u m e) es ∙ faults_after_start m.faults e

steps_alone : (u : Setup) (m : Moment) (es : List Event) → (moment_after_all u m es).faults ≡ state_after_all m.faults (steps_in es)
steps_alone u m [] = refl
steps_alone u m (Event.Call process node request draw reply ∷ es) = steps_alone u (moment_after u m (Event.Call process node request draw reply)) es
steps_alone u m (Event.Step step answer ∷ es) = steps_alone u (moment_after u m (Event.Step step answer)) es
steps_alone u m (Event.Tick ∷ es) = steps_alone u (moment_after u m Event.Tick) es

pub overlay_stands : OverlayStands
overlay_stands u before after legal =
    let start : (state_at u before).start ≡ u.start = start_stays u (opening u) before in
    (ap (λ (t : Table). cells_over t (faults_in (state_at u before).active)) start, steps_alone u (opening u) before)

-- the state after one more event
one_more : (u : Setup) (before : List Event) (e : Event) → state_at u (before ++ e ∷ []) ≡ faults_after (state_at u before) e
one_more u before e = ap (λ (m : Moment). m.faults) (after_all_append u (opening u) before (e ∷ []))

-- an event of a legal journal is due where it stands
pub due_at : (u : Setup) (before after : List Event) (e : Event) → IsLegal u (before ++ e ∷ [] ++ after) → IsDue u (moment_at u before) e
due_at u before after e legal =
    let h = due_append u (opening u) (before ++ e ∷ []) after legal in
    (due_append u (opening u) before (e ∷ []) h.0).1.0

refused_stays : (s : State) (step : Step) → is_ok (answer_of s step) ≡ false → state_after s step ≡ s
refused_stays s step e = rw e refl

accepted_moves : (s : State) (step : Step) → Ok ≡ answer_of s step → state_after s step ≡ moved_state s step
accepted_moves s step e = rw (← e) refl

not_true : (b : Bool) → not b ≡ true → b ≡ false
not_true true e = cc
not_true false e = refl

refused : (answer : StepAnswer) → not (is_ok answer) ≡ true → is_ok answer ≡ false
refused answer e = not_true (is_ok answer) e

quiet_faults : (u : Setup) (m : Moment) (e : Event) → IsDue u m e → is_quiet e ≡ true → faults_after m.faults e ≡ m.faults
quiet_faults u m (Event.Call process node request draw reply) due q = refl
quiet_faults u m (Event.Step step answer) due q = refused_stays m.faults step (refused (answer_of m.faults step) (rw due.1 at q))
quiet_faults u m Event.Tick due q = refl

pub quiet_stays : QuietStays
quiet_stays u before after e legal q =
    let same : state_at u (before ++ e ∷ []) ≡ state_at u before = one_more u before e ∙ quiet_faults u (moment_at u before) e (due_at u before after e legal) q in
    (ap env_of same, same)

-- the state after an accepted step
pub moved_at : (u : Setup) (before after : List Event) (step : Step) → IsLegal u (before ++ Event.Step step Ok ∷ [] ++ after)
    → state_at u (before ++ Event.Step step Ok ∷ []) ≡ moved_state (state_at u before) step
moved_at u before after step legal =
    one_more u before (Event.Step step Ok) ∙ accepted_moves (state_at u before) step (due_at u before after (Event.Step step Ok) legal).1

pub withdraw_leaves : WithdrawLeaves
withdraw_leaves u before after id legal =
    let m = moved_at u before after (Withdraw id) legal in
    let start : (state_at u before).start ≡ u.start = start_stays u (opening u) before in
    let others = filter (λ f. not (has_id id f)) (state_at u before).active in
    (ap (λ (s : State). s.active) m, ap env_of m ∙ ap (λ (t : Table). cells_over t (faults_in others)) start)

link_stays : (a b : ℕ) (l : Option Link) → option_map (link_over [] a b) l ≡ l
link_stays a b None = refl
link_stays a b (Some l) = rw (or-false l.cut, add-zero l.delay) refl

life_stays : (a : ℕ) (p : Life) (clock : ℤ) → (node_over [] a (record { process = p; clock = clock })).process ≡ p
life_stays a Running clock = refl
life_stays a Paused clock = refl
life_stays a Killed clock = refl

node_stays : (a : ℕ) (n : Option NodeCell) → option_map (node_over [] a) n ≡ n
node_stays a None = refl
node_stays a (Some n) =
    let with_life : Life → NodeCell = λ p. record { process = p; clock = n.clock } in
    ap (λ (p : Life). Some (with_life p)) (life_stays a n.process n.clock)

pub withdraw_all_leaves : WithdrawAllLeaves
withdraw_all_leaves u before after legal =
    let m = moved_at u before after WithdrawAll legal in
    let start : (state_at u before).start ≡ u.start = start_stays u (opening u) before in
    let env = ap env_of m ∙ ap (λ (t : Table). cells_over t []) start in
    (ap (λ (s : State). s.active) m, λ a b. ap (λ (c : EnvCells). c.link a b) env ∙ link_stays a b (link_at u.start a b), λ a. ap (λ (c : EnvCells). c.node a) env ∙ node_stays a (node_at u.start a))

-- where the same faults are active the environment is the same
pub same_env : (u : Setup) (xs ys : List Event) → (state_at u xs).active ≡ (state_at u ys).active → env_at u xs ≡ env_at u ys
same_env u xs ys e = rw (start_stays u (opening u) xs, start_stays u (opening u) ys, e) refl

-- a list ends with another
pub record EndsWith (base all : List Active) : Type 0 where
  pub first : List Active
  pub joined : all ≡ first ++ base

pub on_top : (x : Active) (base all : List Active) → EndsWith base all → EndsWith base (x ∷ all)
on_top x base all e = record { first = x ∷ e.first; joined = ap (λ (l : List Active). x ∷ l) e.joined }

-- without its first, a list still ends with one that is no longer than that
below_from : (first base : List Active) (x : Active) (all : List Active) → x ∷ all ≡ first ++ base → length base ≤ length all → EndsWith base all
below_from [] base x all e short = absurd (let h = ap length e in omega arith)
below_from (f ∷ fs) base x all e short = record { first = fs; joined = cc }

-- without its first, a list still ends with one that is no longer than the rest
pub below_top : (base : List Active) (x : Active) (all : List Active) → EndsWith base (x ∷ all) → length base ≤ length all → EndsWith base all
below_top base x all e short = below_from e.first base x all e.joined short

undone_past : (base : List Active) (s : State) (past : List Active) → EndsWith base s.past → EndsWith base past → length base ≤ length (state_back_to s past).past → EndsWith base (state_back_to s past).past
undone_past base s [] whole e short = whole
undone_past base s (p ∷ ps) whole e short = below_top base p ps e short

redone_past : (base : List Active) (s : State) (future : List Active) → EndsWith base s.past → EndsWith base (state_forth_to s future).past
redone_past base s [] e = e
redone_past base s (f ∷ fs) e = on_top s.active base s.past e

moved_past : (base : List Active) (s : State) (step : Step) → EndsWith base s.past → length base ≤ length (moved_state s step).past → EndsWith base (moved_state s step).past
moved_past base s (Begin id f) e short = on_top s.active base s.past e
moved_past base s (Withdraw id) e short = on_top s.active base s.past e
moved_past base s WithdrawAll e short = on_top s.active base s.past e
moved_past base s Undo e short = undone_past base s s.past e e short
moved_past base s Redo e short = redone_past base s s.future e

chosen_past : (base : List Active) (b : Bool) (s t : State) → (length base ≤ length s.past → EndsWith base s.past) → (length base ≤ length t.past → EndsWith base t.past)
    → length base ≤ length (if b then s else t).past → EndsWith base (if b then s else t).past
chosen_past base true s t p q = p
chosen_past base false s t p q = q

after_past : (base : List Active) (s : State) (e : Event) → EndsWith base s.past → length base ≤ length (faults_after s e).past → EndsWith base (faults_after s e).past
after_past base s (Event.Call process node request draw reply) h short = h
after_past base s (Event.Step step answer) h short =
    chosen_past base (is_ok (answer_of s step)) (moved_state s step) s (moved_past base s step h) (λ l. h) short
after_past base s Event.Tick h short = h

past_least : (u : Setup) (n : ℕ) (m : Moment) (es : List Event) → PastReturns u n m es → n ≤ length m.faults.past
past_least u n m [] h = omega arith
past_least u n m (e ∷ es) h = h.0

pub all_from : (first base all : List Active) → all ≡ first ++ base → length all ≡ length base → all ≡ base
all_from [] base all e same = e
all_from (f ∷ fs) base all e same = absurd (let h = ap length e ∙ length-append (f ∷ fs) base in omega arith)

-- where the past never falls below its end, that end is left
past_returns : (u : Setup) (base : List Active) (m : Moment) (es : List Event) → PastReturns u (length base) m es → EndsWith base m.faults.past → (moment_after_all u m es).faults.past ≡ base
past_returns u base m [] h e = all_from e.first base m.faults.past e.joined h
past_returns u base m (x ∷ es) h e =
    past_returns u base (moment_after u m x) es h.1 (after_past base m.faults x e (past_least u (length base) (moment_after u m x) es h.1))

change_past : (s : State) (step : Step) → is_change step ≡ true → (moved_state s step).past ≡ s.active ∷ s.past
change_past s (Begin id f) e = refl
change_past s (Withdraw id) e = refl
change_past s WithdrawAll e = refl
change_past s Undo e = cc
change_past s Redo e = cc

undone_of : (s : State) (past : List Active) (p : Active) (ps : List Active) → past ≡ p ∷ ps → ((state_back_to s past).active ≡ p) × ((state_back_to s past).past ≡ ps)
undone_of s past p ps e = rw e (refl, refl)

pub undo_restores : UndoRestoresWorld
undo_restores u before mid after step legal change returns =
    let change_at = before ++ Event.Step step Ok ∷ [] in
    let s = state_at u before in
    let first = (due_append u (opening u) (change_at ++ mid ++ Event.Step Undo Ok ∷ []) after legal).0 in
    let second = (due_append u (opening u) (change_at ++ mid) (Event.Step Undo Ok ∷ []) first).0 in
    let changed : state_at u change_at ≡ moved_state s step = moved_at u before mid step second in
    let past : (state_at u change_at).past ≡ s.active ∷ s.past = ap (λ (r : State). r.past) changed ∙ change_past s step change in
    let count : length s.past + 1 ≡ length (s.active ∷ s.past) = omega arith in
    let back : (state_at u (change_at ++ mid)).past ≡ s.active ∷ s.past =
    ap (λ (m : Moment). m.faults.past) (after_all_append u (opening u) change_at mid)
    ∙ past_returns u (s.active ∷ s.past) (moment_at u change_at) mid (rw count at returns) (record { first = []; joined = past }) in
    let undone_there : state_at u (change_at ++ mid ++ Event.Step Undo Ok ∷ []) ≡ moved_state (state_at u (change_at ++ mid)) Undo = moved_at u (change_at ++ mid) after Undo legal in
    let both = undone_of (state_at u (change_at ++ mid)) (state_at u (change_at ++ mid)).past s.active s.past back in
    let now : (state_at u (change_at ++ mid ++ Event.Step Undo Ok ∷ [])).active ≡ s.active = ap (λ (r : State). r.active) undone_there ∙ both.0 in
    (now, ap (λ (r : State). r.past) undone_there ∙ both.1, same_env u (change_at ++ mid ++ Event.Step Undo Ok ∷ []) before now)
