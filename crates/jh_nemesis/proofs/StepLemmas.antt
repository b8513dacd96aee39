-- Steps one after another, back and forth.
use Rattle.std.proofs.Common.{◌≡◌, ℕ, suc, zero, ◌≤◌, true, false, List, [], ◌∷◌, ◌++◌, length, get_or, take, drop, ◌<◌, refl, ap, sym, subst, ◌∙◌, arith, append_assoc, length-append, add-one}
use Rattle.std.specs.Prelude.{if◌then◌else◌, replicate}
use Rattle.std.specs.List.{All}
use Rattle.jh_env.specs.Cells.{Table}
use Rattle.jh_env.specs.Overlay.{IsOverlay, cells_of}
use Rattle.jh_nemesis.specs.State.{State, Active, state_back_to, state_forth_to, first_state, faults_in}
use Rattle.jh_nemesis.specs.Laws.{IsRestored, UndoRestores, RedoRestores, UndoTakesRedoBack, RedosLeadBack, ChangeEndsFuture, EnvironmentIsOverlay}
use Rattle.jh_nemesis.specs.Steps.{answer_of, answers_of, state_after, state_after_all, StepFits, is_ok, moved_state}
use Rattle.jh_nemesis.specs.declared.steps.Step.{Step}
use Rattle.jh_nemesis.specs.declared.steps.StepAnswer.TheVariants as StepAnswer
use Rattle.jh_nemesis.specs.declared.steps.Step.TheVariants.{Begin, Withdraw, WithdrawAll, Undo, Redo}

-- names and start stay
record Keeps (s t : State) : Type 0 where
  names : t.names ≡ s.names
  start : t.start ≡ s.start

back_keeps : (s : State) (ps : List Active) → Keeps s (state_back_to s ps)
back_keeps s [] = record { names = refl; start = refl }
back_keeps s (p ∷ ps) = record { names = refl; start = refl }

forth_keeps : (s : State) (ps : List Active) → Keeps s (state_forth_to s ps)
forth_keeps s [] = record { names = refl; start = refl }
forth_keeps s (p ∷ ps) = record { names = refl; start = refl }

moved_keeps : (s : State) (step : Step) → Keeps s (moved_state s step)
moved_keeps s (Begin id f) = record { names = refl; start = refl }
moved_keeps s (Withdraw id) = record { names = refl; start = refl }
moved_keeps s WithdrawAll = record { names = refl; start = refl }
moved_keeps s Undo = back_keeps s s.past
moved_keeps s Redo = forth_keeps s s.future

step_keeps : (s : State) (step : Step) → Keeps s (state_after s step)
step_keeps s step =
    elim (is_ok (answer_of s step)) as (λ b. Keeps s (if b then moved_state s step else s)) [
      | true ↦ moved_keeps s step
      | false ↦ record { names = refl; start = refl }
    ]

-- a step keeps the names and the starting cells; crates above cite these two
pub state_after_names : (s : State) (step : Step) → (state_after s step).names ≡ s.names
state_after_names s step = (step_keeps s step).names

pub state_after_start : (s : State) (step : Step) → (state_after s step).start ≡ s.start
state_after_start s step = (step_keeps s step).start

start_stays : (s : State) (steps : List Step) → (state_after_all s steps).start ≡ s.start
start_stays s [] = refl
start_stays s (step ∷ steps) = start_stays (state_after s step) steps ∙ (step_keeps s step).start

fits_same : (s t : State) (step : Step) → t.names ≡ s.names → StepFits s step → StepFits t step
fits_same s t (Begin id f) e h = rw e h
fits_same s t (Withdraw id) e h = tt
fits_same s t WithdrawAll e h = tt
fits_same s t Undo e h = tt
fits_same s t Redo e h = tt

-- the steps that are left fit after one of them
pub all_fit : (s : State) (step : Step) (steps : List Step) → All (StepFits s) steps → All (StepFits (state_after s step)) steps
all_fit s step steps h k d p = fits_same s (state_after s step) (get_or steps k d) (step_keeps s step).names (h k d p)

pub state_after_all-append : (s : State) (xs ys : List Step) → state_after_all s (xs ++ ys) ≡ state_after_all (state_after_all s xs) ys
state_after_all-append s [] ys = refl
state_after_all-append s (x ∷ xs) ys = state_after_all-append (state_after s x) xs ys

pub answers_of-append : (s : State) (xs ys : List Step) → answers_of s (xs ++ ys) ≡ answers_of s xs ++ answers_of (state_after_all s xs) ys
answers_of-append s [] ys = refl
answers_of-append s (x ∷ xs) ys = ap (λ answers. answer_of s x ∷ answers) (answers_of-append (state_after s x) xs ys)

replicate_push : {A : Type 0} (n : ℕ) (x : A) → replicate (suc n) x ≡ replicate n x ++ x ∷ []
replicate_push zero x = refl
replicate_push (suc n) x = ap (λ xs. x ∷ xs) (replicate_push n x)

redos_from : (n : ℕ) (names : List (List ℕ)) (start : Table) (past : List Active) (now : Active) (future : List Active) → n ≤ length past
    → (let s : State = record { names = names; start = start; past = past; active = now; future = future } in state_after_all s (replicate n Undo ++ replicate n Redo) ≡ s)
redos_from zero names start past now future h = refl
redos_from (suc n) names start [] now future h = absurd (omega arith)
redos_from (suc n) names start (p ∷ ps) now future h =
    let u : State = record { names = names; start = start; past = ps; active = p; future = now ∷ future } in
    let within : n ≤ length ps = omega arith in
    let e : replicate n Undo ++ replicate (suc n) Redo ≡ (replicate n Undo ++ replicate n Redo) ++ Redo ∷ [] =
    ap (λ (z : List Step). replicate n Undo ++ z) (replicate_push n Redo) ∙ sym (append_assoc (replicate n Undo) (replicate n Redo) (Redo ∷ [])) in
    ap (state_after_all u) e ∙ state_after_all-append u (replicate n Undo ++ replicate n Redo) (Redo ∷ [])
    ∙ ap (λ t. state_after_all t (Redo ∷ [])) (redos_from n names start ps p (now ∷ future) within)

pub redos_back : RedosLeadBack
redos_back n s h = redos_from n s.names s.start s.past s.active s.future h

-- what an accepted begin or withdrawal leaves
moved_restored : (s : State) (step : Step) → is_ok (answer_of s step) ≡ true → (next : Active) → moved_state s step ≡ record s { past = s.active ∷ s.past; active = next; future = [] }
    → IsRestored s (state_after s step)
moved_restored s step ok next e = rw (ok, e) (record { accepted = refl; active = refl; past = refl; start = refl; names = refl })

pub undo_back : UndoRestores
undo_back s (Begin id f) change ok = moved_restored s (Begin id f) ok _ refl
undo_back s (Withdraw id) change ok = moved_restored s (Withdraw id) ok _ refl
undo_back s WithdrawAll change ok = moved_restored s WithdrawAll ok _ refl
undo_back s Undo change ok = absurd cc
undo_back s Redo change ok = absurd cc

pub change_ends : ChangeEndsFuture
change_ends s (Begin id f) change ok = rw ok refl
change_ends s (Withdraw id) change ok = rw ok refl
change_ends s WithdrawAll change ok = rw ok refl
change_ends s Undo change ok = absurd cc
change_ends s Redo change ok = absurd cc

redo_from : (names : List (List ℕ)) (start : Table) (past : List Active) (now : Active) (future : List Active)
    → (let s : State = record { names = names; start = start; past = past; active = now; future = future } in is_ok (answer_of s Undo) ≡ true
    → (answer_of (state_after s Undo) Redo ≡ StepAnswer.Ok) × (state_after (state_after s Undo) Redo ≡ s))
redo_from names start [] now future ok = absurd cc
redo_from names start (p ∷ ps) now future ok = (refl, refl)

pub redo_back : RedoRestores
redo_back s ok = redo_from s.names s.start s.past s.active s.future ok

undo_from : (names : List (List ℕ)) (start : Table) (past : List Active) (now : Active) (future : List Active)
    → (let s : State = record { names = names; start = start; past = past; active = now; future = future } in is_ok (answer_of s Redo) ≡ true
    → (answer_of (state_after s Redo) Undo ≡ StepAnswer.Ok) × (state_after (state_after s Redo) Undo ≡ s))
undo_from names start past now [] ok = absurd cc
undo_from names start past now (f ∷ fs) ok = (refl, refl)

pub redo_undone : UndoTakesRedoBack
redo_undone s ok = undo_from s.names s.start s.past s.active s.future ok

pub environment_over : EnvironmentIsOverlay
environment_over first env steps same stands =
    let s : State = state_after_all (first_state first) steps in
    let started : env.start ≡ first.start = same ∙ start_stays (first_state first) steps in
    subst (λ (start : Table). IsOverlay start (faults_in s.active) (cells_of env)) started stands.cells

-- the next of a list
pub next_of : {A : Type 0} (n : ℕ) (xs : List A) (x : A) (rest : List A) → drop n xs ≡ x ∷ rest → (take (suc n) xs ≡ take n xs ++ x ∷ []) × (drop (suc n) xs ≡ rest) × (n < length xs)
next_of zero [] x rest e = absurd cc
next_of zero (y ∷ ys) x rest e = let same : y ≡ x = cc in let others : ys ≡ rest = cc in (ap (λ z. z ∷ []) same, others, omega arith)
next_of (suc n) [] x rest e = absurd cc
next_of (suc n) (y ∷ ys) x rest e = let p = next_of n ys x rest e in (ap (λ zs. y ∷ zs) p.0, p.1, omega (arith, p.2))

-- one more step is taken
pub record OneMore (s : State) (steps : List Step) (answers : List StepAnswer.the_data) (after : State) (rest : List Step) : Type 0 where
  pub left : drop (length answers) steps ≡ rest
  pub answered : answers ≡ answers_of s (take (length answers) steps)
  pub taken : after ≡ state_after_all s (take (length answers) steps)

pub step_more : (s : State) (steps : List Step) (answers : List StepAnswer.the_data) (before : State) (step : Step) (rest : List Step)
    → drop (length answers) steps ≡ step ∷ rest → answers ≡ answers_of s (take (length answers) steps) → before ≡ state_after_all s (take (length answers) steps)
    → OneMore s steps (answers ++ answer_of before step ∷ []) (state_after before step) rest
step_more s steps answers before step rest left answered taken =
    let n = length answers in
    let next = next_of n steps step rest left in
    let more : length (answers ++ answer_of before step ∷ []) ≡ suc n = length-append answers (answer_of before step ∷ []) ∙ add-one n in
    record {
      left = rw more next.1;
      answered = rw (more, next.0, answers_of-append s (take n steps) (step ∷ []), ← taken) (ap (λ all. all ++ answer_of before step ∷ []) answered);
      taken = rw (more, next.0, state_after_all-append s (take n steps) (step ∷ []), ← taken) refl;
    }
