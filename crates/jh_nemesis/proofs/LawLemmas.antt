-- The laws of undo, redo and withdrawal, from what each step makes of a state.
use Rattle.std.proofs.Common.{◌≡◌, ◌≢◌, ℕ, ℤ, Bool, true, false, [], ◌∷◌, ◌++◌, refl, ap, ◌∙◌, sym}
use Rattle.std.specs.Prelude.{if◌then◌else◌, not, ◌==◌, ◌||◌}
use Rattle.std.proofs.lemmas.Bool.{eq-eqb, eqb-true, or_right}
use Rattle.std.specs.List.{list_any}
use Rattle.jh_env.specs.Overlay.{cuts, link_over}
use Rattle.std.proofs.lemmas.List.Elements.{filter-append}
use Rattle.jh_env.specs.Faults.{FaultValue}
use Rattle.jh_nemesis.specs.State.{State, Active, has_id, is_active, faults_in, next_state}
use Rattle.jh_nemesis.specs.Steps.{answer_of, begin_answer, state_after, is_ok, moved_state, active_without}
use Rattle.jh_nemesis.specs.Laws.{CutsOfOthersStay, CutsOfStartStay, WithdrawalEndsBegin, WithdrawingAllLeavesStart, IsAtStart}
use Rattle.std.proofs.lemmas.List.{append-nil}
use Rattle.jh_nemesis.specs.declared.steps.StepAnswer.{StepAnswer}
use Rattle.jh_nemesis.specs.declared.steps.StepAnswer.TheVariants.{IdTaken}
use Rattle.jh_nemesis.specs.declared.steps.Step.{Step}
use Rattle.std.proofs.Math.Bool.{or-false}
use Rattle.std.proofs.Common.{Option, Some, None, arith}
use Rattle.std.specs.Prelude.{option_map}
use Rattle.jh_env.specs.Cells.{Life}
use Rattle.jh_env.specs.Cells.{Running, Paused, Killed}
use Rattle.jh_env.specs.Cells.{Link}
use Rattle.jh_env.specs.Cells.{NodeCell}
use Rattle.jh_env.specs.Cells.{link_at, node_at}
use Rattle.jh_env.specs.Overlay.{EnvValue, IsOverlay, StandsFor, cells_of, node_over, is_killed, is_paused}
use Rattle.jh_nemesis.specs.declared.steps.Step.TheVariants.{Begin, Withdraw, WithdrawAll}

pub same_link_cell : (c d : Bool) (m n s t : ℕ) → c ≡ d → m ≡ n → s ≡ t → (let l : Link = record { cut = c; delay = m; loss = s } in l) ≡ record { cut = d; delay = n; loss = t }
same_link_cell c d m n s t p q r = rw (p, q, r) refl

pub same_node_cell : (p q : Life) (c d : ℤ) → p ≡ q → c ≡ d → (let n : NodeCell = record { process = p; clock = c } in n) ≡ record { process = q; clock = d }
same_node_cell p q c d e f = rw (e, f) refl

parts : (x y : Bool) → (x || y) ≡ false → (x ≡ false) × (y ≡ false)
parts true y e = cc
parts false y e = (refl, e)

-- where no fault has the id, none is withdrawn
without_none : (active : Active) (id : ℕ) → is_active active id ≡ false → active_without active id ≡ active
without_none [] id h = refl
without_none (f ∷ fs) id h =
    let p = parts (has_id id f) (is_active fs id) h in
    rw (p.0, without_none fs id p.1) refl

-- the fault of the id is withdrawn
pub without_middle : (before after : Active) (id : ℕ) (f : FaultValue) → is_active (before ++ after) id ≡ false → active_without (before ++ ((id, f) ∷ after)) id ≡ before ++ after
without_middle [] after id f h = rw (eq-eqb id id refl) (without_none after id h)
without_middle (b ∷ before) after id f h =
    let p = parts (has_id id b) (is_active (before ++ after) id) h in
    rw (p.0, without_middle before after id f p.1) refl

-- what an accepted step makes of the active faults
pub accepted : (s : State) (step : Step) → is_ok (answer_of s step) ≡ true → (state_after s step).active ≡ (moved_state s step).active
accepted s step ok = rw ok refl

-- no other fault has its id, so a withdrawal leaves the others
pub withdrawal_leaves : (s : State) (before after : Active) (id : ℕ) (f : FaultValue) → s.active ≡ before ++ ((id, f) ∷ after)
    → is_active (before ++ after) id ≡ false → is_ok (answer_of s (Withdraw id)) ≡ true
    → (state_after s (Withdraw id)).active ≡ before ++ after
withdrawal_leaves s before after id f now other ok = accepted s (Withdraw id) ok ∙ rw now (without_middle before after id f other)

not_taken : (a : Bool) (x : StepAnswer) → is_ok (if a then IdTaken else x) ≡ true → a ≡ false
not_taken true x e = sym e
not_taken false x e = refl

-- the id of an accepted begin is new
pub fresh : (s : State) (id : ℕ) → is_ok (begin_answer s id) ≡ true → is_active (s.active ++ []) id ≡ false
fresh s id ok = rw (append-nil s.active) (not_taken (is_active s.active id) _ ok)

pub withdrawal_ends : WithdrawalEndsBegin
withdrawal_ends s id f began ended =
    accepted (state_after s (Begin id f)) (Withdraw id) ended
    ∙ (ap (λ a. active_without a id) (accepted s (Begin id f) began) ∙ (without_middle s.active [] id f (fresh s id began) ∙ append-nil s.active))

-- a link is cut if one of the faults cuts it
cut_among : (before after : Active) (x : ℕ × FaultValue) (a b : ℕ) → cuts a b x.1 ≡ true → list_any (cuts a b) (faults_in (before ++ (x ∷ after))) ≡ true
cut_among [] after x a b h = rw h refl
cut_among (y ∷ ys) after x a b h = or_right (cuts a b y.1) _ (cut_among ys after x a b h)

different : (a b : ℕ) → a ≢ b → (a == b) ≡ false
different a b apart = elim (a == b) as (λ s. (a == b) ≡ s → s ≡ false) [ true ↦ λ s. absurd (apart (eqb-true a b s)) | false ↦ λ s. refl ] refl

-- a withdrawal keeps a fault of another id
without_other : (before after : Active) (id other : ℕ) (f : FaultValue) → other ≢ id → active_without (before ++ ((other, f) ∷ after)) id ≡ active_without before id ++ ((other, f) ∷ active_without after id)
without_other before after id other f apart =
    filter-append (λ g. not (has_id id g)) before ((other, f) ∷ after) ∙ rw (different other id apart) refl

pub others_stay : CutsOfOthersStay
others_stay s before after id other f a b l now apart h =
    elim (is_ok (answer_of s (Withdraw id))) as (λ k. (link_over (faults_in (if k then next_state s (active_without s.active id) else s).active) a b l).cut ≡ true) [
      | true ↦ rw (now, without_other before after id other f apart) (or_right l.cut _ (cut_among (active_without before id) (active_without after id) (other, f) a b h))
      | false ↦ rw now (or_right l.cut _ (cut_among before after (other, f) a b h))
    ]

pub start_stays : CutsOfStartStay
start_stays active a b l h = rw h refl

-- the other faults alone make the environment
pub others_make : (s : State) (before after : Active) (id : ℕ) (f : FaultValue) (env : EnvValue) → s.active ≡ before ++ ((id, f) ∷ after)
    → is_active (before ++ after) id ≡ false → is_ok (answer_of s (Withdraw id)) ≡ true
    → StandsFor env (faults_in (state_after s (Withdraw id)).active) → IsOverlay env.start (faults_in (before ++ after)) (cells_of env)
others_make s before after id f env now other ok stands = rw (← withdrawal_leaves s before after id f now other ok) stands.cells

link_as_started : (a b : ℕ) (o : Option Link) → option_map (link_over [] a b) o ≡ o
link_as_started a b None = refl
link_as_started a b (Some l) = ap Some (same_link_cell _ _ _ _ _ _ (or-false l.cut) (omega arith) refl)

life_as_started : (p : Life) → (if is_killed p || false then Killed else if is_paused p || false then Paused else Running) ≡ p
life_as_started Running = refl
life_as_started Paused = refl
life_as_started Killed = refl

node_as_started : (a : ℕ) (o : Option NodeCell) → option_map (node_over [] a) o ≡ o
node_as_started a None = refl
node_as_started a (Some n) = ap Some (same_node_cell _ _ _ _ (life_as_started n.process) refl)

-- nothing makes of the start what it is
over_nothing : (env : EnvValue) → StandsFor env [] → IsAtStart env
over_nothing env stands = record {
  links = λ a b. stands.cells.links a b ∙ link_as_started a b (link_at env.start a b);
  nodes = λ a. stands.cells.nodes a ∙ node_as_started a (node_at env.start a);
}

pub all_withdrawn : WithdrawingAllLeavesStart
all_withdrawn s env ok stands = over_nothing env (rw (accepted s WithdrawAll ok) at stands)
