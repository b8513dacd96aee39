-- In each state that steps reach no two active faults have one id.
use Rattle.std.proofs.Common.{◌≡◌, ◌≢◌, ℕ, true, false, not, List, [], ◌∷◌, ◌++◌, get_or, refl, subst, arith, sym}
use Rattle.std.specs.Prelude.{if◌then◌else◌}
use Rattle.std.specs.List.{All, AllPairs}
use Rattle.std.proofs.lemmas.Bool.{eq-eqb, ne_eqb, or_from}
use Rattle.std.proofs.lemmas.List.{append-nil}
use Rattle.std.proofs.lemmas.List.Elements.{All-cons, All-contains, All-head, All-nil, All-tail, Contains-append_right}
use Rattle.std.proofs.lemmas.List.Folds.{list_any_at, list_any_none}
use Rattle.std.proofs.lemmas.List.Kept.{AllPairs-filter}
use Rattle.std.proofs.lemmas.List.Quantifiers.{all_pairs_push}
use Rattle.jh_env.specs.Faults.{FaultValue}
use Rattle.jh_env.specs.Overlay.{EnvValue}
use Rattle.jh_nemesis.specs.State.{State, Active, first_state, has_id, is_active, state_back_to, state_forth_to}
use Rattle.jh_nemesis.specs.Steps.{answer_of, is_ok, moved_state, state_after, state_after_all}
use Rattle.jh_nemesis.specs.Laws.{IdsAreOnce, StepsReach, OthersAloneMake, WithdrawalLeavesOthers}
use Rattle.jh_nemesis.specs.WorkLaws.{WithdrawalWritesItsFault}
use Rattle.jh_nemesis.specs.declared.steps.Step.{Step}
use Rattle.jh_nemesis.specs.declared.steps.Step.TheVariants.{Begin, Withdraw, WithdrawAll, Undo, Redo}
use Rattle.jh_nemesis.proofs.LawLemmas.{fresh, others_make, withdrawal_leaves}
use Rattle.jh_nemesis.proofs.StampLemmas.{pairs_head, pairs_tail}
use Rattle.jh_nemesis.proofs.WorkLemmas.{withdrawal_writes}

-- two faults have different ids
abbrev HaveOtherIds : ℕ × FaultValue → ℕ × FaultValue → Type 0
HaveOtherIds f g = f.0 ≢ g.0

abbrev AreOnce : Active → Type 0
AreOnce active = AllPairs HaveOtherIds active

-- at each moment of the state
record AreOnceIn (s : State) : Type 0 where
  past : All AreOnce s.past
  active : AreOnce s.active
  future : All AreOnce s.future

none_once : AreOnce []
none_once i j d less within = absurd (omega arith)

next_once : (s : State) (next : Active) → AreOnceIn s → AreOnce next → AreOnceIn (let t : State = record s { past = s.active ∷ s.past; active = next; future = [] } in t)
next_once s next once there = record { past = All-cons AreOnce s.active s.past once.active once.past; active = there; future = All-nil AreOnce }

begun_once : (active : Active) (id : ℕ) (f : FaultValue) → is_active active id ≡ false → AreOnce active → AreOnce (active ++ (id, f) ∷ [])
begun_once active id f new once =
    all_pairs_push HaveOtherIds active (id, f) once (λ k d within same.
    let taken : is_active active id ≡ true = list_any_at (has_id id) active k d within (eq-eqb (get_or active k d).0 id same) in
    absurd cc)

back_once : (s : State) (before : List Active) → AreOnceIn s → All AreOnce before → AreOnceIn (state_back_to s before)
back_once s [] once all = once
back_once s (moment ∷ before) once all = record {
  past = All-tail AreOnce moment before all;
  active = All-head AreOnce moment before all;
  future = All-cons AreOnce s.active s.future once.active once.future;
}

forth_once : (s : State) (after : List Active) → AreOnceIn s → All AreOnce after → AreOnceIn (state_forth_to s after)
forth_once s [] once all = once
forth_once s (moment ∷ after) once all = record {
  past = All-cons AreOnce s.active s.past once.active once.past;
  active = All-head AreOnce moment after all;
  future = All-tail AreOnce moment after all;
}

moved_once : (s : State) (step : Step) → is_ok (answer_of s step) ≡ true → AreOnceIn s → AreOnceIn (moved_state s step)
moved_once s (Begin id f) ok once = next_once s _ once (begun_once s.active id f (rw (append-nil s.active) at (fresh s id ok)) once.active)
moved_once s (Withdraw id) ok once = next_once s _ once (AllPairs-filter HaveOtherIds (λ f. not (has_id id f)) s.active once.active)
moved_once s WithdrawAll ok once = next_once s [] once none_once
moved_once s Undo ok once = back_once s s.past once once.past
moved_once s Redo ok once = forth_once s s.future once once.future

step_once : (s : State) (step : Step) → AreOnceIn s → AreOnceIn (state_after s step)
step_once s step once =
    elim (is_ok (answer_of s step)) as (λ t. is_ok (answer_of s step) ≡ t → AreOnceIn (if t then moved_state s step else s)) [
      | true ↦ λ ok. moved_once s step ok once
      | false ↦ λ no. once
    ] refl

steps_once : (s : State) (steps : List Step) → AreOnceIn s → AreOnceIn (state_after_all s steps)
steps_once s [] once = once
steps_once s (step ∷ steps) once = steps_once (state_after s step) steps (step_once s step once)

first_once : (first : EnvValue) → AreOnceIn (first_state first)
first_once first = record { past = All-nil AreOnce; active = none_once; future = All-nil AreOnce }

pub ids_once : IdsAreOnce
ids_once s reached = rw reached.2 (steps_once (first_state reached.0) reached.1 (first_once reached.0)).active

-- no other fault has the id of one of them
others_free : (before after : Active) (f : ℕ × FaultValue) → AreOnce (before ++ f ∷ after) → is_active (before ++ after) f.0 ≡ false
others_free [] after f once =
    let others = pairs_head HaveOtherIds f after once in
    list_any_none (has_id f.0) after (λ k d h. ne_eqb (get_or after k d).0 f.0 (λ e. others k d h (sym e)))
others_free (g ∷ before) after f once =
    let others = pairs_head HaveOtherIds g (before ++ f ∷ after) once in
    let apart : g.0 ≢ f.0 = All-contains (HaveOtherIds g) (before ++ f ∷ after) f others (Contains-append_right before (f ∷ after) f (0, omega arith, refl)) in
    or_from (has_id f.0 g) (is_active (before ++ after) f.0) (ne_eqb g.0 f.0 apart)
    (others_free before after f (pairs_tail HaveOtherIds g (before ++ f ∷ after) once))

reached_free : (s : State) (before after : Active) (id : ℕ) (f : FaultValue) → StepsReach s → s.active ≡ before ++ ((id, f) ∷ after)
    → is_active (before ++ after) id ≡ false
reached_free s before after id f reached now = others_free before after (id, f) (subst AreOnce now (ids_once s reached))

pub reached_leaves : WithdrawalLeavesOthers
reached_leaves s before after id f reached now ok = withdrawal_leaves s before after id f now (reached_free s before after id f reached now) ok

pub reached_make : OthersAloneMake
reached_make s before after id f env reached now ok stands = others_make s before after id f env now (reached_free s before after id f reached now) ok stands

pub reached_writes : WithdrawalWritesItsFault
reached_writes s before after id f reached now ok = withdrawal_writes s before after id f now (reached_free s before after id f reached now) ok
