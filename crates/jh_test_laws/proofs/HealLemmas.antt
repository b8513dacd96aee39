-- All faults are ended by one step, which the nemesis accepts.
use Rattle.std.proofs.Common.{◌≡◌, ◌≢◌, ℕ, suc, ◌+◌, ◌<◌, ◌≤◌, ◌==◌, Bool, true, false, ◌||◌, not, nat_le, List, [], ◌∷◌, length, refl, sym, ap, ◌∙◌, subst, arith, eq-eqb}
use mathlib.Core.Logic.{◌⊎◌, inl, inr}
use Rattle.std.specs.Prelude.{slice_get, Option, None, Some, if◌then◌else◌}
use Rattle.std.proofs.lemmas.Bool.{cond_both, false≢true, false_from_ne_true, leb-true, ne_eqb}
use Rattle.std.proofs.lemmas.Option.{same_Some, slice_get_within}
use Rattle.jh_conversation.specs.Laws.{Drivers, run}
use Rattle.jh_conversation.specs.Machine.{Machine}
use Rattle.jh_conversation.specs.Turn.{calls_ended, due_in_phase, has_come_to, if_due}
use Rattle.jh_conversation.specs.declared.phase.Phase.{Phase}
use Rattle.jh_conversation.specs.declared.phase.Phase.TheVariants.{Main, Heal, Rest, Final, Over}
use Rattle.jh_conversation.specs.declared.turns.Due.{Due}
use Rattle.jh_conversation.proofs.KeptLemmas.{IsKeptByLine, IsKeptInTurn, by_answers, kept_run}
use Rattle.jh_edn.specs.Edn.{is_empty}
use Rattle.jh_nemesis.specs.State.{Active, State, state_back_to, state_forth_to}
use Rattle.jh_nemesis.specs.Steps.{answer_of, is_ok, max_steps, moved_state, state_after, withdraw_all_answer}
use Rattle.jh_nemesis.specs.declared.steps.Step.{Step}
use Rattle.jh_nemesis.specs.declared.steps.Step.TheVariants.{Begin, Withdraw, WithdrawAll, Undo, Redo}
use Rattle.jh_nemesis.specs.declared.steps.StepAnswer.TheVariants.{Ok, NothingActive, TooManySteps}
use Rattle.jh_test_parts.specs.Test.{IsFitTest, TestValue}
use Rattle.jh_test_parts.specs.declared.parts.TestEntry.{TestEntry}
use Rattle.jh_test_laws.specs.Healing.{HealsAreAccepted, HealsOnce, heals_in}

-- what holds in a phase: in *main* only entries of the schedule were taken, and in *heal* all is withdrawn at last
abbrev pub HasHealed : Phase → TestValue → ℕ → Active → ℕ → Type 0
HasHealed Main t taken active heals = (taken ≤ length t.schedule) × (heals ≡ 0)
HasHealed Heal t taken active heals = ((taken ≤ length t.schedule) × (heals ≡ 0)) ⊎ ((is_empty active ≡ true) × (heals ≤ 1))
HasHealed _ t taken active heals = heals ≤ 1

pub record Stands (t : TestValue) (m : Machine) : Type 0 where
  pub few : length m.nemesis.past ≤ m.taken
  pub healed : HasHealed m.phase t m.taken m.nemesis.active (heals_in t m.history)

-- a step adds one moment to the past at most
back_few : (s : State) (before : List Active) → length before ≤ length s.past → length (state_back_to s before).past ≤ length s.past + 1
back_few s [] few = omega arith
back_few s (moment ∷ before) few = omega (arith, few)

forth_few : (s : State) (after : List Active) → length (state_forth_to s after).past ≤ length s.past + 1
forth_few s [] = omega arith
forth_few s (moment ∷ after) = omega arith

moved_few : (s : State) (step : Step) → length (moved_state s step).past ≤ length s.past + 1
moved_few s (Begin id f) = omega arith
moved_few s (Withdraw id) = omega arith
moved_few s WithdrawAll = omega arith
moved_few s Undo = back_few s s.past (omega arith)
moved_few s Redo = forth_few s s.future

after_few : (s : State) (step : Step) → length (state_after s step).past ≤ length s.past + 1
after_few s step = cond_both (is_ok (answer_of s step)) (moved_state s step) s (λ (x : State). length x.past ≤ length s.past + 1) (λ _. moved_few s step) (λ _. omega arith)

-- where faults are active, and few steps were taken, all are withdrawn
accepted : (s : State) → is_empty s.active ≡ false → length s.past < max_steps → withdraw_all_answer s ≡ Ok
accepted s some few =
    ap (λ b. if b then NothingActive else if nat_le max_steps (length s.past) then TooManySteps else Ok) some
    ∙ ap (λ b. if b then TooManySteps else Ok) (false_from_ne_true (nat_le max_steps (length s.past)) (λ e. let more = leb-true max_steps (length s.past) e in absurd (omega (arith, more, few))))

none_active : (s : State) → is_empty s.active ≡ false → length s.past < max_steps → is_empty (state_after s WithdrawAll).active ≡ true
none_active s some few = ap (λ answer. is_empty (if is_ok answer then moved_state s WithdrawAll else s).active) (accepted s some few)

-- the step that is due in *main* is that of the next entry
next_entry : (m : Machine) (entry : Option TestEntry) (due : Due) → if_due m entry ≡ Some due → (entry ≡ None → ⊥) × (due.entry ≡ m.taken)
next_entry m None due e = absurd cc
next_entry m (Some entry) due e = ((λ none. cc), by (has_come_to entry.at m) refl)
  where
    by : (b : Bool) → has_come_to entry.at m ≡ b → due.entry ≡ m.taken
    by true is =
        let made : Some (record { entry = m.taken; step = entry.step }) ≡ Some due = sym (ap (λ b. if b then Some (record { entry = m.taken; step = entry.step }) else None) is) ∙ e in
        sym (ap (λ (d : Due). d.entry) (same_Some _ _ made))
    by false is = let nothing : None ≡ Some due = sym (ap (λ b. if b then Some (record { entry = m.taken; step = entry.step }) else None) is) ∙ e in cc

module _ (t : TestValue) (fit : IsFitTest t) where
  inside : (taken : ℕ) → (slice_get t.schedule taken ≡ None → ⊥) → taken < length t.schedule
  inside taken some = go (slice_get t.schedule taken) refl
    where
      go : (o : Option TestEntry) → slice_get t.schedule taken ≡ o → taken < length t.schedule
      go None e = absurd (some e)
      go (Some entry) e = slice_get_within t.schedule taken entry e

  begun : (m : Machine) (due : Due) (phase : Phase) (heals : ℕ) → length m.nemesis.past ≤ m.taken → due_in_phase phase t m ≡ Some due → HasHealed phase t m.taken m.nemesis.active heals
      → HasHealed phase t (m.taken + 1) (state_after m.nemesis due.step).active (if due.entry == length t.schedule then suc heals else heals)
  begun m due Main heals few e h = go (calls_ended t m || not (m.stops == 0)) refl
    where
      go : (b : Bool) → (calls_ended t m || not (m.stops == 0)) ≡ b → HasHealed Main t (m.taken + 1) (state_after m.nemesis due.step).active (if due.entry == length t.schedule then suc heals else heals)
      go true is = let nothing : None ≡ Some due = sym (ap (λ b. if b then None else if_due m (slice_get t.schedule m.taken)) is) ∙ e in absurd cc
      go false is =
          let made : if_due m (slice_get t.schedule m.taken) ≡ Some due = sym (ap (λ b. if b then None else if_due m (slice_get t.schedule m.taken)) is) ∙ e in
          let next = next_entry m (slice_get t.schedule m.taken) due made in
          let within : m.taken < length t.schedule = inside m.taken next.0 in
          let entry : due.entry ≡ m.taken = next.1 in
          let other : due.entry ≢ length t.schedule = λ same. absurd (omega (arith, within, entry, same)) in
          (omega (arith, within), ap (λ b. if b then suc heals else heals) (ne_eqb due.entry (length t.schedule) other) ∙ h.1)
  begun m due Heal heals few e h = go (is_empty m.nemesis.active) refl h
    where
      go : (b : Bool) → is_empty m.nemesis.active ≡ b → HasHealed Heal t m.taken m.nemesis.active heals
          → HasHealed Heal t (m.taken + 1) (state_after m.nemesis due.step).active (if due.entry == length t.schedule then suc heals else heals)
      go true is h = let nothing : None ≡ Some due = sym (ap (λ b. if b then None else Some (record { entry = length t.schedule; step = WithdrawAll })) is) ∙ e in absurd cc
      go false is (inr (none, once)) = absurd (false≢true (sym is ∙ none))
      go false is (inl (taken, never)) =
          let made : record { entry = length t.schedule; step = WithdrawAll } ≡ due =
          same_Some (record { entry = length t.schedule; step = WithdrawAll }) due (sym (ap (λ b. if b then None else Some (record { entry = length t.schedule; step = WithdrawAll })) is) ∙ e) in
          let short = fit.schedule.0 in
          let none = none_active m.nemesis is (omega (arith, few, taken, short)) in
          subst (λ (d : Due). HasHealed Heal t (m.taken + 1) (state_after m.nemesis d.step).active (if d.entry == length t.schedule then suc heals else heals)) made
          (inr (none, subst (λ n. n ≤ 1) (sym (ap (λ b. if b then suc heals else heals) (eq-eqb (length t.schedule) (length t.schedule) refl))) (omega (arith, never))))
  begun m due Rest heals few e h = absurd cc
  begun m due Final heals few e h = absurd cc
  begun m due Over heals few e h = absurd cc

  left : (phase : Phase) (taken : ℕ) (active : Active) (heals : ℕ) → phase ≡ Heal → HasHealed phase t taken active heals → heals ≤ 1
  left Main taken active heals is h = absurd cc
  left Heal taken active heals is (inl (few, never)) = omega (arith, never)
  left Heal taken active heals is (inr (none, once)) = once
  left Rest taken active heals is h = absurd cc
  left Final taken active heals is h = absurd cc
  left Over taken active heals is h = absurd cc

  stands_in_turn : IsKeptInTurn t (Stands t)
  stands_in_turn = record {
    calls = by_answers _ _ (record {
      asks = λ m d w h. record { few = h.few; healed = h.healed };
      spends = λ m h. record { few = h.few; healed = h.healed };
      invokes = λ m thread request within idle may h. record { few = h.few; healed = h.healed };
    });
    begins = λ m due w d h. record {
      few = (let more = after_few m.nemesis due.step in let before = h.few in omega (arith, more, before));
      healed = begun m due m.phase (heals_in t m.history) h.few d h.healed;
    };
    heals = λ m is e h. record { few = h.few; healed = inl (subst (λ p. HasHealed p t m.taken m.nemesis.active (heals_in t m.history)) is h.healed) };
    rests = λ m is w q h. record { few = h.few; healed = left m.phase m.taken m.nemesis.active (heals_in t m.history) is h.healed };
    ends_rest = λ m is h. record { few = h.few; healed = subst (λ p. HasHealed p t m.taken m.nemesis.active (heals_in t m.history)) is h.healed };
    finals = λ m d is f h. record { few = h.few; healed = subst (λ p. HasHealed p t m.taken m.nemesis.active (heals_in t m.history)) is h.healed };
    ends_final = λ m is e h. record { few = h.few; healed = subst (λ p. HasHealed p t m.taken m.nemesis.active (heals_in t m.history)) is h.healed };
  }

  stands_by_line : IsKeptByLine t (Stands t)
  stands_by_line = record {
    counts_line = λ m h. record { few = h.few; healed = h.healed };
    clocks = λ m time h. record { few = h.few; healed = h.healed };
    stops = λ m h. record { few = h.few; healed = h.healed };
    refuses = λ m why h. record { few = h.few; healed = h.healed };
    step_ends = λ m w op e h. record { few = h.few; healed = h.healed };
    finishes = λ m thread call op is no fits h. record { few = h.few; healed = h.healed };
  }

  all_stand : (d : Drivers t) (lines : List (List ℕ)) → Stands t (run t d lines)
  all_stand d lines = kept_run t d (Stands t) stands_in_turn stands_by_line lines (record { few = omega arith; healed = (omega arith, refl) })

  once_in : (phase : Phase) (taken : ℕ) (active : Active) (heals : ℕ) → HasHealed phase t taken active heals → heals ≤ 1
  once_in Main taken active heals h = let never = h.1 in omega (arith, never)
  once_in Heal taken active heals h = left Heal taken active heals refl h
  once_in Rest taken active heals h = h
  once_in Final taken active heals h = h
  once_in Over taken active heals h = h

  accepted_in : (m : Machine) → Stands t m → m.phase ≡ Heal → is_empty m.nemesis.active ≡ false → answer_of m.nemesis WithdrawAll ≡ Ok
  accepted_in m h is some = go (subst (λ p. HasHealed p t m.taken m.nemesis.active (heals_in t m.history)) is h.healed)
    where
      go : HasHealed Heal t m.taken m.nemesis.active (heals_in t m.history) → answer_of m.nemesis WithdrawAll ≡ Ok
      go (inl (taken, never)) = let few = h.few in let short = fit.schedule.0 in accepted m.nemesis some (omega (arith, few, taken, short))
      go (inr (none, once)) = absurd (false≢true (sym some ∙ none))

pub heals_once : HealsOnce
heals_once t d lines fit =
    let m = run t d lines in
    once_in t fit m.phase m.taken m.nemesis.active (heals_in t m.history) (all_stand t fit d lines).healed

pub heals_accepted : HealsAreAccepted
heals_accepted t d lines fit is some = accepted_in t fit (run t d lines) (all_stand t fit d lines) is some
