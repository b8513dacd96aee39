-- Answers that are looked at one after another.
use Rattle.std.proofs.Common.{◌≡◌, ℕ, zero, suc, Bool, false, List, [], ◌∷◌, refl, sym, ap, ◌∙◌, arith}
use Rattle.std.proofs.lemmas.Bool.{false≢true}
use Rattle.std.specs.Prelude.{Option, Some, None, unwrap_or}
use Rattle.jh_tasks.specs.Answers.{AreDone, HasLastBefore}

-- from the first on each is there, until a last one
abbrev pub AreDoneInTurn : {A : Type 0} → (A → Bool) → List (Option A) → Type 0
AreDoneInTurn is_last [] = Unit {0}
AreDoneInTurn is_last (None ∷ answers) = ⊥
AreDoneInTurn is_last (Some answer ∷ answers) = is_last answer ≡ false → AreDoneInTurn is_last answers

-- a last answer before the next number, and not the first, stands before this number of the others
behind_first : {A : Type 0} (is_last : A → Bool) (first : A) (answers : List (Option A)) (number : ℕ) → is_last first ≡ false
    → HasLastBefore is_last (Some first ∷ answers) (suc number) → HasLastBefore is_last answers number
behind_first is_last first answers number goes (zero, answer, less, at, last) =
    absurd (false≢true (sym goes ∙ ap (λ o. is_last (unwrap_or (unwrap_or o (Some answer)) answer)) at ∙ last))
behind_first is_last first answers number goes (suc earlier, answer, less, at, last) = (earlier, answer, (omega (arith, less)), at, last)

pub done_in_turn : {A : Type 0} (is_last : A → Bool) (answers : List (Option A)) → AreDone is_last answers → AreDoneInTurn is_last answers
done_in_turn is_last [] done = tt
done_in_turn is_last (None ∷ answers) done = none_before (done zero refl)
  where
    none_before : HasLastBefore is_last (None ∷ answers) zero → ⊥
    none_before (earlier, answer, less, at, last) = absurd (omega (arith, less))
done_in_turn is_last (Some first ∷ answers) done = λ goes.
    done_in_turn is_last answers (λ number at. behind_first is_last first answers number goes (done (suc number) at))
