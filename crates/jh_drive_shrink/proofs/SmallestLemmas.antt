-- What trials leave of a schedule.
use Rattle.std.proofs.Common.{◌≡◌, ◌∙◌, ◌≤◌, ◌<◌, ◌⊎◌, inl, inr, IfOk, ℕ, zero, suc, true, false, List, [], ◌∷◌, length, map, refl, Option, Some, Result, Ok, Err, MatchResult, sym, ap, subst, arith}
use Rattle.std.proofs.lemmas.List.{length-map}
use Rattle.std.specs.List.{range_with_len, remove}
use Rattle.jh_checkers.specs.declared.finding.Judging.{Judging}
use Rattle.jh_drive.specs.declared.error.DriveError.{DriveError}
use Rattle.jh_drive.specs.declared.error.DriveError.TheVariants.{OutOfMemory}
use Rattle.jh_drive_search.specs.DriveSearch.{Tried}
use Rattle.jh_shrink.specs.Shrunk.{IsBudget, IsShrunk, IsSubsequence, RefusesShrink}
use Rattle.jh_shrink.specs.declared.shrinking.ShrinkError.{ShrinkError}
use Rattle.jh_shrink.specs.declared.shrinking.Shrunk.{Shrunk}
use Rattle.jh_shrink.specs.declared.shrinking.Shrunk.TheVariants as Shrunks
use Rattle.jh_simnode.specs.declared.schedule.Entry.{Entry}
use Rattle.jh_test_parts.specs.Test.{TestValue}
use Rattle.jh_drive_shrink.specs.DriveShrink.{BreaksShrinking, HasFailedWith, HasPassedWith}
use Rattle.jh_drive_shrink.specs.PartsInside.{all_places, part_at, place_entry, place_numbers, standing_at}
use Rattle.jh_drive_shrink.specs.ShrinkInside.{AreAnswersOf, AreAt, AreAtError, HasAnswered, IsLeftByTrials, IsSmallestOf, IsToldOf, WerePartsHeld, places_made, told_made}
use Rattle.jh_drive_shrink.specs.declared.judge.Progress.{Progress}
use Rattle.jh_drive_shrink.specs.declared.judge.Smallest.{Smallest}
use Rattle.jh_drive_shrink.proofs.HeldLemmas.{answer_of, breaks_more}
use Rattle.jh_drive_shrink.proofs.PartLemmas.{standing_each, standing_whole, standing_without}

-- ---- places

-- the number of what stands for a place is that place
numbers_back : (places : List ℕ) → place_numbers (map place_entry places) ≡ places
numbers_back [] = refl
numbers_back (place ∷ places) = ap (λ l. place ∷ l) (numbers_back places)

whole_at : (t : TestValue) → part_at t (all_places t) ≡ t.schedule
whole_at t = ap (standing_at 0 t.schedule) (numbers_back (range_with_len 0 (length t.schedule))) ∙ standing_whole 0 t.schedule

sub_numbers : (places given : List Entry) → IsSubsequence places given → IsSubsequence (place_numbers places) (place_numbers given)
sub_numbers [] given sub = tt
sub_numbers (p ∷ ps) [] sub = absurd sub
sub_numbers (p ∷ ps) (q ∷ qs) (inl it) = inl (ap (λ e. e.at) it.0, sub_numbers ps qs it.1)
sub_numbers (p ∷ ps) (q ∷ qs) (inr it) = inr (sub_numbers (p ∷ ps) qs it)

numbers_without : (places : List Entry) (i : ℕ) → place_numbers (remove places i) ≡ remove (place_numbers places) i
numbers_without [] zero = refl
numbers_without [] (suc i) = refl
numbers_without (p ∷ ps) zero = refl
numbers_without (p ∷ ps) (suc i) = ap (λ l. p.at ∷ l) (numbers_without ps i)

module _ (t : TestValue) (places : List Entry) (sub : IsSubsequence places (all_places t)) where
  in_range : IsSubsequence (place_numbers places) (range_with_len 0 (length t.schedule))
  in_range = subst (IsSubsequence (place_numbers places)) (numbers_back (range_with_len 0 (length t.schedule))) (sub_numbers places (all_places t) sub)

  part_each : length (part_at t places) ≡ length places
  part_each = standing_each 0 t.schedule (place_numbers places) in_range ∙ length-map places (λ p. p.at)

  part_without : (i : ℕ) → i < length places → part_at t (remove places i) ≡ remove (part_at t places) i
  part_without i below =
      ap (standing_at 0 t.schedule) (numbers_without places i)
      ∙ standing_without 0 t.schedule (place_numbers places) i in_range (omega (arith, below, length-map places (λ p. p.at)))

-- ---- what is left

module _ (t : TestValue) (judging : Judging) (runs : ℕ) (trials : List Tried) (p : Progress) (known : AreAnswersOf t trials p.answers.items) (as_many : length trials ≡ p.asked) where
  failed_so : (places : List Entry) → HasAnswered p places (Some true) → HasFailedWith trials (part_at t places)
  failed_so places said = answer_of t trials p places true known said

  passed_so : (places : List Entry) → HasAnswered p places (Some false) → HasPassedWith trials (part_at t places)
  passed_so places said = answer_of t trials p places false known said

  pub told_so : (shrunk : Shrunk) → IsShrunk (HasAnswered p) runs (all_places t) shrunk → (IsBudget shrunk → p.asked ≡ runs)
      → IsToldOf t judging runs trials (places_made shrunk) (told_made shrunk)
  told_so (Shrunks.Minimal places) it used = record {
    failed = failed_so places it.0.1;
    needed = λ place below.
        let here : place < length places = omega (arith, below, part_each t places it.0.0) in
        subst (HasPassedWith trials) (part_without t places it.0.0 place here) (passed_so (remove places place) (it.1 place here));
    fewer = omega (arith, it.2, part_each t places it.0.0);
  }
  told_so (Shrunks.Budget places) (inl it) used = (inl (it.0, ap (part_at t) it.1 ∙ whole_at t), as_many ∙ used tt)
  told_so (Shrunks.Budget places) (inr it) used = (inr (failed_so places it.1), as_many ∙ used tt)
  told_so (Shrunks.NotFailing places) it used = subst (HasPassedWith trials) (ap (part_at t) it.0 ∙ whole_at t) (passed_so places it.1)

module _ (t : TestValue) (judging : Judging) (input rest before after : Option (List ℕ)) (runs : ℕ) (made : Result Shrunk ShrinkError) (p : Progress)
    (shrunk : MatchResult made (IsShrunk (HasAnswered p) runs (all_places t)) (RefusesShrink (HasAnswered p) (all_places t))) (within : p.asked ≤ runs) (used : IfOk made (λ s. IsBudget s → p.asked ≡ runs))
    (at : AreAt t judging input rest before after p) where
  left_so : (s : Smallest) → IsSmallestOf made p s → IsLeftByTrials t judging input rest before after runs s
  left_so s it =
      let here = subst (AreAtError t judging input rest before after p) it.no_error at in
      let is_shrunk = subst (λ m. MatchResult m (IsShrunk (HasAnswered p) runs (all_places t)) (RefusesShrink (HasAnswered p) (all_places t))) it.is_made shrunk in
      let is_used = subst (λ m. IfOk m (λ s. IsBudget s → p.asked ≡ runs)) it.is_made used in
      let held = subst (λ n. WerePartsHeld t judging input rest before after n p.read here.0) (sym it.held) here.1 in
      let told = told_so t judging runs here.0 p here.2 here.1.so_many it.shrunk is_shrunk is_used in
      record {
        trials = here.0;
        held = subst (λ r. WerePartsHeld t judging input rest before after s.held r here.0) (sym it.read) held;
        within = omega (arith, here.1.so_many, within);
        told = subst (λ told. IsToldOf t judging runs here.0 s.places told) (sym it.told) (subst (λ places. IsToldOf t judging runs here.0 places (told_made it.shrunk)) (sym it.places) told);
      }

  error_so : (e : DriveError) → (p.error ≡ Some e) ⊎ (e ≡ OutOfMemory) → BreaksShrinking t judging runs input rest before after e
  error_so e (inl it) = breaks_more t judging input before p.asked runs rest after e within (subst (AreAtError t judging input rest before after p) it at)
  error_so e (inr it) = subst (BreaksShrinking t judging runs input rest before after) (sym it) tt

  pub smallest_so : (result : Result Smallest DriveError) → MatchResult result (IsSmallestOf made p) (λ e. (p.error ≡ Some e) ⊎ (e ≡ OutOfMemory))
      → MatchResult result (IsLeftByTrials t judging input rest before after runs) (BreaksShrinking t judging runs input rest before after)
  smallest_so (Ok s) it = left_so s it
  smallest_so (Err e) it = error_so e it
