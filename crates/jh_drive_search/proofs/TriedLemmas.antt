-- Trials behind one another.
use mir.Val.{bool_byte}
use Rattle.std.proofs.Common.{◌≡◌, ◌≢◌, ◌∙◌, ◌+◌, ◌<◌, ◌≤◌, ◌==◌, ℕ, Bool, true, false, cond, List, ◌∷◌, length, Option, Result, Ok, Err, IsErrAnd, MatchResult, refl, sym, ap, subst, arith}
use Rattle.std.proofs.KnownBytes.{Appends-trans, Consumes-trans}
use Rattle.std.proofs.lemmas.List.Sums.{sum_by-cons}
use Rattle.jh_checkers.specs.declared.finding.Judging.{Judging}
use Rattle.jh_drive.specs.declared.error.DriveError.{DriveError}
use Rattle.jh_drive.specs.declared.error.DriveError.TheVariants.{Settings, SettingsRead, BadPalette, Reply, RepliesEnded, Read, TooManyTurns, Mismatch, Write, OutOfMemory}
use Rattle.jh_lines.specs.Events.{heard_in, told_in}
use Rattle.jh_test_candidates.specs.Candidates.{test_candidate_of}
use Rattle.jh_test_parts.specs.Test.{TestValue}
use Rattle.jh_trials.specs.Held.{FailsTrial, IsJudged}
use Rattle.jh_trials.specs.Trials.{TrialValue, IsTrialBegun}
use Rattle.jh_drive_search.specs.declared.options.TrialOptions.{TrialOptions}
use Rattle.jh_drive_search.specs.DriveSearch.{BreaksOff, IsBrokenOff, IsNext, Tried, heard_in_all, has_unknown_status, told_in_all, unknown_in}
use Rattle.jh_drive_search.specs.SearchInside.{HaveBeenTried, IsFailing}

byte_counts : (b : Bool) → bool_byte b ≡ cond b 1 0
byte_counts true = refl
byte_counts false = refl

pub at_most_more : (unknown more count : ℕ) (has_unknown_status : Bool) → unknown ≤ count → more ≡ bool_byte has_unknown_status → unknown + more ≤ count + 1
at_most_more unknown more count true few is = omega (arith, few, is)
at_most_more unknown more count false few is = omega (arith, few, is)

pub err_matched : {A : Type 0} (result : Result A DriveError) (error : DriveError) (P : A → Type 0) (Q : DriveError → Type 0)
    → IsErrAnd result (λ it. it ≡ error) → Q error → MatchResult result P Q
err_matched (Err it) error P Q is met = subst Q (sym is) met
err_matched (Ok it) error P Q is met = absurd is

module _ (t : TestValue) (judging : Judging) (options : TrialOptions) (input mid before between : Option (List ℕ)) where
  -- what waits when so many were tried is the trial behind these
  pub is_next : (count unknown read number : ℕ) (h : HaveBeenTried t judging options input mid before between count unknown read) (first : TrialValue)
      → number ≡ options.from + count → IsTrialBegun (test_candidate_of t options.palette options.faults number) number read first → IsNext t judging options h.trials first
  is_next count unknown read number h first is begun =
      let at : options.from + count ≡ options.from + length h.trials = ap (λ n. options.from + n) (sym h.so_many) in
      let here = subst (λ n. IsTrialBegun (test_candidate_of t options.palette options.faults n) n read first) (is ∙ at) begun in
      subst (λ r. IsTrialBegun (test_candidate_of t options.palette options.faults (options.from + length h.trials)) (options.from + length h.trials) r first) h.lines here

  -- so many, by another name
  pub as_many : (count all unknown read : ℕ) → HaveBeenTried t judging options input mid before between count unknown read → all ≡ count
      → HaveBeenTried t judging options input mid before between all unknown read
  as_many count all unknown read h same = subst (λ n. HaveBeenTried t judging options input mid before between n unknown read) (sym same) h

  module _ (rest after : Option (List ℕ)) where
    -- one more was tried, and does not fail
    pub tried_more : (count unknown read number : ℕ) (h : HaveBeenTried t judging options input mid before between count unknown read) (first last : TrialValue) (status more : ℕ) (line : List ℕ)
        → number ≡ options.from + count → IsTrialBegun (test_candidate_of t options.palette options.faults number) number read first
        → IsJudged judging first last mid rest between after status line → status ≢ 1 → more ≡ bool_byte (status == 2)
        → HaveBeenTried t judging options input rest before after (count + 1) (unknown + more) last.read
    tried_more count unknown read number h first last status more line is begun judged differs counts =
        let past = judged.0 in
        let tried : Tried = record { first = first; last = last; past = past; status = status } in
        let counted : unknown_in (tried ∷ h.trials) ≡ cond (status == 2) 1 0 + unknown_in h.trials = sum_by-cons (λ it. cond (has_unknown_status it) 1 0) tried h.trials in
        record {
          trials = tried ∷ h.trials;
          tried = ((is_next count unknown read number h first is begun, (line, judged.1)), differs, h.tried);
          so_many = omega (arith, h.so_many);
          counted = omega (arith, h.counted, counts ∙ byte_counts (status == 2), counted);
          lines = refl;
          heard = Consumes-trans _ _ _ (heard_in_all h.trials) (heard_in past) h.heard judged.2;
          told = Appends-trans _ _ _ (told_in_all h.trials) (told_in past) h.told judged.3;
        }

    -- one more was tried, and fails
    pub tried_last : (count unknown read number : ℕ) (h : HaveBeenTried t judging options input mid before between count unknown read) (first last : TrialValue) (status : ℕ) (line : List ℕ)
        → count < options.runs → number ≡ options.from + count → IsTrialBegun (test_candidate_of t options.palette options.faults number) number read first
        → IsJudged judging first last mid rest between after status line → status ≡ 1
        → IsFailing t judging options input rest before after number last line
    tried_last count unknown read number h first last status line below is begun judged fails =
        let past = judged.0 in
        record {
          earlier = h.trials;
          found = record { first = first; last = last; past = past; status = status };
          not_before = h.tried;
          within = subst (λ n. n < options.runs) (sym h.so_many) below;
          is_number = is ∙ ap (λ n. options.from + n) (sym h.so_many);
          next = is_next count unknown read number h first is begun;
          left = refl;
          fails = fails;
          judged = judged.1;
          heard = Consumes-trans _ _ _ (heard_in_all h.trials) (heard_in past) h.heard judged.2;
          told = Appends-trans _ _ _ (told_in_all h.trials) (told_in past) h.told judged.3;
        }

    -- the next one did not come to its end
    pub tried_in_part : (count unknown read number : ℕ) (h : HaveBeenTried t judging options input mid before between count unknown read) (first last : TrialValue) (error : DriveError)
        → count < options.runs → number ≡ options.from + count → IsTrialBegun (test_candidate_of t options.palette options.faults number) number read first
        → FailsTrial judging first last mid rest between after error → BreaksOff t judging options input rest before after error
    tried_in_part count unknown read number h first last error below is begun fails =
        breaks error (record {
          earlier = h.trials;
          tried = h.tried;
          within = subst (λ n. n < options.runs) (sym h.so_many) below;
          first = first;
          last = last;
          begun = is_next count unknown read number h first is begun;
          input_then = mid;
          output_then = between;
          heard = h.heard;
          written = h.told;
          fails = fails;
        })
      where
        breaks : (error : DriveError) → IsBrokenOff t judging options input rest before after error → BreaksOff t judging options input rest before after error
        breaks (Settings e) broken = broken
        breaks SettingsRead broken = broken
        breaks BadPalette broken = broken
        breaks (Reply number why) broken = broken
        breaks RepliesEnded broken = broken
        breaks Read broken = broken
        breaks TooManyTurns broken = broken
        breaks Mismatch broken = broken
        breaks Write broken = tt
        breaks OutOfMemory broken = tt
