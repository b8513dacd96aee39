-- A trial that did not come to its end.
use Rattle.std.proofs.Common.{◌≡◌, ℕ, Bool, true, false, List, [], Option, Some, None, Result, Ok, Err, refl, sym}
use Rattle.jh_checkers.specs.declared.finding.Judging.{Judging}
use Rattle.jh_conversation.specs.declared.callers.BadLine.{BadLine}
use Rattle.jh_drive.specs.Drive.{IsReportOf, drive_answer, ended_early}
use Rattle.jh_drive.specs.declared.error.DriveError.{DriveError}
use Rattle.jh_drive.specs.declared.error.DriveError.TheVariants.{Settings, SettingsRead, BadPalette, Reply, RepliesEnded, Read, TooManyTurns, Mismatch, Write, OutOfMemory}
use Rattle.jh_lines.specs.declared.ending.Ending.{Ending}
use Rattle.jh_lines.specs.declared.ending.Ending.TheVariants as Endings
use Rattle.jh_trials.specs.Held.{FailsTrial, IsBroken, IsReportIf}
use Rattle.jh_trials.specs.Trials.{TrialValue, is_trial_over, trial_bad}

false-true : false ≡ true → ⊥
false-true e = cc

early : (ending : Ending) → ended_early ending ≡ Mismatch → ⊥
early (Endings.ReadFailed error) e = let bad : Read ≡ Mismatch = e in cc
early Endings.TooManyTurns e = let bad : TooManyTurns ≡ Mismatch = e in cc
early Endings.Over e = let bad : RepliesEnded ≡ Mismatch = e in cc
early Endings.InputEnded e = let bad : RepliesEnded ≡ Mismatch = e in cc
early (Endings.WriteFailed error) e = let bad : Write ≡ Mismatch = e in cc
early Endings.OutOfMemory e = let bad : OutOfMemory ≡ Mismatch = e in cc

the_same : (a b : DriveError) → ◌≡◌ {A = Result ℕ DriveError} (Err a) (Err b) → a ≡ b
the_same a b e = cc

-- no test ends so by itself
no_mismatch : (bad : Option BadLine) (over : Bool) (ending : Ending) → drive_answer bad over ending 0 ≡ Err Mismatch → ⊥
no_mismatch (Some bad) over ending e = let same : Reply bad.number bad.why ≡ Mismatch = the_same _ _ e in cc
no_mismatch None true ending e = let same : ◌≡◌ {A = Result ℕ DriveError} (Ok 0) (Err Mismatch) = e in cc
no_mismatch None false ending e = early ending (the_same _ _ e)

-- of one that had begun a report is written, of another none
pub reported : (judging : Judging) (last : TrialValue) (begun : Bool) (status : ℕ) (report : List ℕ) → begun ≡ true
    → IsReportOf judging last.conversation status report → IsReportIf judging last begun report
reported judging last true status report is_so is = (status, is)
reported judging last false status report is_so is = absurd (false-true is_so)

pub not_reported : (judging : Judging) (last : TrialValue) (begun : Bool) → begun ≡ false → IsReportIf judging last begun []
not_reported judging last true is_so = absurd (false-true (sym is_so))
not_reported judging last false is_so = refl

module _ (judging : Judging) (first last : TrialValue) (input rest before after : Option (List ℕ)) where
  pub fails_broken : (error : DriveError) → IsBroken judging first last input rest before after error
      → FailsTrial judging first last input rest before after error
  fails_broken (Settings error) broken = broken
  fails_broken SettingsRead broken = broken
  fails_broken BadPalette broken = broken
  fails_broken (Reply number why) broken = broken
  fails_broken RepliesEnded broken = broken
  fails_broken Read broken = broken
  fails_broken TooManyTurns broken = broken
  fails_broken Mismatch broken = absurd (no_mismatch (trial_bad last) (is_trial_over last) broken.ending broken.answer)
  fails_broken Write broken = tt
  fails_broken OutOfMemory broken = tt
