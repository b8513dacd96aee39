-- A trial that is not judged is one that did not come to its end.
use Rattle.std.proofs.Common.{ℕ, List, Option}
use Rattle.jh_checkers.specs.declared.finding.Judging.{Judging}
use Rattle.jh_drive.specs.declared.error.DriveError.{DriveError}
use Rattle.jh_drive.specs.declared.error.DriveError.TheVariants.{Settings, SettingsRead, BadPalette, Reply, RepliesEnded, Read, TooManyTurns, Mismatch, Write, OutOfMemory}
use Rattle.jh_test_parts.specs.Test.{TestValue}
use Rattle.jh_trials.specs.Held.{FailsTrial}
use Rattle.jh_trials.specs.Trials.{TrialValue, IsTrialBegun}
use Rattle.jh_drive_shrink.specs.ShrinkInside.{FailsTest}

module _ (test : TestValue) (judging : Judging) (number read : ℕ) (input rest before after : Option (List ℕ)) (first last : TrialValue) where
  pub fails_so : (error : DriveError) → IsTrialBegun test number read first → FailsTrial judging first last input rest before after error
      → FailsTest test judging number read input rest before after error
  fails_so (Settings e) begun it = (first, last, begun, it)
  fails_so SettingsRead begun it = (first, last, begun, it)
  fails_so BadPalette begun it = (first, last, begun, it)
  fails_so (Reply line why) begun it = (first, last, begun, it)
  fails_so RepliesEnded begun it = (first, last, begun, it)
  fails_so Read begun it = (first, last, begun, it)
  fails_so TooManyTurns begun it = (first, last, begun, it)
  fails_so Mismatch begun it = (first, last, begun, it)
  fails_so Write begun it = (first, last, begun, it)
  fails_so OutOfMemory begun it = tt
