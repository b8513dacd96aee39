-- What the parts of the code say to each other; `DriveShrink` has the rule. This project's own.
use Rattle.std.specs.Prelude.{◌≡◌, ◌≤◌, ◌==◌, ℕ, Bool, true, false, List, length, Option, Some, None, IsSome}
use Rattle.std.specs.Prelude.{◌++◌, ◌∷◌, [], Result, Ok}
use Rattle.std.specs.Io.KnownBytes.{Appends, Consumes}
use Rattle.std.specs.List.{Contains}
use Rattle.jh_checkers.specs.declared.finding.Judging.{Judging}
use Rattle.jh_drive.specs.declared.error.DriveError.{DriveError}
use Rattle.jh_drive.specs.declared.error.DriveError.TheVariants.{OutOfMemory}
use Rattle.jh_drive_search.specs.DriveSearch.{Tried, heard_in_all, read_in, told_in_all}
use Rattle.jh_shrink.specs.declared.shrinking.ShrinkError.{ShrinkError}
use Rattle.jh_shrink.specs.declared.shrinking.Shrunk.{Shrunk}
use Rattle.jh_shrink.specs.declared.shrinking.Shrunk.TheVariants as Shrunks
use Rattle.jh_simnode.specs.declared.schedule.Entry.{Entry}
use Rattle.jh_drive.specs.Drive.{IsReportOf}
use Rattle.jh_drive_search.specs.declared.settings.SearchSettings.{SearchSettings}
use Rattle.jh_drive_settings.specs.Settings.{AreDriveSettingsOf}
use Rattle.jh_reports.specs.Judged.{IsTextBy}
use Rattle.jh_test_parts.specs.Test.{TestValue}
use Rattle.jh_test_parts.specs.declared.parts.TestEntry.{TestEntry}
use Rattle.jh_test_settings_texts.specs.WritableEntries.{test_in_order}
use Rattle.jh_trials.specs.Held.{FailsTrial, IsJudged, has_keys, trial_history}
use Rattle.jh_trials.specs.Trials.{TrialValue, IsTrialBegun}
use Rattle.jh_drive_shrink.specs.DriveShrink.{ArePartsTried, BreaksShrinking, HasFailedWith, HasPassedWith}
use Rattle.jh_drive_shrink.specs.DriveShrink.{IsMinimalPart, IsPartLeft, test_of_part}
use Rattle.jh_drive_shrink.specs.PartsInside.{part_at, place_numbers, standing_at}
use Rattle.jh_drive_shrink.specs.ToldInside.{told_heading}
use Rattle.jh_drive_shrink.specs.declared.judge.Answer.{Answer}
use Rattle.jh_drive_shrink.specs.declared.judge.Progress.{Progress}
use Rattle.jh_drive_shrink.specs.declared.judge.Smallest.{Smallest}
use Rattle.jh_drive_shrink.specs.declared.told.Told.{Told}
use Rattle.jh_drive_shrink.specs.declared.told.Told.TheVariants.{Minimal, Budget, NotReproduced}
use Rattle.jh_drive_shrink.specs.declared.trying.HeldTrial.{HeldTrial}

-- ---- one trial

module _ (test : TestValue) (judging : Judging) (number read : ℕ) (input rest before after : Option (List ℕ)) where
  -- it came to its end
  abbrev pub IsTestHeld : HeldTrial → Type 0
  IsTestHeld held =
      (first : TrialValue) × IsTrialBegun test number read first
      × IsJudged judging first held.trial input rest before after held.judged.status held.judged.text.items

  -- it did not, or memory was refused
  abbrev pub FailsTest : DriveError → Type 0
  FailsTest OutOfMemory = Unit {0}
  FailsTest error =
      (first last : TrialValue) × IsTrialBegun test number read first
      × FailsTrial judging first last input rest before after error

-- ---- what was answered

-- The answer is that of a trial with the entries at its places.
abbrev pub IsAnswerOf : TestValue → List Tried → List ℕ → Bool → Type 0
IsAnswerOf t trials places true = HasFailedWith trials (standing_at 0 t.schedule places)
IsAnswerOf t trials places false = HasPassedWith trials (standing_at 0 t.schedule places)

abbrev pub AreAnswersOf : TestValue → List Tried → List Answer → Type 0
AreAnswersOf t trials answers =
    (answer : Answer) → Contains answers answer → IsAnswerOf t trials answer.places.items answer.failed

-- it was asked about these places, and answered so, or not at all
abbrev pub HasAnswered : Progress → List Entry → Option Bool → Type 0
HasAnswered progress places None = IsSome progress.error
HasAnswered progress places (Some failed) =
    (answer : Answer) × Contains progress.answers.items answer
    × (answer.places.items ≡ place_numbers places) × (answer.failed ≡ failed)

-- what was answered stays so
pub record KeepsAnswers (one next : Progress) : Type 0 where
  pub answers : (answer : Answer) → Contains one.answers.items answer → Contains next.answers.items answer
  pub none : IsSome one.error → IsSome next.error

-- the answer of this trial, which was the next, is known now
pub record IsLearnt (one next : Progress) (places : List ℕ) (held : HeldTrial) (failed : Bool) : Type 0 where
  pub asked : next.asked ≡ one.asked
  pub error : next.error ≡ one.error
  pub read : next.read ≡ held.trial.read
  pub fails : failed ≡ (held.judged.status == 1)
  pub answer : Answer
  pub of_places : answer.places.items ≡ places
  pub has_failed : answer.failed ≡ failed
  pub more : next.answers.items ≡ one.answers.items ++ answer ∷ []

-- no answer is new
pub record IsUnlearnt (one next : Progress) : Type 0 where
  pub asked : next.asked ≡ one.asked
  pub error : next.error ≡ one.error
  pub answers : next.answers.items ≡ one.answers.items

-- nothing was asked yet
pub record IsUnasked (progress : Progress) : Type 0 where
  pub asked : progress.asked ≡ 0
  pub read : progress.read ≡ 0
  pub answers : progress.answers.items ≡ []
  pub error : progress.error ≡ None

-- ---- what `jh_shrink` made of a schedule

abbrev pub told_made : Shrunk → Told
told_made (Shrunks.Minimal places) = Minimal
told_made (Shrunks.Budget places) = Budget
told_made (Shrunks.NotFailing places) = NotReproduced

abbrev pub places_made : Shrunk → List Entry
places_made (Shrunks.Minimal places) = places
places_made (Shrunks.Budget places) = places
places_made (Shrunks.NotFailing places) = places

-- it is what was made, where each trial came to its end
pub record IsSmallestOf (made : Result Shrunk ShrinkError) (progress : Progress) (s : Smallest) : Type 0 where
  pub shrunk : Shrunk
  pub is_made : made ≡ Ok shrunk
  pub no_error : progress.error ≡ None
  pub told : s.told ≡ told_made shrunk
  pub places : s.places ≡ places_made shrunk
  pub held : s.held ≡ progress.asked
  pub read : s.read ≡ progress.read

-- ---- what is known of the part at these places

abbrev pub IsToldOf : TestValue → Judging → ℕ → List Tried → List Entry → Told → Type 0
IsToldOf t judging runs trials places Minimal = IsMinimalPart t judging runs trials (part_at t places)
IsToldOf t judging runs trials places Budget =
    IsPartLeft t judging runs trials (part_at t places) × (length trials ≡ runs)
IsToldOf t judging runs trials places NotReproduced = HasPassedWith trials t.schedule

-- ---- how far the trials are

module _ (t : TestValue) (judging : Judging) (input rest before after : Option (List ℕ)) where
  -- these trials were held, so many in number, in which so many lines were read
  pub record WerePartsHeld (count read : ℕ) (trials : List Tried) : Type 0 where
    pub tried : ArePartsTried t judging trials
    pub so_many : length trials ≡ count
    pub lines : read ≡ read_in trials
    pub heard : Consumes input rest (heard_in_all trials)
    pub told : Appends before after (told_in_all trials)

  -- so many were held, and what they answered is known
  abbrev pub HaveAnswered : ℕ → Progress → Type 0
  HaveAnswered count progress =
      (trials : List Tried) × WerePartsHeld count progress.read trials
      × AreAnswersOf t trials progress.answers.items

  -- as many as were asked for; or one did not come to its end
  abbrev pub AreAtError : Progress → Option DriveError → Type 0
  AreAtError progress None = HaveAnswered progress.asked progress
  AreAtError progress (Some error) = BreaksShrinking t judging progress.asked input rest before after error

  abbrev pub AreAt : Progress → Type 0
  AreAt progress = AreAtError progress progress.error

  -- it is what these trials left
  pub record IsLeftByTrials (runs : ℕ) (s : Smallest) : Type 0 where
    pub trials : List Tried
    pub held : WerePartsHeld s.held s.read trials
    pub within : length trials ≤ runs
    pub told : IsToldOf t judging runs trials s.places s.told

-- ---- what is written last

-- this was found in the history of its test
abbrev pub IsTextOfTrial : Judging → HeldTrial → Type 0
IsTextOfTrial judging held =
    IsTextBy (has_keys held.trial) judging (trial_history held.trial) held.judged.status held.judged.text.items

-- the report of a trial is written, what is told of the part, and the settings that mean it
pub record IsPartWritten (judging : Judging) (s : SearchSettings) (part : List TestEntry) (told : Told)
    (held : HeldTrial) (before after : Option (List ℕ)) : Type 0 where
  pub report : List ℕ
  pub is_report : IsReportOf judging held.trial.conversation held.judged.status report
  pub settings : List ℕ
  pub mean_it : AreDriveSettingsOf settings (test_in_order (test_of_part s.settings.test part))
      s.settings.initial s.settings.model s.settings.budget
  pub written : Appends before after (report ++ (told_heading told ++ settings))
