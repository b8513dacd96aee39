-- What `jeprun shrink --drive` tells, hears and writes (this project's own): the schedule of a test of a real
-- database whose history was not valid is made small by trials of the test with parts of it, one after another
-- in one conversation. That no single entry can be spared is what Zeller and Hildebrandt call 1-minimal
-- ("Simplifying and Isolating Failure-Inducing Input", 2002). Lists of trials have the newest first.
use Rattle.std.specs.Prelude.{◌≡◌, ◌≢◌, ◌⊎◌, ◌++◌, ◌≤◌, ◌<◌, ℕ, ℤ, List, [], ◌∷◌, codes, length}
use Rattle.std.specs.Prelude.{Option, Result, Ok, Err}
use Rattle.std.specs.Io.KnownBytes.{Appends, Consumes}
use Rattle.std.specs.List.{Contains, remove}
use Rattle.jh_checkers.specs.declared.finding.Judging.{Judging}
use Rattle.jh_drive.specs.Drive.{IsReportOf, judging_of}
use Rattle.jh_drive.specs.declared.error.DriveError.{DriveError}
use Rattle.jh_drive.specs.declared.error.DriveError.TheVariants.{Write, OutOfMemory}
use Rattle.jh_drive_search.specs.DriveSearch.{Tried, heard_in_all, read_in, told_in_all}
use Rattle.jh_drive_search.specs.declared.settings.SearchSettings.{SearchSettings}
use Rattle.jh_drive_settings.specs.Settings.{AreDriveSettingsOf}
use Rattle.jh_drive_settings.specs.declared.settings.DriveSettings.{DriveSettings}
use Rattle.jh_shrink.specs.Shrunk.{IsSubsequence}
use Rattle.jh_test_parts.specs.Test.{TestValue, test_with_schedule}
use Rattle.jh_test_parts.specs.declared.parts.TestEntry.{TestEntry}
use Rattle.jh_test_settings_texts.specs.WritableEntries.{test_in_order}
use Rattle.jh_trials.specs.Held.{IsJudgedAs, FailsTrial}
use Rattle.jh_trials.specs.Trials.{TrialValue, IsTrialBegun}
use Rattle.jh_txn.specs.declared.model.ConsistencyModel.{ConsistencyModel}

-- the entries that the test of a trial has
abbrev pub entries_tried : Tried → List TestEntry
entries_tried tried = tried.first.conversation.test.schedule

-- A trial with these entries failed: its history is not valid.
abbrev pub HasFailedWith : List Tried → List TestEntry → Type 0
HasFailedWith trials part =
    (tried : Tried) × Contains trials tried × (entries_tried tried ≡ part) × (tried.status ≡ 1)

-- A trial with these entries did not fail.
abbrev pub HasPassedWith : List Tried → List TestEntry → Type 0
HasPassedWith trials part =
    (tried : Tried) × Contains trials tried × (entries_tried tried ≡ part) × (tried.status ≢ 1)

-- the test with these entries alone
abbrev pub test_of_part : TestValue → List TestEntry → TestValue
test_of_part t part = test_with_schedule t part t.seed

-- ---- what is written last

abbrev pub minimal_heading : List ℕ
minimal_heading = codes ":minimal\n"

abbrev pub budget_heading : List ℕ
budget_heading = codes ":budget\n"

abbrev pub not_reproduced_heading : List ℕ
not_reproduced_heading = codes ":not-reproduced\n"

module _ (t : TestValue) (judging : Judging) where
  -- The trial of the test with a part of its schedule waits, behind those before.
  abbrev pub IsNextPart : List Tried → List TestEntry → TrialValue → Type 0
  IsNextPart earlier part first =
      IsSubsequence part t.schedule
      × IsTrialBegun (test_of_part t part) (length earlier) (read_in earlier) first

  -- It was held to its end, and judged so.
  abbrev pub IsPartTried : List Tried → Tried → Type 0
  IsPartTried earlier tried =
      IsNextPart earlier (entries_tried tried) tried.first
      × ((line : List ℕ) × IsJudgedAs judging tried.first tried.last tried.past tried.status line)

  -- Each was held to its end, and judged.
  abbrev pub ArePartsTried : List Tried → Type 0
  ArePartsTried [] = Unit {0}
  ArePartsTried (tried ∷ earlier) = IsPartTried earlier tried × ArePartsTried earlier

  module _ (runs : ℕ) where
    -- It failed, and did not without any one of its entries.
    pub record IsMinimalPart (trials : List Tried) (part : List TestEntry) : Type 0 where
      pub failed : HasFailedWith trials part
      pub needed : (place : ℕ) → place < length part → HasPassedWith trials (remove part place)
      pub fewer : length part < runs

    -- It failed; or it is the whole schedule, where no trial might be held.
    abbrev pub IsPartLeft : List Tried → List TestEntry → Type 0
    IsPartLeft trials part = ((runs ≡ 0) × (part ≡ t.schedule)) ⊎ HasFailedWith trials part

    -- What the line behind the report says of a part that was tried once more, and the exit status: it is
    -- minimal; or all trials were held that might be; or it did not fail this time.
    abbrev pub IsHeading : List Tried → Tried → List ℕ → ℕ → Type 0
    IsHeading earlier last heading status =
        ((last.status ≡ 1) × IsMinimalPart earlier (entries_tried last) × (heading ≡ minimal_heading) × (status ≡ 1))
        ⊎ ((last.status ≡ 1) × IsPartLeft earlier (entries_tried last) × (length earlier ≡ runs)
        × (heading ≡ budget_heading) × (status ≡ 2))
        ⊎ ((last.status ≢ 1) × IsPartLeft earlier (entries_tried last) × (heading ≡ not_reproduced_heading)
        × (status ≡ 2))

    module _ (input rest before after : Option (List ℕ)) where
      -- The test did not fail with its whole schedule.
      pub record IsNotReproduced : Type 0 where
        pub trials : List Tried
        pub tried : ArePartsTried trials
        pub within : length trials ≤ runs
        pub passed : HasPassedWith trials t.schedule
        pub heard : Consumes input rest (heard_in_all trials)
        pub written : Appends before after (told_in_all trials ++ not_reproduced_heading)

      -- A trial did not come to its end, behind some that did.
      pub record IsPartBroken (error : DriveError) : Type 0 where
        pub earlier : List Tried
        pub tried : ArePartsTried earlier
        pub within : length earlier ≤ runs
        pub part : List TestEntry
        pub first : TrialValue
        pub last : TrialValue
        pub begun : IsNextPart earlier part first
        pub input_then : Option (List ℕ)
        pub output_then : Option (List ℕ)
        pub heard : Consumes input input_then (heard_in_all earlier)
        pub written : Appends before output_then (told_in_all earlier)
        pub fails : FailsTrial judging first last input_then rest output_then after error

      abbrev pub BreaksShrinking : DriveError → Type 0
      BreaksShrinking Write = Unit {0}
      BreaksShrinking OutOfMemory = Unit {0}
      BreaksShrinking error = IsPartBroken error

      module _ (initial : Option ℤ) (model : ConsistencyModel) (budget : ℕ) where
        -- What is left was tried once more: its report is written, what is known of it, and the settings that
        -- mean it.
        pub record IsPartShown (status : ℕ) : Type 0 where
          pub earlier : List Tried
          pub last : Tried
          pub tried : ArePartsTried (last ∷ earlier)
          pub within : length earlier ≤ runs
          pub report : List ℕ
          pub is_report : IsReportOf judging last.last.conversation last.status report
          pub heading : List ℕ
          pub is_heading : IsHeading earlier last heading status
          pub settings : List ℕ
          pub mean_it : AreDriveSettingsOf settings (test_in_order (test_of_part t (entries_tried last))) initial model budget
          pub heard : Consumes input rest (heard_in_all (last ∷ earlier))
          pub written : Appends before after
              (told_in_all (last ∷ earlier) ++ (report ++ (heading ++ settings)))

        -- how the work ends
        abbrev pub IsTestShrunk : Result ℕ DriveError → Type 0
        IsTestShrunk result =
            (IsNotReproduced × (result ≡ Ok 0))
            ⊎ ((status : ℕ) × IsPartShown status × (result ≡ Ok status))
            ⊎ ((e : DriveError) × (result ≡ Err e) × BreaksShrinking e)

-- by what the history of a test is judged, as its settings say
abbrev pub settings_judging : DriveSettings → Judging
settings_judging s = judging_of s.test s.initial s.model s.budget

-- how it ends over the test that settings set
abbrev pub IsShrunkBy : SearchSettings → ℕ → (input rest before after : Option (List ℕ))
    → Result ℕ DriveError → Type 0
IsShrunkBy s runs input rest before after result =
    IsTestShrunk s.settings.test (settings_judging s.settings) runs
    input rest before after s.settings.initial s.settings.model s.settings.budget result
