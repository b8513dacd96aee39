-- What `jeprun search --drive` tells, hears and writes (this project's own): candidates of a test of a real
-- database are tried one after another, each in a trial of one conversation, up to the first of which the
-- history is not valid. Lists of trials have the newest first.
use Rattle.std.specs.Prelude.{◌≡◌, ◌≢◌, ◌⊎◌, ◌++◌, ◌+◌, ◌<◌, ◌==◌, ℕ, ℤ, Bool, List, [], ◌∷◌, codes, length}
use Rattle.std.specs.Prelude.{All, Option, Result, Ok, Err, if◌then◌else◌}
use Rattle.std.specs.Fmt.{decimal}
use Rattle.std.specs.Io.KnownBytes.{Appends, Consumes}
use Rattle.std.specs.List.{count_by}
use Rattle.jh_checkers.specs.declared.finding.Judging.{Judging}
use Rattle.jh_drive.specs.Drive.{IsReportOf, judging_of}
use Rattle.jh_drive.specs.DriveErrors.{drive_settings_error}
use Rattle.jh_drive.specs.declared.error.DriveError.{DriveError}
use Rattle.jh_drive.specs.declared.error.DriveError.TheVariants.{Settings, Write, OutOfMemory}
use Rattle.jh_drive_settings.specs.Settings.{AreDriveSettings, AreDriveSettingsOf, RefusesDriveSettings}
use Rattle.jh_lines.specs.Events.{TalkEvent, heard_in, told_in}
use Rattle.jh_settings.specs.Keys.{IsDocument}
use Rattle.jh_settings.specs.declared.error.SettingsError.{SettingsError}
use Rattle.jh_settings.specs.declared.error.SettingsError.TheVariants.{BadValue}
use Rattle.jh_settings.specs.declared.keys.Key.{Key}
use Rattle.jh_test_candidates.specs.Candidates.{test_candidate_of}
use Rattle.jh_test_parts.specs.Test.{TestValue}
use Rattle.jh_test_settings_texts.specs.WritableEntries.{IsWritableTestEntry}
use Rattle.jh_trials.specs.Held.{IsJudgedAs, FailsTrial}
use Rattle.jh_trials.specs.Trials.{TrialValue, IsTrialBegun}
use Rattle.jh_txn.specs.declared.model.ConsistencyModel.{ConsistencyModel}
use Rattle.jh_drive_search.specs.declared.options.TrialOptions.{TrialOptions}
use Rattle.jh_drive_search.specs.declared.settings.SearchSettings.{SearchSettings}
use Rattle.toml.specs.View.{table_view}

-- a trial that was held and judged: as it began, as it was left, what passed, and the status of its verdict
pub record Tried : Type 0 where
  pub first : TrialValue
  pub last : TrialValue
  pub past : List TalkEvent
  pub status : ℕ

-- how many lines were read in all of them
abbrev pub read_in : List Tried → ℕ
read_in [] = 0
read_in (tried ∷ earlier) = tried.last.read

-- all that was heard and told in them
abbrev pub heard_in_all : List Tried → List ℕ
heard_in_all [] = []
heard_in_all (tried ∷ earlier) = heard_in_all earlier ++ heard_in tried.past

abbrev pub told_in_all : List Tried → List ℕ
told_in_all [] = []
told_in_all (tried ∷ earlier) = told_in_all earlier ++ told_in tried.past

-- of how many it is not known whether their histories are valid
abbrev pub has_unknown_status : Tried → Bool
has_unknown_status tried = tried.status == 2

abbrev pub unknown_in : List Tried → ℕ
unknown_in trials = count_by has_unknown_status trials

-- ---- what is written last

abbrev pub found_heading : List ℕ
found_heading = codes ":found\n"

-- how many were tried, and of how many the verdict is unknown
abbrev pub none_found_line : ℕ → ℕ → List ℕ
none_found_line tried unknown =
    codes ":none {:tried " ++ (decimal tried ++ (codes ", :unknown " ++ (decimal unknown ++ codes "}\n")))

abbrev pub none_status : ℕ → ℕ
none_status unknown = if unknown == 0 then 0 else 2

module _ (t : TestValue) (judging : Judging) (options : TrialOptions) where
  abbrev pub number_behind : List Tried → ℕ
  number_behind earlier = options.from + length earlier

  abbrev pub candidate_behind : List Tried → TestValue
  candidate_behind earlier = test_candidate_of t options.palette options.faults (number_behind earlier)

  -- The trial of the next candidate waits, behind the lines of those before.
  abbrev pub IsNext : List Tried → TrialValue → Type 0
  IsNext earlier first = IsTrialBegun (candidate_behind earlier) (number_behind earlier) (read_in earlier) first

  -- It was held to its end, and judged so.
  abbrev pub IsTried : List Tried → Tried → Type 0
  IsTried earlier tried =
      IsNext earlier tried.first
      × ((line : List ℕ) × IsJudgedAs judging tried.first tried.last tried.past tried.status line)

  -- Each was held to its end and judged, and is not invalid.
  abbrev pub AreTried : List Tried → Type 0
  AreTried [] = Unit {0}
  AreTried (tried ∷ earlier) = IsTried earlier tried × (tried.status ≢ 1) × AreTried earlier

  module _ (input rest before after : Option (List ℕ)) where
    -- All were tried, and none fails.
    pub record IsNone (unknown : ℕ) : Type 0 where
      pub trials : List Tried
      pub tried : AreTried trials
      pub all : length trials ≡ options.runs
      pub counted : unknown ≡ unknown_in trials
      pub heard : Consumes input rest (heard_in_all trials)
      pub written : Appends before after (told_in_all trials ++ none_found_line options.runs unknown)

    -- A trial did not come to its end, behind some that did and do not fail.
    pub record IsBrokenOff (error : DriveError) : Type 0 where
      pub earlier : List Tried
      pub tried : AreTried earlier
      pub within : length earlier < options.runs
      pub first : TrialValue
      pub last : TrialValue
      pub begun : IsNext earlier first
      pub input_then : Option (List ℕ)
      pub output_then : Option (List ℕ)
      pub heard : Consumes input input_then (heard_in_all earlier)
      pub written : Appends before output_then (told_in_all earlier)
      pub fails : FailsTrial judging first last input_then rest output_then after error

    abbrev pub BreaksOff : DriveError → Type 0
    BreaksOff Write = Unit {0}
    BreaksOff OutOfMemory = Unit {0}
    BreaksOff error = IsBrokenOff error

    module _ (initial : Option ℤ) (model : ConsistencyModel) (budget : ℕ) where
      -- A candidate fails, and none before it: its report is written, and behind it the settings that mean it.
      pub record IsFound : Type 0 where
        pub earlier : List Tried
        pub found : Tried
        pub not_before : AreTried earlier
        pub within : length earlier < options.runs
        pub tried : IsTried earlier found
        pub fails : found.status ≡ 1
        pub report : List ℕ
        pub is_report : IsReportOf judging found.last.conversation 1 report
        pub settings : List ℕ
        pub mean_it : AreDriveSettingsOf settings (candidate_behind earlier) initial model budget
        pub heard : Consumes input rest (heard_in_all (found ∷ earlier))
        pub written : Appends before after
            (told_in_all (found ∷ earlier) ++ (report ++ (found_heading ++ settings)))

      -- how a search ends
      abbrev pub IsSearched : Result ℕ DriveError → Type 0
      IsSearched result =
          (IsFound × (result ≡ Ok 1))
          ⊎ ((unknown : ℕ) × IsNone unknown × (result ≡ Ok (none_status unknown)))
          ⊎ ((e : DriveError) × (result ≡ Err e) × BreaksOff e)

-- ---- the settings

-- a table means these settings
abbrev pub HasTable : SearchSettings → Type 0
HasTable s =
    AreDriveSettings (table_view s.table) s.settings.test s.settings.initial s.settings.model
    s.settings.budget

-- and settings can say the entries of the test again
abbrev pub MeansSettings : SearchSettings → Type 0
MeansSettings s = HasTable s × All IsWritableTestEntry s.settings.test.schedule

-- bytes spell the table, and so mean the settings
abbrev pub AreSearchSettingsOf : List ℕ → SearchSettings → Type 0
AreSearchSettingsOf bytes s = IsDocument bytes (table_view s.table) × MeansSettings s

-- bytes mean settings of which an entry can't be said again
abbrev pub HasUnwritable : List ℕ → Type 0
HasUnwritable bytes =
    (s : SearchSettings) × IsDocument bytes (table_view s.table) × HasTable s
    × (All IsWritableTestEntry s.settings.test.schedule → ⊥)

-- why bytes are refused: they are no settings of a test, or of one with such an entry
abbrev pub RefusesSearchSettings : List ℕ → DriveError → Type 0
RefusesSearchSettings bytes e =
    ((error : SettingsError) × RefusesDriveSettings bytes error × (e ≡ drive_settings_error error))
    ⊎ (HasUnwritable bytes × (e ≡ Settings (BadValue Key.Schedule)))

-- how the search over the test that settings set ends
abbrev pub IsSearchBy : SearchSettings → TrialOptions → (input rest before after : Option (List ℕ))
    → Result ℕ DriveError → Type 0
IsSearchBy s options input rest before after result =
    IsSearched s.settings.test
    (judging_of s.settings.test s.settings.initial s.settings.model s.settings.budget) options
    input rest before after s.settings.initial s.settings.model s.settings.budget result
