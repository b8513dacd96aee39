-- How a search ends.
use Rattle.std.proofs.Common.{◌≡◌, ◌≢◌, ◌++◌, inr, IfErr, IsErrAnd, refl, ap, ℕ, ℤ, Bool, true, false, List, ◌∷◌, Option, Some, None, Result, Ok, Err, MatchResult, is_some, ◌∙◌, sym, subst}
use Rattle.std.proofs.KnownBytes.{Appends-trans}
use Rattle.std.specs.Io.KnownBytes.{Appends}
use Rattle.jh_checkers.specs.declared.finding.Judging.{Judging}
use Rattle.jh_conversation.specs.Conversations.{ConversationValue}
use Rattle.jh_conversation.specs.Text.{recorded_history}
use Rattle.jh_conversation.specs.declared.callers.BadLine.{BadLine}
use Rattle.jh_drive.specs.Drive.{IsNotWritten, IsReportOf, drive_answer, ended_early}
use Rattle.jh_drive.specs.declared.error.DriveError.{DriveError}
use Rattle.jh_drive.specs.declared.error.DriveError.TheVariants.{Settings, SettingsRead, BadPalette, Reply, RepliesEnded, Read, TooManyTurns, Mismatch, Write, OutOfMemory}
use Rattle.jh_drive_settings.specs.Settings.{AreDriveSettings, AreDriveSettingsOf}
use Rattle.jh_lines.specs.declared.ending.Ending.{Ending}
use Rattle.jh_lines.specs.declared.ending.Ending.TheVariants as Endings
use Rattle.jh_random_faults.specs.declared.kinds.Palette.{Palette}
use Rattle.jh_reports.specs.Judged.{IsTextBy}
use Rattle.jh_settings.specs.declared.error.SettingsError.{SettingsError}
use Rattle.jh_test_candidates.specs.Candidates.{test_candidate_of}
use Rattle.jh_test_parts.specs.Test.{TestValue, test_with_schedule}
use Rattle.jh_test_settings_texts.specs.UpToSchedule.{AreSettingsUpToSeedAndSchedule}
use Rattle.jh_test_settings_texts.specs.WritableEntries.{test_in_order}
use Rattle.jh_trials.specs.Held.{has_keys, trial_history}
use Rattle.jh_trials.specs.Trials.{TrialValue, is_trial_over, trial_bad}
use Rattle.toml.specs.Data.{Members}
use Rattle.jh_txn.specs.declared.model.ConsistencyModel.{ConsistencyModel}
use Rattle.jh_drive_search.specs.declared.options.TrialOptions.{TrialOptions}
use Rattle.jh_drive_search.specs.DriveSearch.{BreaksOff, IsFound, IsNone, IsSearched, found_heading, none_found_line, told_in_all}
use Rattle.jh_drive_search.specs.SearchInside.{HaveBeenTried, IsFailing}

the_same : (a b : DriveError) → ◌≡◌ {A = Result ℕ DriveError} (Err a) (Err b) → a ≡ b
the_same a b e = cc

no_settings_early : (error : SettingsError) (ending : Ending) → ended_early ending ≡ Settings error → ⊥
no_settings_early error (Endings.ReadFailed it) e = let bad : Read ≡ Settings error = e in cc
no_settings_early error Endings.TooManyTurns e = let bad : TooManyTurns ≡ Settings error = e in cc
no_settings_early error Endings.Over e = let bad : RepliesEnded ≡ Settings error = e in cc
no_settings_early error Endings.InputEnded e = let bad : RepliesEnded ≡ Settings error = e in cc
no_settings_early error (Endings.WriteFailed it) e = let bad : Write ≡ Settings error = e in cc
no_settings_early error Endings.OutOfMemory e = let bad : OutOfMemory ≡ Settings error = e in cc

no_settings_answer : (error : SettingsError) (bad : Option BadLine) (over : Bool) (ending : Ending) → drive_answer bad over ending 0 ≡ Err (Settings error) → ⊥
no_settings_answer error (Some bad) over ending e = let same : Reply bad.number bad.why ≡ Settings error = the_same _ _ e in cc
no_settings_answer error None true ending e = let same : ◌≡◌ {A = Result ℕ DriveError} (Ok 0) (Err (Settings error)) = e in cc
no_settings_answer error None false ending e = no_settings_early error ending (the_same _ _ e)

pub match_map : {A E : Type 0} (result : Result A E) (P P' : A → Type 0) (Q : E → Type 0) → MatchResult result P Q → ((a : A) → P a → P' a) → MatchResult result P' Q
match_map (Ok a) P P' Q met each = each a met
match_map (Err e) P P' Q met each = met

-- the settings of a test are those of each candidate, but for the seed and the schedule
known_again : (table : Members) (t : TestValue) (palette : Palette) (faults number : ℕ) (made : TestValue) (held : Option ℤ) (model : ConsistencyModel) (budget : ℕ)
    → made ≡ test_candidate_of t palette faults number → AreDriveSettings table t held model budget → AreSettingsUpToSeedAndSchedule table made held model budget
known_again table t palette faults number made held model budget is are =
    (t.schedule, t.seed, subst (λ it. AreDriveSettings table (test_with_schedule it t.schedule t.seed) held model budget) (sym is) are)

pub means_candidate : (table : Members) (t : TestValue) (palette : Palette) (faults number : ℕ) (made : TestValue) (settings : List ℕ) (held : Option ℤ) (model : ConsistencyModel) (budget : ℕ)
    → made ≡ test_candidate_of t palette faults number → test_in_order made ≡ made → AreDriveSettings table t held model budget
    → ((held : Option ℤ) (model : ConsistencyModel) (budget : ℕ) → AreSettingsUpToSeedAndSchedule table made held model budget → AreDriveSettingsOf settings (test_in_order made) held model budget)
    → AreDriveSettingsOf settings (test_candidate_of t palette faults number) held model budget
means_candidate table t palette faults number made settings held model budget is back are reads =
    subst (λ it. AreDriveSettingsOf settings it held model budget) (back ∙ is) (reads held model budget (known_again table t palette faults number made held model budget is are))

module _ (t : TestValue) (judging : Judging) (options : TrialOptions) (input rest before : Option (List ℕ)) where
  -- a search is not broken off by settings
  pub no_settings : (after : Option (List ℕ)) (error : SettingsError) → BreaksOff t judging options input rest before after (Settings error) → ⊥
  no_settings after error broken = no_settings_answer error (trial_bad broken.last) (is_trial_over broken.last) broken.fails.ending broken.fails.answer

  pub breaks_unwritten : (after : Option (List ℕ)) (error : DriveError) → IsNotWritten error → BreaksOff t judging options input rest before after error
  breaks_unwritten after (Settings e) bad = absurd bad
  breaks_unwritten after SettingsRead bad = absurd bad
  breaks_unwritten after BadPalette bad = absurd bad
  breaks_unwritten after (Reply number why) bad = absurd bad
  breaks_unwritten after RepliesEnded bad = absurd bad
  breaks_unwritten after Read bad = absurd bad
  breaks_unwritten after TooManyTurns bad = absurd bad
  breaks_unwritten after Mismatch bad = absurd bad
  breaks_unwritten after Write bad = tt
  breaks_unwritten after OutOfMemory bad = tt

  -- what was found in its history is what is written
  pub found_text : (between : Option (List ℕ)) (number : ℕ) (last : TrialValue) (line : List ℕ) (it : IsFailing t judging options input rest before between number last line)
      (conversation : ConversationValue) (status : ℕ) → conversation ≡ last.conversation → status ≡ 1
      → IsTextBy (is_some conversation.test.keys) judging (recorded_history conversation.test conversation.machine) status line
  found_text between number last line it conversation status same is =
      let left = subst (λ v. IsTextBy (has_keys v) judging (trial_history v) it.found.status line) it.left it.judged.judged in
      let known = subst (λ n. IsTextBy (has_keys last) judging (trial_history last) n line) (it.fails ∙ sym is) left in
      subst (λ v. IsTextBy (is_some v.test.keys) judging (recorded_history v.test v.machine) status line) (sym same) known

  pub found_report : (last : TrialValue) (conversation : ConversationValue) (status : ℕ) (report : List ℕ) → conversation ≡ last.conversation → status ≡ 1
      → IsReportOf judging conversation status report → IsReportOf judging last.conversation 1 report
  found_report last conversation status report same is reported =
      subst (λ n. IsReportOf judging last.conversation n report) is (subst (λ v. IsReportOf judging v status report) same reported)

  module _ (after : Option (List ℕ)) (held : Option ℤ) (model : ConsistencyModel) (budget : ℕ) where
    -- a search that came to its end, of which all is written or not
    pub searched_so : (result : Result ℕ DriveError) → MatchResult result (λ status. IsSearched t judging options input rest before after held model budget (Ok status)) IsNotWritten
        → IsSearched t judging options input rest before after held model budget result
    searched_so (Ok status) met = met
    searched_so (Err e) met = inr (inr (e, refl, breaks_unwritten after e met))

    -- one that was broken off
    pub broken_so : (result : Result ℕ DriveError) (error : DriveError) → IsErrAnd result (λ it. it ≡ error) → BreaksOff t judging options input rest before after error
        → IsSearched t judging options input rest before after held model budget result
    broken_so (Ok status) error is broken = absurd is
    broken_so (Err it) error is broken = inr (inr (error, ap Err is, broken))

  pub broken_by_others : (after : Option (List ℕ)) (result : Result ℕ DriveError) (error : DriveError) → IsErrAnd result (λ it. it ≡ error)
      → BreaksOff t judging options input rest before after error → (refused : SettingsError) → IfErr result (λ it. it ≢ Settings refused)
  broken_by_others after (Ok status) error is broken refused = tt
  broken_by_others after (Err it) error is broken refused = λ same.
      no_settings after refused (subst (BreaksOff t judging options input rest before after) (sym is ∙ same) broken)

  module _ (between after : Option (List ℕ)) (held : Option ℤ) (model : ConsistencyModel) (budget : ℕ) where
    -- its report is written, and the settings that mean it
    pub found_so : (number : ℕ) (last : TrialValue) (line report settings : List ℕ) (then_after : Option (List ℕ)) (it : IsFailing t judging options input rest before between number last line)
        → IsReportOf judging last.conversation 1 report → Appends between then_after report → Appends then_after after (found_heading ++ settings)
        → AreDriveSettingsOf settings (test_candidate_of t options.palette options.faults number) held model budget
        → IsFound t judging options input rest before after held model budget
    found_so number last line report settings then_after it is_report reported written mean =
        record {
          earlier = it.earlier;
          found = it.found;
          not_before = it.not_before;
          within = it.within;
          tried = (it.next, (line, it.judged));
          fails = it.fails;
          report = report;
          is_report = subst (λ v. IsReportOf judging v.conversation 1 report) (sym it.left) is_report;
          settings = settings;
          mean_it = subst (λ n. AreDriveSettingsOf settings (test_candidate_of t options.palette options.faults n) held model budget) it.is_number mean;
          heard = it.heard;
          written = Appends-trans before between after (told_in_all (it.found ∷ it.earlier)) (report ++ (found_heading ++ settings)) it.told (Appends-trans between then_after after report (found_heading ++ settings) reported written);
        }

    -- none fails, and that is written
    pub none_so : (unknown read : ℕ) (it : HaveBeenTried t judging options input rest before between options.runs unknown read) → Appends between after (none_found_line options.runs unknown)
        → IsNone t judging options input rest before after unknown
    none_so unknown read it written =
        record {
          trials = it.trials;
          tried = it.tried;
          all = it.so_many;
          counted = it.counted;
          heard = it.heard;
          written = Appends-trans before between after (told_in_all it.trials) (none_found_line options.runs unknown) it.told written;
        }

pub unwritten_by_others : (P : ℕ → Type 0) (result : Result ℕ DriveError) → MatchResult result P IsNotWritten → (refused : SettingsError) → IfErr result (λ it. it ≢ Settings refused)
unwritten_by_others P (Ok status) met refused = tt
unwritten_by_others P (Err it) met refused = λ same. absurd (subst IsNotWritten same met)

pub by_judging : (t : TestValue) (judging same : Judging) (options : TrialOptions) (input rest before after : Option (List ℕ)) (held : Option ℤ) (model : ConsistencyModel) (budget : ℕ) (result : Result ℕ DriveError)
    → judging ≡ same → IsSearched t judging options input rest before after held model budget result → IsSearched t same options input rest before after held model budget result
by_judging t judging same options input rest before after held model budget result is searched =
    subst (λ j. IsSearched t j options input rest before after held model budget result) is searched
