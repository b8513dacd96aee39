-- What is written of what is left.
use Rattle.std.proofs.Common.{◌≡◌, ◌≢◌, ◌∙◌, ◌++◌, inl, inr, IfErr, IsErrAnd, ℕ, ℤ, Bool, true, false, cond, List, ◌∷◌, Option, Some, None, Result, Ok, Err, MatchResult, refl, sym, ap, subst, arith}
use Rattle.std.proofs.KnownBytes.{Appends-trans}
use Rattle.std.specs.Io.KnownBytes.{Appends}
use Rattle.std.proofs.lemmas.Bool.Decides.{eqb_tells}
use Rattle.jh_checkers.specs.declared.finding.Judging.{Judging}
use Rattle.jh_drive.specs.Drive.{IsNotWritten, drive_answer, ended_early}
use Rattle.jh_drive.specs.declared.error.DriveError.{DriveError}
use Rattle.jh_drive.specs.declared.error.DriveError.TheVariants.{Settings, SettingsRead, BadPalette, Reply, RepliesEnded, Read, TooManyTurns, Mismatch, Write, OutOfMemory}
use Rattle.jh_drive_search.specs.DriveSearch.{Tried, told_in_all}
use Rattle.jh_drive_search.specs.declared.settings.SearchSettings.{SearchSettings}
use Rattle.jh_conversation.specs.declared.callers.BadLine.{BadLine}
use Rattle.jh_lines.specs.declared.ending.Ending.{Ending}
use Rattle.jh_lines.specs.declared.ending.Ending.TheVariants as Endings
use Rattle.jh_settings.specs.declared.error.SettingsError.{SettingsError}
use Rattle.jh_simnode.specs.declared.schedule.Entry.{Entry}
use Rattle.jh_trials.specs.Trials.{is_trial_over, trial_bad}
use Rattle.jh_drive_settings.specs.Settings.{AreDriveSettings, AreDriveSettingsOf}
use Rattle.jh_test_parts.specs.Test.{TestValue, test_with_schedule}
use Rattle.jh_test_parts.specs.declared.parts.TestEntry.{TestEntry}
use Rattle.jh_test_settings_texts.specs.UpToSchedule.{AreSettingsUpToSeedAndSchedule}
use Rattle.jh_test_settings_texts.specs.WritableEntries.{test_in_order}
use Rattle.jh_txn.specs.declared.model.ConsistencyModel.{ConsistencyModel}
use Rattle.toml.specs.Data.{Members}
use Rattle.jh_drive_shrink.specs.DriveShrink.{BreaksShrinking, IsHeading, IsMinimalPart, IsNotReproduced, IsPartLeft, IsPartShown, IsTestShrunk, not_reproduced_heading, entries_tried, test_of_part}
use Rattle.jh_drive_shrink.specs.PartsInside.{part_at, place_numbers}
use Rattle.jh_drive_shrink.specs.ShrinkInside.{FailsTest, IsLeftByTrials, IsPartWritten, IsTestHeld, IsToldOf}
use Rattle.jh_drive_shrink.specs.ToldInside.{told_heading, told_behind, told_status}
use Rattle.jh_drive_shrink.specs.declared.judge.Smallest.{Smallest}
use Rattle.jh_drive_shrink.specs.declared.told.Told.{Told}
use Rattle.jh_drive_shrink.specs.declared.told.Told.TheVariants.{Minimal, Budget, NotReproduced}
use Rattle.jh_drive_shrink.specs.declared.trying.HeldTrial.{HeldTrial}
use Rattle.jh_drive_shrink.proofs.HeldLemmas.{held_in_part, held_more, tried_part}
use Rattle.jh_drive_shrink.proofs.PartLemmas.{standing_is_part}

-- the settings of a test are those of the test with a part, but for the schedule
known_again : (table : Members) (t : TestValue) (part : List TestEntry) (made : TestValue) (held : Option ℤ) (model : ConsistencyModel) (budget : ℕ)
    → made ≡ test_of_part t part → AreDriveSettings table t held model budget → AreSettingsUpToSeedAndSchedule table made held model budget
known_again table t part made held model budget is are =
    (t.schedule, t.seed, subst (λ it. AreDriveSettings table (test_with_schedule it t.schedule t.seed) held model budget) (sym is) are)

pub means_part : (table : Members) (t : TestValue) (part : List TestEntry) (made : TestValue) (settings : List ℕ) (held : Option ℤ) (model : ConsistencyModel) (budget : ℕ)
    → made ≡ test_of_part t part → AreDriveSettings table t held model budget
    → ((held : Option ℤ) (model : ConsistencyModel) (budget : ℕ) → AreSettingsUpToSeedAndSchedule table made held model budget → AreDriveSettingsOf settings (test_in_order made) held model budget)
    → AreDriveSettingsOf settings (test_in_order (test_of_part t part)) held model budget
means_part table t part made settings held model budget is are reads =
    subst (λ it. AreDriveSettingsOf settings (test_in_order it) held model budget) is (reads held model budget (known_again table t part made held model budget is are))

-- ---- errors

the_same : (a b : DriveError) → ◌≡◌ {A = Result ℕ DriveError} (Err a) (Err b) → a ≡ b
the_same a b e = cc

pub match_map : {A E : Type 0} (result : Result A E) (P P' : A → Type 0) (Q : E → Type 0) → MatchResult result P Q → ((a : A) → P a → P' a) → MatchResult result P' Q
match_map (Ok a) P P' Q met each = each a met
match_map (Err e) P P' Q met each = met

module _ (t : TestValue) (judging : Judging) (runs : ℕ) (input rest before after : Option (List ℕ)) where
  pub breaks_unwritten : (error : DriveError) → IsNotWritten error → BreaksShrinking t judging runs input rest before after error
  breaks_unwritten (Settings e) bad = absurd bad
  breaks_unwritten SettingsRead bad = absurd bad
  breaks_unwritten BadPalette bad = absurd bad
  breaks_unwritten (Reply number why) bad = absurd bad
  breaks_unwritten RepliesEnded bad = absurd bad
  breaks_unwritten Read bad = absurd bad
  breaks_unwritten TooManyTurns bad = absurd bad
  breaks_unwritten Mismatch bad = absurd bad
  breaks_unwritten Write bad = tt
  breaks_unwritten OutOfMemory bad = tt

  module _ (held : Option ℤ) (model : ConsistencyModel) (budget : ℕ) where
    -- a trial did not come to its end, or what was found is not written
    pub broken_so : (result : Result ℕ DriveError) (error : DriveError) → IsErrAnd result (λ it. it ≡ error) → BreaksShrinking t judging runs input rest before after error
        → IsTestShrunk t judging runs input rest before after held model budget result
    broken_so (Ok status) error is broken = absurd is
    broken_so (Err it) error is broken = inr (inr (error, ap Err is, broken))

-- ---- what is told

module _ (t : TestValue) (judging : Judging) (runs : ℕ) (trials : List Tried) (places : List Entry) (last : Tried) (same : entries_tried last ≡ part_at t places) where
  left_in : (told : Told) → (told ≡ NotReproduced → ⊥) → IsToldOf t judging runs trials places told → IsPartLeft t judging runs trials (entries_tried last)
  left_in Minimal some it = subst (IsPartLeft t judging runs trials) (sym same) (inr it.failed)
  left_in Budget some it = subst (IsPartLeft t judging runs trials) (sym same) it.0
  left_in NotReproduced some it = absurd (some refl)

  failed_again : (told : Told) → (told ≡ NotReproduced → ⊥) → IsToldOf t judging runs trials places told → last.status ≡ 1
      → IsHeading t judging runs trials last (told_heading told) (told_status told)
  failed_again Minimal some it fails = inl (fails, subst (IsMinimalPart t judging runs trials) (sym same) it, refl, refl)
  failed_again Budget some it fails = inr (inl (fails, subst (IsPartLeft t judging runs trials) (sym same) it.0, it.1, refl, refl))
  failed_again NotReproduced some it fails = absurd (some refl)

  pub heading_so : (told : Told) → (told ≡ NotReproduced → ⊥) → IsToldOf t judging runs trials places told
      → IsHeading t judging runs trials last (told_heading (told_behind told last.status)) (told_status (told_behind told last.status))
  heading_so told some it =
      elim (eqb_tells last.status 1) [
        | inl fails ↦
            subst (λ b. IsHeading t judging runs trials last (told_heading (cond b told NotReproduced)) (told_status (cond b told NotReproduced))) (sym fails.0)
            (failed_again told some it fails.1)
        | inr passes ↦
            subst (λ b. IsHeading t judging runs trials last (told_heading (cond b told NotReproduced)) (told_status (cond b told NotReproduced))) (sym passes.0)
            (inr (inr (passes.1, left_in told some it, refl, refl)))
      ]

module _ (t : TestValue) (judging : Judging) (runs : ℕ) (input mid before between : Option (List ℕ)) (s : Smallest) (left : IsLeftByTrials t judging input mid before between runs s) where
  -- the whole did not fail
  pub not_shown : (after : Option (List ℕ)) → s.told ≡ NotReproduced → Appends between after (told_heading s.told) → IsNotReproduced t judging runs input mid before after
  not_shown after is written = record {
    trials = left.trials;
    tried = left.held.tried;
    within = left.within;
    passed = subst (IsToldOf t judging runs left.trials s.places) is left.told;
    heard = left.held.heard;
    written = Appends-trans before between after (told_in_all left.trials) not_reproduced_heading left.held.told (subst (λ told. Appends between after (told_heading told)) is written);
  }

  -- the last trial did not come to its end
  pub last_broken : (rest after : Option (List ℕ)) (error : DriveError) → FailsTest (test_of_part t (part_at t s.places)) judging s.held s.read mid rest between after error
      → BreaksShrinking t judging runs input rest before after error
  last_broken rest after error fails =
      held_in_part t judging input before mid between s.held s.read left.trials left.held (part_at t s.places) (standing_is_part 0 t.schedule (place_numbers s.places)) rest after
      runs error (omega (arith, left.held.so_many, left.within)) fails

  -- it did, and is written
  pub shown_so : (rest then_after after : Option (List ℕ)) (settings : SearchSettings) (trial : HeldTrial) → settings.settings.test ≡ t → (s.told ≡ NotReproduced → ⊥)
      → IsTestHeld (test_of_part t (part_at t s.places)) judging s.held s.read mid rest between then_after trial
      → IsPartWritten judging settings (part_at t s.places) (told_behind s.told trial.judged.status) trial then_after after
      → IsPartShown t judging runs input rest before after settings.settings.initial settings.settings.model settings.settings.budget (told_status (told_behind s.told trial.judged.status))
  shown_so rest then_after after settings trial same some it written =
      let is_part = standing_is_part 0 t.schedule (place_numbers s.places) in
      let last : Tried = record { first = it.0; last = trial.trial; past = it.2.0; status = trial.judged.status } in
      let more = held_more t judging input before mid between s.held s.read left.trials left.held (part_at t s.places) is_part rest then_after trial it in
      let its_part = tried_part t judging input before mid between s.held s.read left.trials left.held (part_at t s.places) is_part rest then_after trial it in
      record {
        earlier = left.trials;
        last = last;
        tried = more.tried;
        within = left.within;
        report = written.report;
        is_report = written.is_report;
        heading = told_heading (told_behind s.told trial.judged.status);
        is_heading = heading_so t judging runs left.trials s.places last its_part s.told some left.told;
        settings = written.settings;
        mean_it = subst (λ part. AreDriveSettingsOf written.settings (test_in_order (test_of_part t part)) settings.settings.initial settings.settings.model settings.settings.budget) (sym its_part)
            (subst (λ test. AreDriveSettingsOf written.settings (test_in_order (test_of_part test (part_at t s.places))) settings.settings.initial settings.settings.model settings.settings.budget) same written.mean_it);
        heard = more.heard;
        written = Appends-trans before then_after after (told_in_all (last ∷ left.trials)) (written.report ++ (told_heading (told_behind s.told trial.judged.status) ++ written.settings)) more.told written.written;
      }

-- ---- no settings are refused

no_settings_early : (error : SettingsError) (ending : Ending) → ended_early ending ≡ Settings error → ⊥
no_settings_early error (Endings.ReadFailed it) e = let bad : Read ≡ Settings error = e in cc
no_settings_early error Endings.TooManyTurns e = let bad : TooManyTurns ≡ Settings error = e in cc
no_settings_early error Endings.Over e = let bad : RepliesEnded ≡ Settings error = e in cc
no_settings_early error Endings.InputEnded e = let bad : RepliesEnded ≡ Settings error = e in cc
no_settings_early error (Endings.WriteFailed it) e = let bad : Write ≡ Settings error = e in cc
no_settings_early error Endings.OutOfMemory e = let bad : OutOfMemory ≡ Settings error = e in cc

no_settings_answer : (error : SettingsError) (bad : Option BadLine) (over : Bool) (ending : Ending) → drive_answer bad over ending 0 ≡ Err (Settings error) → ⊥
no_settings_answer error (Some bad) over ending e = let same : Reply bad.number bad.why ≡ Settings error = the_same _ _ e in cc
no_settings_answer error None true ending e = let same : ◌≡◌ {A = Result ℕ DriveError} (Ok 0) (Err (Settings error)) = e in cc
no_settings_answer error None false ending e = no_settings_early error ending (the_same _ _ e)

module _ (t : TestValue) (judging : Judging) (runs : ℕ) (input rest before after : Option (List ℕ)) (held : Option ℤ) (model : ConsistencyModel) (budget : ℕ) where
  no_settings : (error : SettingsError) → BreaksShrinking t judging runs input rest before after (Settings error) → ⊥
  no_settings error broken = no_settings_answer error (trial_bad broken.last) (is_trial_over broken.last) broken.fails.ending broken.fails.answer

  -- nothing that is shown is a refusal of settings
  pub taken_so : (result : Result ℕ DriveError) (error : SettingsError) → IsTestShrunk t judging runs input rest before after held model budget result
      → IfErr result (λ e. e ≢ Settings error)
  taken_so (Ok status) error it = tt
  taken_so (Err e) error (inl it) = let same : ◌≡◌ {A = Result ℕ DriveError} (Err e) (Ok 0) = it.1 in absurd cc
  taken_so (Err e) error (inr (inl it)) = let same : ◌≡◌ {A = Result ℕ DriveError} (Err e) (Ok it.0) = it.2 in absurd cc
  taken_so (Err e) error (inr (inr it)) = λ same.
      no_settings error (subst (BreaksShrinking t judging runs input rest before after) (sym (the_same e it.0 it.1) ∙ same) it.2)
