-- Why `timeline` refuses an input, from why its parts are not read or its history is not judged.
use Rattle.std.proofs.Common.{◌≡◌, ℕ, Bool, true, false, List, Option, Some, None, refl, sym, subst}
use Rattle.jh_edn.specs.Edn.{Edn}
use Rattle.jh_edn.specs.declared.error.EdnError.TheVariants as edn
use Rattle.jh_histories.specs.declared.error.ReadHistoryError.{ReadHistoryError}
use Rattle.jh_histories.specs.declared.error.ReadHistoryError.TheVariants as reading
use Rattle.jh_check.specs.declared.error.CheckError.TheVariants as CheckErrors
use Rattle.jh_checkers.specs.declared.finding.Judging.{Judging}
use Rattle.jh_independent.specs.Histories.{RefusesKeySplit}
use Rattle.jh_independent.specs.Refusals.{RefusesKeys, keys_question}
use Rattle.jh_independent.specs.declared.error.KeysError.{KeysError}
use Rattle.jh_independent.specs.declared.error.KeysError.TheVariants as KeysErrors
use Rattle.jh_ops.specs.Operation.{Operation}
use Rattle.jh_ops.specs.declared.history.HistoryError.TheVariants as history_errors
use Rattle.jh_cli.specs.HistoryInput.{IsHistoryInput, RefusesHistoryInput}
use Rattle.jh_cli.proofs.CheckLemmas.{IsJudging, by_checker, by_keys, input_written}
use Rattle.jh_cli.specs.Status.{keys_error, reading_error}
use Rattle.jh_cli.specs.JudgingOptions.{IsOptionError, RefusesJudgingOptions}
use Rattle.jh_cli.specs.TimelineRefusals.{RefusesFinding, RefusesPage, RefusesShowing, RefusesTimeline}
use Rattle.jh_cli.specs.declared.error.CliError.{CliError}
use Rattle.jh_cli.specs.declared.error.CliError.TheVariants.{TimeMissing, Input, EnvironmentMissing, Environment, Element, History, Check, Settings, Run, HistoryFull, Mismatch, Thread, Misplaced, Missing, BadAccounts, BadPalette, Unwritable, SettingsRead, Read, Write, OutOfMemory}
use Rattle.jh_cli.specs.declared.timeline_command.TimelineQuestion.{TimelineQuestion}

-- ---- no parts are read

pub parts_refused : (question : TimelineQuestion) (steps : List Edn) (input : List ℕ) (error : ReadHistoryError) → RefusesHistoryInput question.skips_unread input error → RefusesTimeline question steps input (reading_error error)
parts_refused question steps input (reading.Text (edn.UnexpectedEnd line)) refused = (refl, refused)
parts_refused question steps input (reading.Text (edn.BadToken line)) refused = (refl, refused)
parts_refused question steps input (reading.Text (edn.FloatUnsupported line)) refused = (refl, refused)
parts_refused question steps input (reading.Text (edn.IntegerRange line)) refused = (refl, refused)
parts_refused question steps input (reading.Text (edn.BadEscape line)) refused = (refl, refused)
parts_refused question steps input (reading.Text (edn.OddMap line)) refused = (refl, refused)
parts_refused question steps input (reading.Text (edn.DuplicateKey line)) refused = (refl, refused)
parts_refused question steps input (reading.Text (edn.TooDeep line)) refused = (refl, refused)
parts_refused question steps input (reading.Text edn.Utf8) refused = (refl, refused)
parts_refused question steps input (reading.Text edn.TooLong) refused = (refl, refused)
parts_refused question steps input (reading.Text edn.Read) refused = tt
parts_refused question steps input (reading.Text edn.Write) refused = absurd (input_written question.skips_unread input refused)
parts_refused question steps input (reading.Text edn.OutOfMemory) refused = tt
parts_refused question steps input (reading.History history_errors.OutOfMemory) refused = tt
parts_refused question steps input (reading.History (history_errors.Op place why)) refused = (refl, refused)

-- ---- a history is not judged

by_finding : (independent : Bool) (judging : Option Judging) (history : List Operation) (e : CliError) → RefusesFinding independent judging history e → IsJudging e
by_finding true None history e refused = subst IsJudging (sym refused.2) (by_keys refused.0)
by_finding true (Some judging) history e refused = subst IsJudging (sym refused.3) (by_keys refused.0)
by_finding false None history e refused = absurd refused
by_finding false (Some judging) history e refused = subst IsJudging (sym refused.2) (by_checker refused.0)

pub page_refused : (question : TimelineQuestion) (steps : List Edn) (input : List ℕ) (history : List Operation) (below : List ℕ) (e : CliError) → IsHistoryInput question.skips_unread input history below → RefusesPage question history e
    → RefusesTimeline question steps input e
page_refused question steps input history below (Input error) parts refused = absurd (by_finding question.independent question.judging history (Input error) refused)
page_refused question steps input history below EnvironmentMissing parts refused = (history, below, parts, refused)
page_refused question steps input history below (Environment error) parts refused = (history, below, parts, refused)
page_refused question steps input history below (Element number error) parts refused = (history, below, parts, refused)
page_refused question steps input history below (History error) parts refused = absurd (by_finding question.independent question.judging history (History error) refused)
page_refused question steps input history below (Check error) parts refused = (history, below, parts, refused)
page_refused question steps input history below (Settings error) parts refused = (history, below, parts, refused)
page_refused question steps input history below (Run error) parts refused = (history, below, parts, refused)
page_refused question steps input history below HistoryFull parts refused = (history, below, parts, refused)
page_refused question steps input history below Mismatch parts refused = (history, below, parts, refused)
page_refused question steps input history below Thread parts refused = (history, below, parts, refused)
page_refused question steps input history below (Misplaced option) parts refused = absurd (by_finding question.independent question.judging history (Misplaced option) refused)
page_refused question steps input history below (Missing option) parts refused = absurd (by_finding question.independent question.judging history (Missing option) refused)
page_refused question steps input history below BadAccounts parts refused = absurd (by_finding question.independent question.judging history BadAccounts refused)
page_refused question steps input history below BadPalette parts refused = absurd (by_finding question.independent question.judging history BadPalette refused)
page_refused question steps input history below Unwritable parts refused = absurd (by_finding question.independent question.judging history Unwritable refused)
page_refused question steps input history below SettingsRead parts refused = absurd (by_finding question.independent question.judging history SettingsRead refused)
page_refused question steps input history below (TimeMissing index) parts refused = absurd (by_finding question.independent question.judging history (TimeMissing index) refused)
page_refused question steps input history below Read parts refused = tt
page_refused question steps input history below Write parts refused = absurd (by_finding question.independent question.judging history Write refused)
page_refused question steps input history below OutOfMemory parts refused = tt

-- ---- keys are not judged, or not split

pub keys_refused : (judging : Judging) (history : List Operation) (error : KeysError) → RefusesKeys (keys_question judging history) error → (error ≡ KeysErrors.Thread → ⊥)
    → RefusesShowing true (Some judging) history (keys_error error)
keys_refused judging history (KeysErrors.BadValue place) refused other = (KeysErrors.BadValue place, refused, other, refl)
keys_refused judging history (KeysErrors.Key (CheckErrors.Pair error)) refused other = (KeysErrors.Key (CheckErrors.Pair error), refused, other, refl)
keys_refused judging history (KeysErrors.Key (CheckErrors.BadValue place)) refused other = (KeysErrors.Key (CheckErrors.BadValue place), refused, other, refl)
keys_refused judging history (KeysErrors.Key (CheckErrors.NegativeAdd place)) refused other = (KeysErrors.Key (CheckErrors.NegativeAdd place), refused, other, refl)
keys_refused judging history (KeysErrors.Key (CheckErrors.RepeatedAppend place)) refused other = (KeysErrors.Key (CheckErrors.RepeatedAppend place), refused, other, refl)
keys_refused judging history (KeysErrors.Key CheckErrors.OutOfMemory) refused other = tt
keys_refused judging history KeysErrors.Thread refused other = absurd (other refl)
keys_refused judging history KeysErrors.OutOfMemory refused other = tt

pub split_judged : (judging : Judging) (history : List Operation) (error : KeysError) → RefusesKeySplit history error → RefusesShowing true (Some judging) history (keys_error error)
split_judged judging history (KeysErrors.BadValue place) refused = (KeysErrors.BadValue place, refused, (λ e. cc), refl)
split_judged judging history (KeysErrors.Key error) refused = absurd refused
split_judged judging history KeysErrors.Thread refused = absurd refused
split_judged judging history KeysErrors.OutOfMemory refused = tt

pub split_unjudged : (history : List Operation) (error : KeysError) → RefusesKeySplit history error → RefusesShowing true None history (keys_error error)
split_unjudged history (KeysErrors.BadValue place) refused = (KeysErrors.BadValue place, refused, refl)
split_unjudged history (KeysErrors.Key error) refused = absurd refused
split_unjudged history KeysErrors.Thread refused = absurd refused
split_unjudged history KeysErrors.OutOfMemory refused = tt

-- ---- options are refused

pub options_refused : (question : TimelineQuestion) (steps : List Edn) (input : List ℕ) (e : CliError) → RefusesJudgingOptions question.judging e → RefusesTimeline question steps input e
options_refused question steps input e refused = go question.judging refl e refused where
  go : (judging : Option Judging) → question.judging ≡ judging → (e : CliError) → RefusesJudgingOptions judging e → RefusesTimeline question steps input e
  go None is e h = absurd h
  go (Some judging) is (Input error) h = absurd h
  go (Some judging) is EnvironmentMissing h = absurd h
  go (Some judging) is (Environment error) h = absurd h
  go (Some judging) is (Element number error) h = absurd h
  go (Some judging) is (History error) h = absurd h
  go (Some judging) is (Check error) h = absurd h
  go (Some judging) is (Settings error) h = absurd h
  go (Some judging) is (Run error) h = absurd h
  go (Some judging) is HistoryFull h = absurd h
  go (Some judging) is Mismatch h = absurd h
  go (Some judging) is Thread h = absurd h
  go (Some judging) is (Misplaced option) h = rw (is) h
  go (Some judging) is (Missing option) h = rw (is) h
  go (Some judging) is BadAccounts h = absurd h
  go (Some judging) is BadPalette h = absurd h
  go (Some judging) is Unwritable h = absurd h
  go (Some judging) is SettingsRead h = absurd h
  go (Some judging) is (TimeMissing index) h = absurd h
  go (Some judging) is Read h = absurd h
  go (Some judging) is Write h = absurd h
  go (Some judging) is OutOfMemory h = absurd h

pub page_not_of_options : (question : TimelineQuestion) (history : List Operation) (e : CliError) → RefusesPage question history e → IsOptionError e → ⊥
page_not_of_options question history (Misplaced option) refused of = by_finding question.independent question.judging history (Misplaced option) refused
page_not_of_options question history (Missing option) refused of = by_finding question.independent question.judging history (Missing option) refused
page_not_of_options question history (Input error) refused of = of
page_not_of_options question history EnvironmentMissing refused of = of
page_not_of_options question history (Environment error) refused of = of
page_not_of_options question history (Element number error) refused of = of
page_not_of_options question history (History error) refused of = of
page_not_of_options question history (Check error) refused of = of
page_not_of_options question history (Settings error) refused of = of
page_not_of_options question history (Run error) refused of = of
page_not_of_options question history HistoryFull refused of = of
page_not_of_options question history Mismatch refused of = of
page_not_of_options question history Thread refused of = of
page_not_of_options question history BadAccounts refused of = of
page_not_of_options question history BadPalette refused of = of
page_not_of_options question history Unwritable refused of = of
page_not_of_options question history SettingsRead refused of = of
page_not_of_options question history (TimeMissing index) refused of = of
page_not_of_options question history Read refused of = of
page_not_of_options question history Write refused of = of
page_not_of_options question history OutOfMemory refused of = of
