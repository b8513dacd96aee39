-- Why `check` refuses an input, from why its history is not read or not judged.
use Rattle.std.proofs.Common.{◌≡◌, ◌∙◌, ℕ, Bool, true, false, List, Option, Some, None, inl, inr, refl, sym, ap, subst}
use Rattle.std.specs.Prelude.{◌↔◌, Result, Ok, Err, IfErr, IsErrOf}
use Rattle.jh_checkers.specs.declared.finding.Judging.{Judging}
use Rattle.jh_check.specs.declared.error.CheckError.{CheckError}
use Rattle.jh_check.specs.declared.error.CheckError.TheVariants as CheckErrors
use Rattle.jh_edn.specs.declared.error.EdnError.TheVariants as edn
use Rattle.jh_histories.specs.declared.error.ReadHistoryError.{ReadHistoryError}
use Rattle.jh_histories.specs.declared.error.ReadHistoryError.TheVariants as reading
use Rattle.jh_independent.specs.declared.error.KeysError.{KeysError}
use Rattle.jh_independent.specs.declared.error.KeysError.TheVariants as KeysErrors
use Rattle.jh_ops.specs.Operation.{Operation}
use Rattle.jh_ops.specs.declared.history.HistoryError.TheVariants as history_errors
use Rattle.jh_histories.specs.HistoryAndBelow.{RefusesHistoryAndBelow}
use Rattle.jh_cli.specs.HistoryInput.{IsHistoryInput, RefusesHistoryInput}
use Rattle.jh_cli.specs.CheckRefusals.{RefusesBy, RefusesCheck, RefusesJudging}
use Rattle.jh_cli.specs.JudgingOptions.{IsOptionError, RefusesJudgingOptions, first_misplaced, first_missing_option}
use Rattle.jh_cli.specs.declared.judging_option.JudgingOption.{JudgingOption}
use Rattle.jh_cli.specs.Status.{check_error, keys_error, reading_error}
use Rattle.jh_cli.specs.declared.check_command.CheckQuestion.{CheckQuestion}
use Rattle.jh_cli.specs.declared.error.CliError.{CliError}
use Rattle.jh_cli.specs.declared.error.CliError.TheVariants.{TimeMissing, Input, EnvironmentMissing, Environment, Element, History, Check, Settings, Run, HistoryFull, Mismatch, Thread, Misplaced, Missing, BadAccounts, BadPalette, Unwritable, SettingsRead, Read, Write, OutOfMemory}

-- ---- no history is read

-- reading writes nothing
pub nothing_written : (input : List ℕ) → RefusesHistoryAndBelow input (reading.Text edn.Write) → ⊥
nothing_written input refused =
    elim refused [
      | inl bytes ↦ bytes.0
      | inr parts ↦ elim parts [
        | inl whole ↦ whole.1.0
        | inr before ↦ before.refused.0
      ]
    ]

pub input_written : (skips_unread : Bool) (input : List ℕ) → RefusesHistoryInput skips_unread input (reading.Text edn.Write) → ⊥
input_written skips_unread input refused =
    elim refused [
      | inl bytes ↦ bytes.0
      | inr read ↦ nothing_written read.0 read.2
    ]

pub reading_refused : (question : CheckQuestion) (input : List ℕ) (error : ReadHistoryError) → RefusesHistoryInput question.skips_unread input error → RefusesCheck question input (reading_error error)
reading_refused question input (reading.Text (edn.UnexpectedEnd line)) refused = (refl, refused)
reading_refused question input (reading.Text (edn.BadToken line)) refused = (refl, refused)
reading_refused question input (reading.Text (edn.FloatUnsupported line)) refused = (refl, refused)
reading_refused question input (reading.Text (edn.IntegerRange line)) refused = (refl, refused)
reading_refused question input (reading.Text (edn.BadEscape line)) refused = (refl, refused)
reading_refused question input (reading.Text (edn.OddMap line)) refused = (refl, refused)
reading_refused question input (reading.Text (edn.DuplicateKey line)) refused = (refl, refused)
reading_refused question input (reading.Text (edn.TooDeep line)) refused = (refl, refused)
reading_refused question input (reading.Text edn.Utf8) refused = (refl, refused)
reading_refused question input (reading.Text edn.TooLong) refused = (refl, refused)
reading_refused question input (reading.Text edn.Read) refused = tt
reading_refused question input (reading.Text edn.Write) refused = absurd (input_written question.skips_unread input refused)
reading_refused question input (reading.Text edn.OutOfMemory) refused = tt
reading_refused question input (reading.History history_errors.OutOfMemory) refused = tt
reading_refused question input (reading.History (history_errors.Op place why)) refused = (refl, refused)

-- ---- a history is not judged

-- what a checker, threads or memory may refuse a history with
abbrev pub IsJudging : CliError → Type 0
IsJudging (Check error) = Unit {0}
IsJudging Thread = Unit {0}
IsJudging OutOfMemory = Unit {0}
IsJudging _ = ⊥

pub by_checker : (error : CheckError) → IsJudging (check_error error)
by_checker (CheckErrors.Pair error) = tt
by_checker (CheckErrors.BadValue place) = tt
by_checker (CheckErrors.NegativeAdd place) = tt
by_checker (CheckErrors.RepeatedAppend place) = tt
by_checker CheckErrors.OutOfMemory = tt

pub by_keys : (error : KeysError) → IsJudging (keys_error error)
by_keys (KeysErrors.BadValue place) = tt
by_keys (KeysErrors.Key error) = by_checker error
by_keys KeysErrors.Thread = tt
by_keys KeysErrors.OutOfMemory = tt

by_judging : (independent : Bool) (question : CheckQuestion) (history : List Operation) (e : CliError) → RefusesBy independent question history e → IsJudging e
by_judging true question history e refused = subst IsJudging (sym refused.3) (by_keys refused.0)
by_judging false question history e refused = subst IsJudging (sym refused.2) (by_checker refused.0)

pub judging_refused : (question : CheckQuestion) (input : List ℕ) (history : List Operation) (below : List ℕ) (e : CliError) → IsHistoryInput question.skips_unread input history below → RefusesJudging question history e → RefusesCheck question input e
judging_refused question input history below (Input error) parts refused = absurd (by_judging question.independent question history (Input error) refused)
judging_refused question input history below EnvironmentMissing parts refused = absurd (by_judging question.independent question history EnvironmentMissing refused)
judging_refused question input history below (Environment error) parts refused = absurd (by_judging question.independent question history (Environment error) refused)
judging_refused question input history below (Element number error) parts refused = absurd (by_judging question.independent question history (Element number error) refused)
judging_refused question input history below (History error) parts refused = absurd (by_judging question.independent question history (History error) refused)
judging_refused question input history below (Check error) parts refused = (history, below, parts, refused)
judging_refused question input history below (Settings error) parts refused = absurd (by_judging question.independent question history (Settings error) refused)
judging_refused question input history below (Run error) parts refused = absurd (by_judging question.independent question history (Run error) refused)
judging_refused question input history below HistoryFull parts refused = absurd (by_judging question.independent question history HistoryFull refused)
judging_refused question input history below Mismatch parts refused = absurd (by_judging question.independent question history Mismatch refused)
judging_refused question input history below Thread parts refused = (history, below, parts, refused)
judging_refused question input history below (Misplaced option) parts refused = absurd (by_judging question.independent question history (Misplaced option) refused)
judging_refused question input history below (Missing option) parts refused = absurd (by_judging question.independent question history (Missing option) refused)
judging_refused question input history below BadAccounts parts refused = absurd (by_judging question.independent question history BadAccounts refused)
judging_refused question input history below BadPalette parts refused = absurd (by_judging question.independent question history BadPalette refused)
judging_refused question input history below Unwritable parts refused = absurd (by_judging question.independent question history Unwritable refused)
judging_refused question input history below SettingsRead parts refused = absurd (by_judging question.independent question history SettingsRead refused)
judging_refused question input history below (TimeMissing index) parts refused = absurd (by_judging question.independent question history (TimeMissing index) refused)
judging_refused question input history below Read parts refused = absurd (by_judging question.independent question history Read refused)
judging_refused question input history below Write parts refused = absurd (by_judging question.independent question history Write refused)
judging_refused question input history below OutOfMemory parts refused = tt

-- ---- options are refused

-- an option that is given where it is not taken, or is not given where it is needed
pub options_refused : (question : CheckQuestion) (input : List ℕ) (e : CliError) → RefusesJudgingOptions (Some question.judging) e → RefusesCheck question input e
options_refused question input (Input error) h = absurd h
options_refused question input EnvironmentMissing h = absurd h
options_refused question input (Environment error) h = absurd h
options_refused question input (Element number error) h = absurd h
options_refused question input (History error) h = absurd h
options_refused question input (Check error) h = absurd h
options_refused question input (Settings error) h = absurd h
options_refused question input (Run error) h = absurd h
options_refused question input HistoryFull h = absurd h
options_refused question input Mismatch h = absurd h
options_refused question input Thread h = absurd h
options_refused question input (Misplaced option) h = h
options_refused question input (Missing option) h = h
options_refused question input BadAccounts h = absurd h
options_refused question input BadPalette h = absurd h
options_refused question input Unwritable h = absurd h
options_refused question input SettingsRead h = absurd h
options_refused question input (TimeMissing index) h = absurd h
options_refused question input Read h = absurd h
options_refused question input Write h = absurd h
options_refused question input OutOfMemory h = absurd h

-- options are refused for one reason
pub one_refusal : (judging : Option Judging) (d e : CliError) → RefusesJudgingOptions judging d → RefusesJudgingOptions judging e → d ≡ e
one_refusal None d e x y = absurd x
one_refusal (Some judging) d e x y = go d e x y where
  same : (a b : JudgingOption) → first_misplaced judging ≡ Some a → first_misplaced judging ≡ Some b → a ≡ b
  same a b x y = let both : Some a ≡ Some b = sym x ∙ y in cc

  also : (a b : JudgingOption) → first_missing_option judging ≡ Some a → first_missing_option judging ≡ Some b → a ≡ b
  also a b x y = let both : Some a ≡ Some b = sym x ∙ y in cc

  go : (d e : CliError) → RefusesJudgingOptions (Some judging) d → RefusesJudgingOptions (Some judging) e → d ≡ e
  go (Misplaced a) (Misplaced b) x y = ap Misplaced (same a b x y)
  go (Misplaced a) (Missing b) x y = let both : Some a ≡ None = sym x ∙ y.0 in absurd cc
  go (Missing a) (Misplaced b) x y = let both : None ≡ Some b = sym x.0 ∙ y in absurd cc
  go (Missing a) (Missing b) x y = ap Missing (also a b x.1 y.1)
  go (Misplaced a) (Input error) x y = absurd y
  go (Misplaced a) EnvironmentMissing x y = absurd y
  go (Misplaced a) (Environment error) x y = absurd y
  go (Misplaced a) (Element number error) x y = absurd y
  go (Misplaced a) (History error) x y = absurd y
  go (Misplaced a) (Check error) x y = absurd y
  go (Misplaced a) (Settings error) x y = absurd y
  go (Misplaced a) (Run error) x y = absurd y
  go (Misplaced a) HistoryFull x y = absurd y
  go (Misplaced a) Mismatch x y = absurd y
  go (Misplaced a) Thread x y = absurd y
  go (Misplaced a) BadAccounts x y = absurd y
  go (Misplaced a) BadPalette x y = absurd y
  go (Misplaced a) Unwritable x y = absurd y
  go (Misplaced a) SettingsRead x y = absurd y
  go (Misplaced a) (TimeMissing index) x y = absurd y
  go (Misplaced a) Read x y = absurd y
  go (Misplaced a) Write x y = absurd y
  go (Misplaced a) OutOfMemory x y = absurd y
  go (Missing a) (Input error) x y = absurd y
  go (Missing a) EnvironmentMissing x y = absurd y
  go (Missing a) (Environment error) x y = absurd y
  go (Missing a) (Element number error) x y = absurd y
  go (Missing a) (History error) x y = absurd y
  go (Missing a) (Check error) x y = absurd y
  go (Missing a) (Settings error) x y = absurd y
  go (Missing a) (Run error) x y = absurd y
  go (Missing a) HistoryFull x y = absurd y
  go (Missing a) Mismatch x y = absurd y
  go (Missing a) Thread x y = absurd y
  go (Missing a) BadAccounts x y = absurd y
  go (Missing a) BadPalette x y = absurd y
  go (Missing a) Unwritable x y = absurd y
  go (Missing a) SettingsRead x y = absurd y
  go (Missing a) (TimeMissing index) x y = absurd y
  go (Missing a) Read x y = absurd y
  go (Missing a) Write x y = absurd y
  go (Missing a) OutOfMemory x y = absurd y
  go (Input error) e x y = absurd x
  go EnvironmentMissing e x y = absurd x
  go (Environment error) e x y = absurd x
  go (Element number error) e x y = absurd x
  go (History error) e x y = absurd x
  go (Check error) e x y = absurd x
  go (Settings error) e x y = absurd x
  go (Run error) e x y = absurd x
  go HistoryFull e x y = absurd x
  go Mismatch e x y = absurd x
  go Thread e x y = absurd x
  go BadAccounts e x y = absurd x
  go BadPalette e x y = absurd x
  go Unwritable e x y = absurd x
  go SettingsRead e x y = absurd x
  go (TimeMissing index) e x y = absurd x
  go Read e x y = absurd x
  go Write e x y = absurd x
  go OutOfMemory e x y = absurd x

-- ---- no other error is one of options

pub not_of_reading : (error : ReadHistoryError) → IsOptionError (reading_error error) → ⊥
not_of_reading (reading.Text edn.Read) of = of
not_of_reading (reading.Text edn.Write) of = of
not_of_reading (reading.Text edn.OutOfMemory) of = of
not_of_reading (reading.Text (edn.UnexpectedEnd line)) of = of
not_of_reading (reading.Text (edn.BadToken line)) of = of
not_of_reading (reading.Text (edn.FloatUnsupported line)) of = of
not_of_reading (reading.Text (edn.IntegerRange line)) of = of
not_of_reading (reading.Text (edn.BadEscape line)) of = of
not_of_reading (reading.Text (edn.OddMap line)) of = of
not_of_reading (reading.Text (edn.DuplicateKey line)) of = of
not_of_reading (reading.Text (edn.TooDeep line)) of = of
not_of_reading (reading.Text edn.Utf8) of = of
not_of_reading (reading.Text edn.TooLong) of = of
not_of_reading (reading.History history_errors.OutOfMemory) of = of
not_of_reading (reading.History (history_errors.Op place why)) of = of

pub taken_all : (judging : Judging) → first_misplaced judging ≡ None → first_missing_option judging ≡ None → (e : CliError) → RefusesJudgingOptions (Some judging) e → ⊥
taken_all judging placed missing (Misplaced option) h = let bad : None ≡ Some option = sym placed ∙ h in cc
taken_all judging placed missing (Missing option) h = let bad : None ≡ Some option = sym missing ∙ h.1 in cc
taken_all judging placed missing (Input error) h = h
taken_all judging placed missing EnvironmentMissing h = h
taken_all judging placed missing (Environment error) h = h
taken_all judging placed missing (Element number error) h = h
taken_all judging placed missing (History error) h = h
taken_all judging placed missing (Check error) h = h
taken_all judging placed missing (Settings error) h = h
taken_all judging placed missing (Run error) h = h
taken_all judging placed missing HistoryFull h = h
taken_all judging placed missing Mismatch h = h
taken_all judging placed missing Thread h = h
taken_all judging placed missing BadAccounts h = h
taken_all judging placed missing BadPalette h = h
taken_all judging placed missing Unwritable h = h
taken_all judging placed missing SettingsRead h = h
taken_all judging placed missing (TimeMissing index) h = h
taken_all judging placed missing Read h = h
taken_all judging placed missing Write h = h
taken_all judging placed missing OutOfMemory h = h

-- ---- the result of a command says whether its options are refused

abbrev pub TellsOptions : Option Judging → Result ℕ CliError → Type 0
TellsOptions judging result = (e : CliError) → IsOptionError e → IsErrOf result e ↔ RefusesJudgingOptions judging e

one_error : (d e : CliError) → IsErrOf {T = ℕ} (Err d) e → d ≡ e
one_error d e is = cc

pub tells_refusal : (judging : Option Judging) (d : CliError) → RefusesJudgingOptions judging d → TellsOptions judging (Err d)
tells_refusal judging d refused = λ e of. (λ is. subst (RefusesJudgingOptions judging) (one_error d e is) refused, λ h. ap Err (one_refusal judging d e refused h))

pub tells_other : (judging : Option Judging) (d : CliError) → (IsOptionError d → ⊥) → ((e : CliError) → RefusesJudgingOptions judging e → ⊥) → TellsOptions judging (Err d)
tells_other judging d other taken = λ e of. (λ is. absurd (other (subst IsOptionError (sym (one_error d e is)) of)), λ h. absurd (taken e h))

pub tells_end : (judging : Option Judging) (result : Result ℕ CliError) → IfErr result (λ e. e ≡ Write) → ((e : CliError) → RefusesJudgingOptions judging e → ⊥) → TellsOptions judging result
tells_end judging (Ok status) failed taken = λ e of. (λ is. absurd (let bad : Ok status ≡ Err e = is in cc), λ h. absurd (taken e h))
tells_end judging (Err d) failed taken = tells_other judging d (λ of. subst IsOptionError failed of) taken

-- no refusal of a judgement is one of options
pub judging_not_of_options : (question : CheckQuestion) (history : List Operation) (e : CliError) → RefusesJudging question history e → IsOptionError e → ⊥
judging_not_of_options question history (Misplaced option) refused of = by_judging question.independent question history (Misplaced option) refused
judging_not_of_options question history (Missing option) refused of = by_judging question.independent question history (Missing option) refused
judging_not_of_options question history (Input error) refused of = of
judging_not_of_options question history EnvironmentMissing refused of = of
judging_not_of_options question history (Environment error) refused of = of
judging_not_of_options question history (Element number error) refused of = of
judging_not_of_options question history (History error) refused of = of
judging_not_of_options question history (Check error) refused of = of
judging_not_of_options question history (Settings error) refused of = of
judging_not_of_options question history (Run error) refused of = of
judging_not_of_options question history HistoryFull refused of = of
judging_not_of_options question history Mismatch refused of = of
judging_not_of_options question history Thread refused of = of
judging_not_of_options question history BadAccounts refused of = of
judging_not_of_options question history BadPalette refused of = of
judging_not_of_options question history Unwritable refused of = of
judging_not_of_options question history SettingsRead refused of = of
judging_not_of_options question history (TimeMissing index) refused of = of
judging_not_of_options question history Read refused of = of
judging_not_of_options question history Write refused of = of
judging_not_of_options question history OutOfMemory refused of = of
