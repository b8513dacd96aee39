-- What commands say of their options, as one rule for all commands.
use Rattle.std.proofs.Common.{◌≡◌, ◌↔◌, ℕ, None, Option, Some, refl}
use Rattle.std.specs.Prelude.{Result, Ok, Err, IfErr, IsErrOf}
use Rattle.jh_checkers.specs.declared.finding.Judging.{Judging}
use Rattle.jh_cli.specs.JudgingOptions.{IsOptionError, RefusesJudgingOptions}
use Rattle.jh_cli.specs.declared.error.CliError.{CliError}
use Rattle.jh_cli.specs.declared.error.CliError.TheVariants.{Misplaced, Missing, BadPalette}
use Rattle.jh_cli.specs.declared.search_command.SearchQuestion.{SearchQuestion}
use Rattle.jh_arguments.specs.Commands.{IsOfOptions, RefusesOptions}
use Rattle.jh_arguments.specs.declared.commands.Command.{Command}
use Rattle.jh_arguments.specs.declared.commands.Command.TheVariants.{Check, Search, Timeline}

-- what holds of each error holds of the one that there is
pub for_each_error : (P : CliError → Type 0) (r : Result ℕ CliError) → ((e : CliError) → P e) → IfErr r P
for_each_error P (Ok status) holds = tt
for_each_error P (Err e) holds = holds e

-- options of a judgement are refused with no other errors than those of options
judging_error : (judging : Option Judging) (e : CliError) → RefusesJudgingOptions judging e → IsOptionError e
judging_error (Some judging) (Misplaced option) refuses = tt
judging_error (Some judging) (Missing option) refuses = tt
judging_error _ _ refuses = absurd refuses

-- options are refused with no other errors than those that are of the options
pub is_of_options : (command : Command) (e : CliError) → RefusesOptions command e → IsOfOptions command e
is_of_options (Check question) e refuses = judging_error (Some question.judging) e refuses
is_of_options (Timeline question) e refuses = judging_error question.judging e refuses
is_of_options (Search question) BadPalette refuses = tt
is_of_options _ _ refuses = absurd refuses

pub search_options : (question : SearchQuestion) (r : Result ℕ CliError) → IsErrOf r BadPalette ↔ (question.palette ≡ None)
    → (e : CliError) → IsOfOptions (Search question) e → IsErrOf r e ↔ RefusesOptions (Search question) e
search_options question r palette BadPalette of = palette
search_options question r palette _ of = absurd of

pub search_reader_kept : {R : Type 0} (question : SearchQuestion) (r : Result ℕ CliError) (old new : R) → (IsErrOf r BadPalette → new ≡ old)
    → IfErr r (λ e. IsOfOptions (Search question) e → new ≡ old)
search_reader_kept question (Ok status) old new palette = tt
search_reader_kept question (Err e) old new palette = go e palette
  where
    go : (e : CliError) → (IsErrOf {T = ℕ} (Err e) BadPalette → new ≡ old) → IsOfOptions (Search question) e → new ≡ old
    go BadPalette palette of = palette refl
    go _ palette of = absurd of
