-- Which options of a judgement go with which checker, and which a checker needs (this project's own).
use Rattle.std.specs.Prelude.{◌≡◌, ◌&&◌, Bool, true, false, not, List, [], ◌∷◌, find, codes, ℕ}
use Rattle.std.specs.Prelude.{Option, Some, None, is_some}
use Rattle.std.specs.Str.{bytes_eq}
use Rattle.jh_checkers.specs.Checkers.{checker_name}
use Rattle.jh_checkers.specs.declared.checker.Checker.{Checker}
use Rattle.jh_checkers.specs.declared.finding.Judging.{Judging}
use Rattle.jh_cli.specs.declared.error.CliError.{CliError}
use Rattle.jh_cli.specs.declared.error.CliError.TheVariants.{Misplaced, Missing}
use Rattle.jh_cli.specs.declared.judging_option.JudgingOption.{JudgingOption}
use Rattle.jh_cli.specs.declared.judging_option.JudgingOption.TheVariants.{Initial, Model, Accounts}
use Rattle.jh_cli.specs.declared.judging_option.JudgingOption.TheVariants.{Total, NegativeBalances}
use Rattle.jh_cli.specs.declared.judging_option.JudgingOption.TheVariants.{Linearizable, Locked}

-- all of them, in the order in which they are looked at
abbrev pub judging_options : List JudgingOption
judging_options =
    Initial ∷ Model ∷ Accounts ∷ Total ∷ NegativeBalances ∷ Linearizable ∷ Locked ∷ []

-- the option, and the one workload that takes it
abbrev pub option_name : JudgingOption → List ℕ
option_name Initial = codes "--initial"
option_name Model = codes "--model"
option_name Accounts = codes "--accounts"
option_name Total = codes "--total"
option_name NegativeBalances = codes "--negative-balances"
option_name Linearizable = codes "--linearizable"
option_name Locked = codes "--locked"

abbrev pub option_checker : JudgingOption → Checker
option_checker Initial = Checker.Register
option_checker Model = Checker.ListAppend
option_checker Accounts = Checker.Bank
option_checker Total = Checker.Bank
option_checker NegativeBalances = Checker.Bank
option_checker Linearizable = Checker.SetFull
option_checker Locked = Checker.Mutex

-- this checker takes the option
abbrev pub is_taken : JudgingOption → Checker → Bool
is_taken option checker = bytes_eq (checker_name (option_checker option)) (checker_name checker)

-- a bank needs its accounts and their total
abbrev pub is_needed : JudgingOption → Checker → Bool
is_needed Accounts Checker.Bank = true
is_needed Total Checker.Bank = true
is_needed _ _ = false

-- the option is given
abbrev pub is_given : JudgingOption → Judging → Bool
is_given Initial judging = is_some judging.initial
is_given Model judging = is_some judging.model
is_given Accounts judging = is_some judging.accounts
is_given Total judging = is_some judging.total
is_given NegativeBalances judging = judging.negative_balances
is_given Linearizable judging = judging.linearizable
is_given Locked judging = judging.locked

-- it is given with a checker that does not take it, or is not given where it is needed
abbrev pub is_misplaced : Judging → JudgingOption → Bool
is_misplaced judging option = is_given option judging && not (is_taken option judging.checker)

abbrev pub is_missing_option : Judging → JudgingOption → Bool
is_missing_option judging option = is_needed option judging.checker && not (is_given option judging)

-- the first of them, in the order of all
abbrev pub first_misplaced : Judging → Option JudgingOption
first_misplaced judging = find (is_misplaced judging) judging_options

abbrev pub first_missing_option : Judging → Option JudgingOption
first_missing_option judging = find (is_missing_option judging) judging_options

-- Why such options are refused, where a history is judged: for the first that is misplaced, else for the
-- first that is missing.
abbrev pub RefusesJudgingOptions : Option Judging → CliError → Type 0
RefusesJudgingOptions (Some judging) (Misplaced option) = first_misplaced judging ≡ Some option
RefusesJudgingOptions (Some judging) (Missing option) =
    (first_misplaced judging ≡ None) × (first_missing_option judging ≡ Some option)
RefusesJudgingOptions judging e = ⊥

-- it is one of these refusals
abbrev pub IsOptionError : CliError → Type 0
IsOptionError (Misplaced option) = Unit {0}
IsOptionError (Missing option) = Unit {0}
IsOptionError e = ⊥
