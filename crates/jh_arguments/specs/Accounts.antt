-- The accounts of a bank, as the text of an option writes them (this project's own): a vector or a list of
-- EDN values, as in the options of jepsen.tests.bank.
use Rattle.std.specs.Prelude.{◌≡◌, List, [], ◌∷◌, Option, Some, Ok}
use Rattle.std.specs.Borrow.{Bor}
use Rattle.clap.specs.Words.{Text}
use Rattle.jh_edn.specs.Edn.{Edn, elements_of}
use Rattle.jh_edn.specs.Lines.{values_in}
use Rattle.jh_edn.specs.declared.value.Value.{Value}
use Rattle.jh_cli.specs.declared.error.CliError.{CliError}
use Rattle.jh_cli.specs.declared.error.CliError.TheVariants.{BadAccounts, OutOfMemory}

-- the accounts that a command is given, if it is given some
abbrev pub Accounts : Type 0
Accounts = Option (Bor (List Value))

-- The text writes these accounts: they are the elements of its one value, which is a vector or a list.
abbrev pub WritesAccounts : Text → List Edn → Type 0
WritesAccounts text accounts =
    (value : Edn) × (values_in text ≡ Ok (value ∷ [])) × (elements_of value ≡ Some accounts)

-- why no accounts are taken from a text: it writes none, or memory ran out
abbrev pub RefusesAccountsText : Text → CliError → Type 0
RefusesAccountsText text BadAccounts = (accounts : List Edn) → WritesAccounts text accounts → ⊥
RefusesAccountsText text OutOfMemory = Unit {0}
RefusesAccountsText text e = ⊥
