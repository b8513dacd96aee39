-- What the checker of a bank keeps on its way, and its line piece by piece: proofs rest on it, and no
-- public clause names it. This project's own.
use Rattle.std.specs.Prelude.{◌≡◌, ℕ, ◌&&◌, Bool, true, false, not, nat_lt, if◌then◌else◌}
use Rattle.std.specs.Prelude.{List, [], ◌∷◌, ◌++◌, codes, slice_get, count_by, find}
use Rattle.std.specs.Prelude.{Option, Some, None, option_map, option_and_then, MatchOption}
use Rattle.std.specs.List.{filter_map, cons_option}
use Rattle.jh_edn.specs.Edn.{Edn, map_pairs}
use Rattle.jh_edn.specs.Parts.{behind_pair_text}
use Rattle.jh_edn.specs.Print.{print, separator_before}
use Rattle.jh_ops.specs.Operation.{Operation, operation, is_asked}
use Rattle.jh_ops.specs.OperationWritten.{value_written}
use Rattle.jh_ops.specs.declared.operation.Kind.{Kind}
use Rattle.jh_ops.specs.declared.operation.Op.{Op}
use Rattle.jh_check.specs.SetResults.{ok_reads}
use Rattle.jh_bank.specs.Banks.{IsFarthest, bank_error, distance, is_bank_error, shown_errors}
use Rattle.jh_bank.specs.Banks.{shows_balances}
use Rattle.jh_bank.specs.declared.bank.Bank.{Bank}
use Rattle.jh_bank.specs.declared.erring.ErringRead.{ErringRead}
use Rattle.jh_bank.specs.declared.errors.BankError.{BankError}
use Rattle.jh_bank.specs.declared.errors.BankError.TheVariants.{UnexpectedKey, NilBalance}
use Rattle.jh_bank.specs.declared.errors.BankError.TheVariants.{WrongTotal, NegativeValue}
use Rattle.jh_bank.specs.declared.judge.BankErrors.{BankErrors}

-- ---- one read

-- the first of the errors that there are
abbrev pub first_error_of : Bool → Bool → Bool → Bool → Option BankError
first_error_of unexpected nil wrong negative =
    if unexpected then Some UnexpectedKey else if nil then Some NilBalance
    else if wrong then Some WrongTotal else if negative then Some NegativeValue else None

-- a read that happened and shows no balances
abbrev pub is_bad_read : Operation → Bool
is_bad_read op = is_asked Kind.Ok (codes "read") op && not (shows_balances op.value)

-- a read of these pairs, where it has an error
abbrev pub erring_in : Bank → ℕ → List (Edn × Edn) → Option ErringRead
erring_in bank place pairs =
    option_map (λ error. record { place = place; error = error; distance = distance bank pairs })
    (bank_error bank pairs)

abbrev pub erring_at : Bank → ℕ → Operation → Option ErringRead
erring_at bank place op = option_and_then (erring_in bank place) (map_pairs op.value)

-- an operation, where it is a read that happened and has an error
abbrev pub erring_of : Bank → ℕ → Operation → List ErringRead
erring_of bank place op =
    if is_asked Kind.Ok (codes "read") op then cons_option (erring_at bank place op) [] else []

-- ---- all reads

abbrev pub erring_reads : Bank → List Operation → List ErringRead
erring_reads bank history = filter_map (λ read. erring_at bank read.0 read.1) (ok_reads history)

abbrev pub errs_by : BankError → ErringRead → Bool
errs_by error read = is_bank_error error read.error

-- how many of them have this error, and the first of these in the history
abbrev pub errors_from : List Operation → List ErringRead → BankError → Option (ℕ × Operation)
errors_from history erring error =
    option_map (λ first. (count_by (errs_by error) erring, first))
    (option_and_then (slice_get history)
    (option_map (λ read. read.place) (find (errs_by error) erring)))

pub record AreErrorsFrom (history : List Operation) (erring : List ErringRead)
    (found : BankErrors) : Type 0 where
  pub unexpected_key : shown_errors found.unexpected_key
      ≡ errors_from history erring UnexpectedKey
  pub nil_balance : shown_errors found.nil_balance ≡ errors_from history erring NilBalance
  pub wrong_total : shown_errors found.wrong_total ≡ errors_from history erring WrongTotal
  pub negative_value : shown_errors found.negative_value
      ≡ errors_from history erring NegativeValue

-- the first of those that are farthest away, where there are some
abbrev pub IsWorstOf : List ErringRead → Option ErringRead → Type 0
IsWorstOf erring worst =
    MatchOption worst (erring ≡ []) (IsFarthest (λ read. read.distance) erring)

-- the worse of what was the worst and one more, if that is to count
abbrev pub worse_of : Bool → Option ErringRead → ErringRead → Option ErringRead
worse_of false worst read = worst
worse_of true None read = Some read
worse_of true (Some last) read =
    if nat_lt last.distance read.distance then Some read else Some last

-- ---- the line

-- pairs one after the other, with a separator in front of each but the first
abbrev pub entries_text : Bool → List (Edn × Edn) → List ℕ
entries_text first [] = []
entries_text first (pair ∷ pairs) =
    separator_before first (codes ", ")
    ++ ((print pair.0 ++ (codes " " ++ print pair.1)) ++ entries_text false pairs)

abbrev pub worst_text : Option Op → List ℕ
worst_text None = []
worst_text (Some op) = behind_pair_text (codes "worst") (value_written (operation op))
