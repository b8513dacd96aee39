-- The checker of a bank (jepsen.tests.bank: clients transfer amounts between accounts, and read the
-- balances of all; its checker "verifies that all reads must sum to (:total test), and, unless
-- :negative-balances? is true, checks that all balances are non-negative"). Operations are not paired here.
use Rattle.std.specs.Prelude.{◌≡◌, ℕ, ◌<◌, ◌≤◌, ◌==◌, ◌&&◌, ◌⊎◌, Bool, true, false, not}
use Rattle.std.specs.Prelude.{if◌then◌else◌, ℤ, pos, ◌+ℤ◌, ◌-ℤ◌, int_lt, unsigned_abs}
use Rattle.std.specs.Prelude.{List, [], ◌∷◌, map, filter, fold, length, slice_get, All}
use Rattle.std.specs.Prelude.{Option, Some, None, is_some, option_map, option_and_then, MatchOption}
use Rattle.std.specs.List.{list_any, list_all}
use Rattle.std.specs.Option.{option_map_or}
use Rattle.std.specs.Ordering.{int_eq}
use Rattle.jh_edn.specs.Edn.{Edn, nil, int, is_nil, map_pairs}
use Rattle.jh_edn.specs.Normal.{normal}
use Rattle.jh_edn.specs.Order.{in_order, is_below}
use Rattle.jh_ops.specs.Operation.{Operation, operation}
use Rattle.jh_ops.specs.declared.operation.Op.{Op}
use Rattle.jh_check.specs.Distinct.{has_same_value}
use Rattle.jh_check.specs.SetResults.{ok_reads}
use Rattle.jh_check.specs.Verdicts.{verdict_of}
use Rattle.jh_check.specs.declared.error.CheckError.{CheckError}
use Rattle.jh_check.specs.declared.error.CheckError.TheVariants.{Pair, BadValue, NegativeAdd}
use Rattle.jh_check.specs.declared.error.CheckError.TheVariants.{RepeatedAppend, OutOfMemory}
use Rattle.jh_bank.specs.declared.bank.Bank.{Bank}
use Rattle.jh_bank.specs.declared.errors.BankError.{BankError}
use Rattle.jh_bank.specs.declared.errors.BankError.TheVariants.{UnexpectedKey, NilBalance}
use Rattle.jh_bank.specs.declared.errors.BankError.TheVariants.{WrongTotal, NegativeValue}
use Rattle.jh_bank.specs.declared.judge.BankErrors.{BankErrors}
use Rattle.jh_bank.specs.declared.judge.BankResult.{BankResult}
use Rattle.jh_bank.specs.declared.judge.ReadErrors.{ReadErrors}

-- ---- a bank

-- the accounts in normal form and in normal order
abbrev pub account_list : List Edn → List Edn
account_list accounts = in_order is_below (map normal accounts)

-- the bank of these accounts, with this total, where balances may be negative or may not
abbrev pub bank_of : List Edn → ℤ → Bool → Bank
bank_of accounts total negative_balances =
    record {
      accounts = account_list accounts;
      total = total;
      negative_balances = negative_balances;
    }

-- one of the accounts equals the key
abbrev pub is_account : List Edn → Edn → Bool
is_account accounts key = has_same_value accounts (normal key)

-- ---- balances

-- the balances of a read's pairs
abbrev pub balances : List (Edn × Edn) → List Edn
balances pairs = map (λ pair. pair.1) pairs

-- an integer or nil
abbrev pub is_balance : Edn → Bool
is_balance nil = true
is_balance (int z) = true
is_balance _ = false

abbrev pub is_negative_balance : Edn → Bool
is_negative_balance (int z) = int_lt z (pos 0)
is_negative_balance _ = false

-- the integer that a balance is, and 0 for all else
abbrev pub amount_of : Edn → ℤ
amount_of (int z) = z
amount_of _ = pos 0

-- the sum of balances
abbrev pub total_of : List Edn → ℤ
total_of values = fold (λ total value. total +ℤ amount_of value) (pos 0) values

-- how far the sum of a read is from the bank's total
abbrev pub distance : Bank → List (Edn × Edn) → ℕ
distance bank pairs = unsigned_abs (total_of (balances pairs) -ℤ bank.total)

-- ---- the error of a read

-- The first that a read of these pairs has of: a key that is no account, a balance that is nil, a sum
-- that is not the bank's total, a negative balance where none is allowed. An account that is missing
-- is none.
abbrev pub bank_error : Bank → List (Edn × Edn) → Option BankError
bank_error bank pairs =
    if list_any (λ pair. not (is_account bank.accounts pair.0)) pairs then Some UnexpectedKey
    else if list_any is_nil (balances pairs) then Some NilBalance
    else if not (int_eq (total_of (balances pairs)) bank.total) then Some WrongTotal
    else if not bank.negative_balances && list_any is_negative_balance (balances pairs)
    then Some NegativeValue
    else None

-- that of an operation whose value is a map; where it is none, the history is refused
abbrev pub error_of_read : Bank → Operation → Option BankError
error_of_read bank op = option_and_then (bank_error bank) (map_pairs op.value)

-- the two errors are one
abbrev pub is_bank_error : BankError → BankError → Bool
is_bank_error UnexpectedKey UnexpectedKey = true
is_bank_error NilBalance NilBalance = true
is_bank_error WrongTotal WrongTotal = true
is_bank_error NegativeValue NegativeValue = true
is_bank_error _ _ = false

abbrev pub has_error : Bank → BankError → Operation → Bool
has_error bank error op = option_map_or (is_bank_error error) (error_of_read bank op) false

-- ---- all reads of a history

-- the reads that happened and have this error, with their places
abbrev pub reads_with : Bank → BankError → List Operation → List (ℕ × Operation)
reads_with bank error history = filter (λ read. has_error bank error read.1) (ok_reads history)

-- those that have any
abbrev pub wrong_reads : Bank → List Operation → List (ℕ × Operation)
wrong_reads bank history = filter (λ read. is_some (error_of_read bank read.1)) (ok_reads history)

-- their places
abbrev pub wrong_places : Bank → List Operation → List ℕ
wrong_places bank history = map (λ read. read.0) (wrong_reads bank history)

-- how many there are, and the first of them
abbrev pub count_and_first : List (ℕ × Operation) → Option (ℕ × Operation)
count_and_first reads = option_map (λ first. (length reads, first.1)) (slice_get reads 0)

abbrev pub read_distance : Bank → ℕ × Operation → ℕ
read_distance bank read = option_map_or (distance bank) (map_pairs read.1.value) 0

-- It is the first of the items that are farthest away: those in front of it are nearer, those behind
-- it no farther.
abbrev pub IsFarthest : {A : Type 0} → (A → ℕ) → List A → A → Type 0
IsFarthest away [] item = ⊥
IsFarthest away (x ∷ xs) item =
    ((x ≡ item) × All (λ other. away other ≤ away item) xs)
    ⊎ ((away x < away item) × IsFarthest away xs item)

-- the first of the reads whose sums are farthest from the total, where there are reads
abbrev pub IsWorst : Bank → List (ℕ × Operation) → Option Op → Type 0
IsWorst bank reads worst =
    MatchOption worst (reads ≡ [])
    (λ op. (place : ℕ) × IsFarthest (read_distance bank) reads (place, operation op))

-- what a result shows of the reads with one error
abbrev pub shown_errors : Option ReadErrors → Option (ℕ × Operation)
shown_errors found = option_map (λ errors. (errors.count, operation errors.first)) found

-- of each error how many reads have it, and the first of them, where there is one
pub record AreBankErrors (bank : Bank) (history : List Operation) (found : BankErrors) : Type 0
  where
    pub unexpected_key : shown_errors found.unexpected_key
        ≡ count_and_first (reads_with bank UnexpectedKey history)
    pub nil_balance : shown_errors found.nil_balance
        ≡ count_and_first (reads_with bank NilBalance history)
    pub wrong_total : shown_errors found.wrong_total
        ≡ count_and_first (reads_with bank WrongTotal history)
    pub negative_value : shown_errors found.negative_value
        ≡ count_and_first (reads_with bank NegativeValue history)

-- the result of a history: valid where no read has an error
pub record IsBankResult (bank : Bank) (history : List Operation) (found : BankResult) : Type 0
  where
    pub verdict : found.verdict ≡ verdict_of (length (wrong_reads bank history) == 0)
    pub reads : found.reads ≡ length (ok_reads history)
    pub errors : AreBankErrors bank history found.errors
    pub worst : IsWorst bank (reads_with bank WrongTotal history) found.worst
    pub wrong : found.wrong.items ≡ wrong_places bank history

-- ---- refusals

-- a map from keys to balances
abbrev pub shows_balances : Edn → Bool
shows_balances value =
    option_map_or (λ pairs. list_all is_balance (balances pairs)) (map_pairs value) false

-- the reads that happened and show no balances
abbrev pub bad_reads : List Operation → List (ℕ × Operation)
bad_reads history = filter (λ read. not (shows_balances read.1.value)) (ok_reads history)

-- the place of the first of them
abbrev pub bad_read_place : List Operation → Option ℕ
bad_read_place history = option_map (λ read. read.0) (slice_get (bad_reads history) 0)

-- each read that happened shows balances
abbrev pub IsBankHistory : List Operation → Type 0
IsBankHistory history = bad_read_place history ≡ None

-- Why there is no result: a read shows no balances. Memory can run out only where each shows some.
abbrev pub RefusesBank : List Operation → CheckError → Type 0
RefusesBank history (Pair error) = ⊥
RefusesBank history (BadValue place) = bad_read_place history ≡ Some place
RefusesBank history (NegativeAdd place) = ⊥
RefusesBank history (RepeatedAppend place) = ⊥
RefusesBank history OutOfMemory = IsBankHistory history
