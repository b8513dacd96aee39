-- Which transaction has to come before which (Adya, "Weak consistency", 1999: a write-dependency is
-- `:ww` here, a read-dependency `:wr`, an anti-dependency `:rw`; Kingsbury and Alvaro, "Elle",
-- 2020, who find them in what reads of lists show. First committer wins: Berenson and others, "A
-- critique of ANSI SQL isolation levels", 1995). That a read has an element of one writer of its
-- key and none of another one tells their order too: this case of `:ww` is this project's own.
use Rattle.std.specs.Prelude.{◌≡◌, ◌≢◌, ◌⊎◌, ℕ, true, false, List}
use Rattle.jh_txn.specs.declared.dependency.Why.{Why}
use Rattle.jh_txn.specs.declared.dependency.Why.TheVariants.{WriteRead, WriteWrite, FirstCommitter}
use Rattle.jh_txn.specs.declared.dependency.Why.TheVariants.{ReadWrite, RealTime}
use Rattle.jh_txn.specs.declared.model.ConsistencyModel.{ConsistencyModel}
use Rattle.jh_txn.specs.declared.txn.Txn.{Txn}
use Rattle.jh_txn.specs.Models.{is_of_snapshots, keeps_real_time}
use Rattle.jh_txn.specs.RealTime.{PrecedesInTime}
use Rattle.jh_txn.specs.Transactions.{IsDoneAt, Saw, Appends, includes, ComesBefore}

-- a read of the key by the transaction at a place has this element
abbrev pub ReadsWith : List Txn → ℕ → ℕ → ℕ → Type 0
ReadsWith txns key element place =
    (index : ℕ) × (seen : List ℕ) × Saw txns place index key seen
    × (includes seen element ≡ true)

-- a read of the key by the transaction at a place does not have this element
abbrev pub ReadsWithout : List Txn → ℕ → ℕ → ℕ → Type 0
ReadsWithout txns key element place =
    (index : ℕ) × (seen : List ℕ) × Saw txns place index key seen
    × (includes seen element ≡ false)

-- some read of the key has the one element before the other one
abbrev pub IsReadBefore : List Txn → ℕ → ℕ → ℕ → Type 0
IsReadBefore txns key one other =
    (reader index : ℕ) × (seen : List ℕ) × Saw txns reader index key seen
    × ComesBefore seen one other

-- a read of the key by another than the transaction at a place has the one element, and not the
-- other one
abbrev pub IsReadWithout : List Txn → ℕ → ℕ → ℕ → ℕ → Type 0
IsReadWithout txns key one other place =
    (reader index : ℕ) × (seen : List ℕ) × (reader ≢ place) × Saw txns reader index key seen
    × (includes seen one ≡ true) × (includes seen other ≡ false)

-- The transaction is in every order: it is done, or a read has one of its elements.
abbrev pub MustBeThere : List Txn → ℕ → Type 0
MustBeThere txns place =
    IsDoneAt txns place
    ⊎ ((key element reader : ℕ) × Appends txns key element place
    × ReadsWith txns key element reader)

-- What makes the first transaction come before the second one.
-- `:wr`: the second one read an element that the first one appended.
-- `:ww`: each appended to the key, and some read has the element of the first one before one of the
-- second one, or another's read has it without one of the second one.
-- `:fcw`: each appended to the key, and the first one read it without an element of the second one;
-- of two writers that overlap only the first committer wins, so this is for snapshots alone.
-- `:rw`: the first one read the key without an element that the second one appended.
-- `:rt`: the first one was done before the second one was invoked.
abbrev pub IsReason : List Txn → ConsistencyModel → Why → ℕ → ℕ → Type 0
IsReason txns model (WriteRead key element) first second =
    Appends txns key element first × ReadsWith txns key element second
IsReason txns model (WriteWrite key element) first second =
    Appends txns key element first × (other : ℕ) × Appends txns key other second
    × (IsReadBefore txns key element other ⊎ IsReadWithout txns key element other first)
IsReason txns model (FirstCommitter key element) first second =
    (is_of_snapshots model ≡ true) × Appends txns key element first
    × (other : ℕ) × Appends txns key other second × ReadsWithout txns key other first
IsReason txns model (ReadWrite key element) first second =
    ReadsWithout txns key element first × Appends txns key element second
IsReason txns model RealTime first second =
    (keeps_real_time model ≡ true) × PrecedesInTime txns first second

-- A dependency between two different transactions that are in every order.
pub record IsDependency (txns : List Txn) (model : ConsistencyModel) (why : Why)
    (first second : ℕ) : Type 0 where
  pub differ : first ≢ second
  pub first_there : MustBeThere txns first
  pub second_there : MustBeThere txns second
  pub reason : IsReason txns model why first second
