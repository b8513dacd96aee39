-- Of the dependencies of a history a number linear in it, from which all others follow for snapshot
-- orders; some are of each transaction of one set and each of another one. `longest` has a list for
-- each key, which each read of the key begins (`AreLongest` of `jh_txn`). This project's own.
use Rattle.std.specs.Prelude.{◌≡◌, ◌≢◌, ◌⊎◌, ℕ, true, false, List, [], ◌∷◌, ◌++◌}
use Rattle.std.specs.List.{AllByRecursion}
use Rattle.jh_txn.specs.declared.dependency.Why.{Why}
use Rattle.jh_txn.specs.declared.dependency.Why.TheVariants.{WriteRead, WriteWrite, FirstCommitter}
use Rattle.jh_txn.specs.declared.dependency.Why.TheVariants.{ReadWrite, RealTime}
use Rattle.jh_txn.specs.declared.model.ConsistencyModel.{ConsistencyModel}
use Rattle.jh_txn.specs.declared.txn.Txn.{Txn}
use Rattle.jh_txn.specs.Dependencies.{MustBeThere}
use Rattle.jh_txn.specs.Models.{is_of_snapshots, keeps_real_time}
use Rattle.jh_txn.specs.RealTime.{PrecedesInTime}
use Rattle.jh_txn.specs.Transactions.{Saw, Appends, appends_before, includes}

-- a read of the key by the transaction at a place saw the whole longest list
abbrev pub SawLongest : List Txn → (ℕ → List ℕ) → ℕ → ℕ → Type 0
SawLongest txns longest key place = (index : ℕ) × Saw txns place index key (longest key)

-- the element is the last one of the longest list
abbrev pub EndsLongest : (ℕ → List ℕ) → ℕ → ℕ → Type 0
EndsLongest longest key element = (front : List ℕ) × (longest key ≡ front ++ element ∷ [])

-- no read has the element
abbrev pub IsUnread : (ℕ → List ℕ) → ℕ → ℕ → Type 0
IsUnread longest key element = includes (longest key) element ≡ false

-- somebody saw the longest list, which has the other element just behind the one
abbrev pub IsReadNext : List Txn → (ℕ → List ℕ) → ℕ → ℕ → ℕ → Type 0
IsReadNext txns longest key one other =
    (reader : ℕ) × SawLongest txns longest key reader
    × (front back : List ℕ) × (longest key ≡ front ++ one ∷ other ∷ back)

-- a read of the key by the transaction at a place ends in the element, but for what the same
-- transaction appended before
abbrev pub IsLastSeen : List Txn → ℕ → ℕ → ℕ → Type 0
IsLastSeen txns key element place =
    (index : ℕ) × (base : List ℕ)
    × Saw txns place index key (base ++ element ∷ appends_before txns key place index)

-- Behind what a read of the key by the transaction at a place saw the longest list has the element,
-- and in between only what that transaction appended.
abbrev pub IsFirstLacked : List Txn → (ℕ → List ℕ) → ℕ → ℕ → ℕ → Type 0
IsFirstLacked txns longest key element place =
    (index : ℕ) × (seen own rest : List ℕ) × Saw txns place index key seen
    × (longest key ≡ seen ++ own ++ element ∷ rest)
    × AllByRecursion (λ one. Appends txns key one place) own

-- A reason for the first transaction to come before the second one, and how many pairs it gives.
-- `:wr`: the second one's read ends in an element of the first one: one a read.
-- `:ww`: the second one's element is the next one of the longest list: one an element. Or no read
-- has it, and the first one's element ends that list, which another transaction saw: one an append.
-- `:fcw`: the first one appends to the key and read it, and the second one's element is the first
-- that it lacked: one a read. Or no read has that, and the first one saw the longest list and
-- appended its end, or what no read has either: two an append, where any points keep them, since
-- two that saw that list and append what no read has come before one another.
-- `:rw`: the second one's element is the first that a read of the first one lacked: one a read. Or
-- no read has it, and the first one saw the longest list: each of one set before each of another.
-- `:rt`: the first one was done before the second one was invoked: for each index each of one set
-- before each of another.
abbrev pub IsNextReason : List Txn → ConsistencyModel → (ℕ → List ℕ) → Why → ℕ → ℕ → Type 0
IsNextReason txns model longest (WriteRead key element) first second =
    Appends txns key element first × IsLastSeen txns key element second
IsNextReason txns model longest (WriteWrite key element) first second =
    Appends txns key element first × (other : ℕ) × Appends txns key other second
    × (IsReadNext txns longest key element other
    ⊎ (EndsLongest longest key element × IsUnread longest key other × MustBeThere txns second
    × ((reader : ℕ) × (reader ≢ first) × SawLongest txns longest key reader)))
IsNextReason txns model longest (FirstCommitter key element) first second =
    (is_of_snapshots model ≡ true) × Appends txns key element first
    × (other : ℕ) × Appends txns key other second
    × (IsFirstLacked txns longest key other first
    ⊎ (SawLongest txns longest key first × IsUnread longest key other × MustBeThere txns second
    × (EndsLongest longest key element ⊎ IsUnread longest key element)))
IsNextReason txns model longest (ReadWrite key element) first second =
    Appends txns key element second
    × (IsFirstLacked txns longest key element first
    ⊎ (SawLongest txns longest key first × IsUnread longest key element
    × MustBeThere txns second))
IsNextReason txns model longest RealTime first second =
    (keeps_real_time model ≡ true) × PrecedesInTime txns first second × MustBeThere txns second

-- the first of two different transactions has such a reason to come before the second one
abbrev pub IsNextDependency : List Txn → ConsistencyModel → (ℕ → List ℕ) → Why → ℕ → ℕ → Type 0
IsNextDependency txns model longest why first second =
    (first ≢ second) × IsNextReason txns model longest why first second
