-- Reads that no order explains, whatever the rest of the history is (G1a, aborted read, and G1b,
-- intermediate read: Adya, "Weak consistency", 1999; the others: Kingsbury and Alvaro, "Elle",
-- 2020).
use Rattle.std.specs.Prelude.{◌≡◌, ◌≢◌, ◌⊎◌, ℕ, ◌<◌, true, false, List, ◌++◌}
use Rattle.jh_txn.specs.declared.anomaly.BadRead.{BadRead}
use Rattle.jh_txn.specs.declared.anomaly.BadRead.TheVariants.{Internal, DuplicateElements}
use Rattle.jh_txn.specs.declared.anomaly.BadRead.TheVariants.{GarbageRead, AbortedRead}
use Rattle.jh_txn.specs.declared.anomaly.BadRead.TheVariants.{IntermediateRead, OutOfOrder}
use Rattle.jh_txn.specs.declared.txn.Txn.{Txn}
use Rattle.jh_txn.specs.Transactions.{IsFailedAt, Saw, Appends, appends_at, appends_before}
use Rattle.jh_txn.specs.Transactions.{includes, ComesBefore, HasNoRepeat}

-- The read at an index saw these elements of a key, and behind them what its own transaction had
-- appended to it before.
abbrev pub SawBase : List Txn → ℕ → ℕ → ℕ → List ℕ → Type 0
SawBase txns place index key base =
    Saw txns place index key (base ++ appends_before txns key place index)

-- The read does not end in what its own transaction appended to the key before it.
abbrev pub LacksOwnAppends : List Txn → ℕ → ℕ → ℕ → List ℕ → Type 0
LacksOwnAppends txns place index key seen =
    (base : List ℕ) → seen ≢ base ++ appends_before txns key place index

-- What it has before that is not what an earlier read of the key by the transaction has there.
abbrev pub IsUnrepeatable : List Txn → ℕ → ℕ → ℕ → Type 0
IsUnrepeatable txns place index key =
    (base other : List ℕ) × (earlier : ℕ) × (earlier < index) × SawBase txns place index key base
    × SawBase txns place earlier key other × (base ≢ other)

-- What it has before that has an element that the transaction itself appends.
abbrev pub ReadsOwnEarly : List Txn → ℕ → ℕ → ℕ → Type 0
ReadsOwnEarly txns place index key =
    (base : List ℕ) × (element : ℕ) × SawBase txns place index key base
    × (includes base element ≡ true) × Appends txns key element place

-- What is wrong with the read at an index of a transaction, which saw these elements of a key.
-- Internal: it does not fit its own transaction. DuplicateElements: it has one twice. GarbageRead:
-- it has one that nobody appended to the key. AbortedRead: it has one of a transaction that failed.
-- IntermediateRead: it has one of another transaction, and not another one that this appended to
-- the key. OutOfOrder: it has two of one transaction, not in the order in which it appended them.
abbrev pub IsWrong : List Txn → ℕ → ℕ → ℕ → List ℕ → BadRead → Type 0
IsWrong txns place index key seen Internal =
    LacksOwnAppends txns place index key seen
    ⊎ (IsUnrepeatable txns place index key ⊎ ReadsOwnEarly txns place index key)
IsWrong txns place index key seen DuplicateElements = ¬ HasNoRepeat seen
IsWrong txns place index key seen GarbageRead =
    (element : ℕ) × (includes seen element ≡ true)
    × ((other : ℕ) → ¬ Appends txns key element other)
IsWrong txns place index key seen AbortedRead =
    (element writer : ℕ) × (includes seen element ≡ true) × Appends txns key element writer
    × IsFailedAt txns writer
IsWrong txns place index key seen IntermediateRead =
    (one other writer : ℕ) × (writer ≢ place) × Appends txns key one writer
    × Appends txns key other writer × (includes seen one ≡ true) × (includes seen other ≡ false)
IsWrong txns place index key seen OutOfOrder =
    (one other writer : ℕ) × ComesBefore (appends_at txns key writer) one other
    × ComesBefore seen other one

-- The micro-operation at an index of the transaction at a place is a read that no order explains.
abbrev pub IsBadRead : List Txn → ℕ → ℕ → BadRead → Type 0
IsBadRead txns place index kind =
    (key : ℕ) × (seen : List ℕ) × Saw txns place index key seen
    × IsWrong txns place index key seen kind

-- no read is bad
abbrev pub HasNoBadRead : List Txn → Type 0
HasNoBadRead txns = (place index : ℕ) (kind : BadRead) → ¬ IsBadRead txns place index kind
