-- Serial orders of transactions (serializability: Papadimitriou, "The serializability of concurrent
-- database updates", 1979; Bernstein, Hadzilacos and Goodman, "Concurrency control and recovery in
-- database systems", 1987). One that keeps real time is what strict serializability asks for
-- (Herlihy and Wing, "Linearizability", 1990).
use Rattle.std.specs.Prelude.{◌≡◌, ℕ, Bool, true, List, ◌∷◌, ◌++◌}
use Rattle.std.specs.List.{All}
use Rattle.jh_txn.specs.declared.txn.Txn.{Txn}
use Rattle.jh_txn.specs.RealTime.{PrecedesInTime}
use Rattle.jh_txn.specs.Transactions.{IsDoneAt, IsPossibleAt, Saw, list_after, appends_before}
use Rattle.jh_txn.specs.Transactions.{includes, ComesBefore, HasNoRepeat}

-- Each read of the transaction at a place, where it is done, saw what was appended to its key
-- before: by the transactions at the places in front, one after another, and then by its own.
abbrev pub IsExplainedBy : List Txn → List ℕ → ℕ → Type 0
IsExplainedBy txns front place =
    (index key : ℕ) (seen : List ℕ) → Saw txns place index key seen
    → seen ≡ list_after txns key front ++ appends_before txns key place index

-- Each transaction of the order is explained by those in front of it.
abbrev pub ExplainsReads : List Txn → List ℕ → Type 0
ExplainsReads txns order =
    (front back : List ℕ) (place : ℕ) → order ≡ front ++ place ∷ back
    → IsExplainedBy txns front place

-- each transaction that is done is one of these
abbrev pub IncludesAllDone : List Txn → List ℕ → Type 0
IncludesAllDone txns order = (place : ℕ) → IsDoneAt txns place → includes order place ≡ true

-- Distinct transactions, each done one among them and none that failed, which explain each read
-- where they are run one after another.
pub record IsSerialOrder (txns : List Txn) (order : List ℕ) : Type 0 where
  pub distinct : HasNoRepeat order
  pub possible : All (IsPossibleAt txns) order
  pub whole : IncludesAllDone txns order
  pub reads : ExplainsReads txns order

-- A transaction that was done before another of the order was invoked comes before that one.
abbrev pub KeepsRealTime : List Txn → List ℕ → Type 0
KeepsRealTime txns order =
    (first second : ℕ) → PrecedesInTime txns first second → includes order second ≡ true
    → ComesBefore order first second

-- a serial order, which keeps real time where that is asked for
pub record IsSerialOrderFor (txns : List Txn) (real_time : Bool) (order : List ℕ) : Type 0 where
  pub serial : IsSerialOrder txns order
  pub timely : real_time ≡ true → KeepsRealTime txns order
