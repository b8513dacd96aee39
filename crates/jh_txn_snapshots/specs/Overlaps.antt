-- Two writers of a key of which dependencies say that they overlap. That snapshot isolation keeps
-- such writers apart is its first-committer rule (Berenson and others, "A critique of ANSI SQL
-- isolation levels", 1995); this use of it is this project's own.
use Rattle.std.specs.Prelude.{◌≡◌, ◌≢◌, ℕ, List}
use Rattle.jh_txn.specs.declared.dependency.Step.{Step}
use Rattle.jh_txn.specs.declared.dependency.Why.TheVariants.{RealTime}
use Rattle.jh_txn.specs.declared.model.ConsistencyModel.{ConsistencyModel}
use Rattle.jh_txn.specs.declared.txn.Txn.{Txn}
use Rattle.jh_txn.specs.Cycles.{first_place, LeadTo, AreReadWritesApart}
use Rattle.jh_txn.specs.Transactions.{Appends}

-- Steps that lead from the first transaction to the second one, in which no two neighbours are
-- `:rw`. Behind the last one real time stands for whatever is no `:rw`.
pub record IsSnapshotPath (txns : List Txn) (model : ConsistencyModel) (steps : List Step)
    (first second : ℕ) : Type 0 where
  pub from_first : first_place steps second ≡ first
  pub lead : LeadTo txns model steps second
  pub apart : AreReadWritesApart steps RealTime

-- Two different transactions that append to one key, with such steps from each to the other one: a
-- cycle in which two `:rw` are neighbours at these two alone.
pub record IsOverlap (txns : List Txn) (model : ConsistencyModel) (there back : List Step)
    (key one other first second : ℕ) : Type 0 where
  pub differ : first ≢ second
  pub first_appends : Appends txns key one first
  pub second_appends : Appends txns key other second
  pub there_path : IsSnapshotPath txns model there first second
  pub back_path : IsSnapshotPath txns model back second first
