-- Consistency models of transactions, by the orders that they ask for: a serial order
-- (serializability: Papadimitriou 1979), or one that keeps real time (strict serializability:
-- Herlihy and Wing 1990); a snapshot order (snapshot isolation: Berenson and others 1995), or one
-- that keeps real time (strong snapshot isolation: Daudjee and Salem 2006).
use Rattle.std.specs.Prelude.{Bool, true, false}
use Rattle.jh_txn.specs.declared.model.ConsistencyModel.{ConsistencyModel}
use Rattle.jh_txn.specs.declared.model.ConsistencyModel.TheVariants.{Serializable}
use Rattle.jh_txn.specs.declared.model.ConsistencyModel.TheVariants.{StrictSerializable}
use Rattle.jh_txn.specs.declared.model.ConsistencyModel.TheVariants.{SnapshotIsolation}
use Rattle.jh_txn.specs.declared.model.ConsistencyModel.TheVariants.{StrongSnapshotIsolation}

-- whether the model asks for a snapshot order, and not for a serial one
abbrev pub is_of_snapshots : ConsistencyModel → Bool
is_of_snapshots Serializable = false
is_of_snapshots StrictSerializable = false
is_of_snapshots SnapshotIsolation = true
is_of_snapshots StrongSnapshotIsolation = true

-- whether the order has to keep real time
abbrev pub keeps_real_time : ConsistencyModel → Bool
keeps_real_time Serializable = false
keeps_real_time StrictSerializable = true
keeps_real_time SnapshotIsolation = false
keeps_real_time StrongSnapshotIsolation = true
