-- What the judge's answers say. This project's own.
use Rattle.std.specs.Prelude.{Bool, true, false, List}
use Rattle.jh_txn.specs.BadReads.{IsBadRead}
use Rattle.jh_txn.specs.Cycles.{IsCycle}
use Rattle.jh_txn.specs.SerialOrders.{IsSerialOrderFor}
use Rattle.jh_txn.specs.declared.model.ConsistencyModel.{ConsistencyModel}
use Rattle.jh_txn.specs.declared.model.ConsistencyModel.TheVariants.{Serializable}
use Rattle.jh_txn.specs.declared.model.ConsistencyModel.TheVariants.{StrictSerializable}
use Rattle.jh_txn.specs.declared.txn.Txn.{Txn}
use Rattle.jh_txn_judge.specs.declared.verdict.SerialVerdict.{SerialVerdict}
use Rattle.jh_txn_judge.specs.declared.verdict.SerialVerdict.TheVariants.{BadRead, Cycle, Valid}

-- the model that asks for a serial order, which keeps real time or need not
abbrev pub serial_model : Bool → ConsistencyModel
serial_model true = StrictSerializable
serial_model false = Serializable

-- A serial order, which keeps real time where that is asked for; or what excludes each one: a read
-- that no order explains, or a cycle of dependencies.
abbrev pub IsSeriallyJudged : List Txn → Bool → SerialVerdict → Type 0
IsSeriallyJudged txns real_time (Valid order) = IsSerialOrderFor txns real_time order.items
IsSeriallyJudged txns real_time (BadRead at) = IsBadRead txns at.place at.index at.kind
IsSeriallyJudged txns real_time (Cycle steps) = IsCycle txns (serial_model real_time) steps.items
