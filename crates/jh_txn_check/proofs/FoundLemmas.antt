-- What findings of orders, bad reads and cycles say, by the model.
use Rattle.std.proofs.Common.{◌≡◌, ℕ, Bool, true, false, List, [], ◌∷◌, map, refl, sym, subst}
use Rattle.jh_ops.specs.Operation.{Operation}
use Rattle.jh_ops.specs.declared.pairs.Pair.{Pair}
use Rattle.jh_txn.specs.BadReads.{IsBadRead}
use Rattle.jh_txn.specs.Cycles.{IsCycle, IsSnapshotCycle}
use Rattle.jh_txn.specs.Models.{is_of_snapshots}
use Rattle.jh_txn.specs.SerialOrders.{IsSerialOrderFor}
use Rattle.jh_txn.specs.SnapshotCheckInside.{place_of_point}
use Rattle.jh_txn.specs.SnapshotOrders.{IsSnapshotOrderFor}
use Rattle.jh_txn.specs.declared.dependency.Step.{Step}
use Rattle.jh_txn.specs.declared.model.ConsistencyModel.{ConsistencyModel}
use Rattle.jh_txn.specs.declared.txn.Point.{Point}
use Rattle.jh_txn.specs.declared.txn.Txn.{Txn}
use Rattle.jh_txn_check.specs.Found.{AreShown, IsCycleFor, IsOrderFor, SaysOf}
use Rattle.jh_txn_check.specs.FoundInside.{IsBadReadFound, IsCycleFound}
use Rattle.jh_txn_findings.specs.declared.finding.TxnFinding.{TxnFinding}
use Rattle.jh_txn_findings.specs.declared.finding.TxnFinding.TheVariants as found
use Rattle.jh_txn_histories.specs.declared.numbered.Transactions.{Transactions}
use Rattle.jh_txn_judge.specs.Judged.{serial_model}
use Rattle.jh_txn_reads.specs.declared.find.BadReadAt.{BadReadAt}
use Rattle.jh_txn_snapshot_judge.specs.Judged.{snapshot_model}

pub says_bad_read : (history : List Operation) (pairs : List Pair) (model : ConsistencyModel) (explain : Bool) (read : Transactions) (at : BadReadAt) (finding : TxnFinding)
    → IsBadRead read.txns.items at.place at.index at.kind → IsBadReadFound history pairs explain at finding → SaysOf history pairs model explain read finding
says_bad_read history pairs model explain read at (found.Valid order) bad h = absurd h
says_bad_read history pairs model explain read at (found.BadRead place index kind operations) bad h =
    let txns = read.txns.items in
    let same_kind = subst (λ k. IsBadRead txns at.place at.index k) (sym h.2) bad in
    let same_index = subst (λ i. IsBadRead txns at.place i kind) (sym h.1) same_kind in
    (subst (λ p. IsBadRead txns p index kind) (sym h.0) same_index, subst (λ p. AreShown history pairs explain (p ∷ []) operations) (sym h.0) h.3)
says_bad_read history pairs model explain read at (found.Cycle steps operations) bad h = absurd h
says_bad_read history pairs model explain read at found.Unknown bad h = absurd h

pub says_cycle : (history : List Operation) (pairs : List Pair) (model : ConsistencyModel) (explain : Bool) (read : Transactions) (cycle : List Step) (finding : TxnFinding)
    → IsCycleFor read.txns.items model cycle → IsCycleFound history pairs explain read cycle finding → SaysOf history pairs model explain read finding
says_cycle history pairs model explain read cycle (found.Valid order) is h = absurd h
says_cycle history pairs model explain read cycle (found.BadRead place index kind operations) is h = absurd h
says_cycle history pairs model explain read cycle (found.Cycle steps operations) is h = (cycle, is, h.0, h.1)
says_cycle history pairs model explain read cycle found.Unknown is h = absurd h

pub serial_order : (txns : List Txn) (real_time : Bool) (order : List ℕ) → IsSerialOrderFor txns real_time order → IsOrderFor txns (serial_model real_time) order
serial_order txns true order is = is
serial_order txns false order is = is

pub serial_cycle : (txns : List Txn) (real_time : Bool) (cycle : List Step) → IsCycle txns (serial_model real_time) cycle → IsCycleFor txns (serial_model real_time) cycle
serial_cycle txns true cycle is = is
serial_cycle txns false cycle is = is

pub snapshot_order : (txns : List Txn) (real_time : Bool) (points : List Point) (places : List ℕ) → IsSnapshotOrderFor txns real_time points
    → places ≡ map place_of_point points → IsOrderFor txns (snapshot_model real_time) places
snapshot_order txns true points places is these = (points, is, these)
snapshot_order txns false points places is these = (points, is, these)

pub snapshot_cycle : (txns : List Txn) (real_time : Bool) (cycle : List Step) → IsSnapshotCycle txns (snapshot_model real_time) cycle
    → IsCycleFor txns (snapshot_model real_time) cycle
snapshot_cycle txns true cycle is = is
snapshot_cycle txns false cycle is = is

pub of_snapshots : (real_time : Bool) → is_of_snapshots (snapshot_model real_time) ≡ true
of_snapshots true = refl
of_snapshots false = refl
