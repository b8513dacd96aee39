use Rattle.std.proofs.Common.{◌≡◌, false, take, filter, get_or}
use Rattle.jh_txn_snapshot_judge.specs.Nodes.{transaction_at}
use Rattle.jh_txn_snapshot_judge.proofs.nodes.marked_nodes.Given as goal

abbrev pub invariant-loop-node : goal.invariant-loop-node
invariant-loop-node l = l.nodes.items ≡ filter (λ node. get_or l.there (transaction_at l.count node) false) (take l.node-index l.order)
