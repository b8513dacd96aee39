use Rattle.std.proofs.Common.{◌≡◌, ◌≤◌, ◌<◌, length, take}
use Rattle.std.specs.List.{All}
use Rattle.jh_simnode.specs.Stores.{older_places}
use Rattle.jh_simnode.proofs.stores.older.Given as goal

abbrev pub invariant-loop-node : goal.invariant-loop-node
invariant-loop-node l = record {
  so_far : l.those.items ≡ older_places l.replicas l.stamp (take l.node-index l.these);
  known : All (λ p. p < length l.replicas) l.those.items;
  few : length l.those.items ≤ l.node-index;
}
