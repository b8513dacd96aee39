use Rattle.std.proofs.Common.{◌≡◌, length, take}
use Rattle.jh_env.specs.Names.{node_places}
use Rattle.jh_step_texts.proofs.named.all_places.Given as goal

abbrev pub invariant-loop-node : goal.invariant-loop-node
invariant-loop-node l = l.all.items ≡ take l.node-index (node_places (length l.nodes))
