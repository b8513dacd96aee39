use Rattle.std.proofs.Common.{◌≡◌, take}
use Rattle.std.specs.Prelude.{map}
use Rattle.std.specs.List.{All}
use Rattle.jh_env.specs.Faults.{IsBumpAmount}
use Rattle.jh_random_faults.specs.RandomFaults.{offset_of}
use Rattle.jh_random_faults.proofs.random_faults.bumps_of.Given as goal

abbrev pub invariant-loop-node : goal.invariant-loop-node
invariant-loop-node l = record {
  so_far : l.bumps.items ≡ map (λ node. (node, offset_of l.choice)) (take l.node-index l.nodes);
  amounts : All (λ bump. IsBumpAmount bump.1) l.bumps.items;
}
