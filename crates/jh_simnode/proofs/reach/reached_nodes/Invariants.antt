use Rattle.std.proofs.Common.{◌≡◌, ◌≤◌, ◌<◌, length, take}
use Rattle.std.specs.List.{All}
use Rattle.std.specs.Prelude.{filter}
use Rattle.jh_simnode.specs.Reach.{env_cells, is_reached}
use Rattle.jh_simnode.proofs.reach.reached_nodes.Given as goal

abbrev pub invariant-loop-other : goal.invariant-loop-other
invariant-loop-other l = record {
  so_far : l.reached.items ≡ filter (is_reached (env_cells l.env) l.draw l.node) (take l.other-index l.other-items);
  known : All (λ p. p < length l.env.names) l.reached.items;
  few : length l.reached.items ≤ l.other-index;
}
