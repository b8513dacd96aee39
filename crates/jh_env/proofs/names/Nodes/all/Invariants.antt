use Rattle.std.proofs.Common.{◌≡◌, ◌<◌, length}
use Rattle.std.specs.List.{All}
use Rattle.jh_env.specs.Names.{node_places}
use Rattle.jh_env.proofs.names.Nodes.all.Given as goal

abbrev pub invariant-loop-place : goal.invariant-loop-place
invariant-loop-place l = record {
  all : l.all.items ≡ node_places l.place;
  count : length l.all.items ≡ l.place;
  known : All (λ node. node < length l.fn.self) l.all.items;
}
