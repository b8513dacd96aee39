use Rattle.std.proofs.Common.{◌≡◌, length, take}
use Rattle.std.specs.List.{fold}
use Rattle.jh_simnode.specs.Reach.{env_cells}
use Rattle.jh_simnode.specs.Stores.{replicas_after_sending}
use Rattle.jh_simnode.specs.TakingInside.{AreSources, replicas_from}
use Rattle.jh_simnode.proofs.stores.send_to_all.Given as goal

abbrev pub invariant-loop-to : goal.invariant-loop-to
invariant-loop-to l = record {
  so_far : replicas_from l.replicas l.sources ≡ fold (replicas_after_sending (env_cells l.env) l.from) (replicas_from l.replicas l.fn.sources) (take l.to-index l.to-items);
  sources : AreSources (length l.env.names) l.sources;
}
