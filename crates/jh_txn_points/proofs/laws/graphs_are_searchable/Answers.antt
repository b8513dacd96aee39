use Rattle.jh_txn.specs.declared.model.ConsistencyModel.TheVariants.{SnapshotIsolation}
use Rattle.std.proofs.Common.{refl}
use Rattle.jh_txn_points.proofs.SoundLemmas.{points_closed, points_upwards}
use Rattle.jh_txn_points.proofs.laws.graphs_are_searchable.Goals as goal

pub returns : goal.returns
returns c = λ txns real_time longest graph g. (
  points_closed txns g.elements g.writers g.reads g.there longest real_time graph g.numbered g.written g.done g.marked g.begun g.good g.ends g.of_points SnapshotIsolation refl,
  points_upwards txns g.elements g.writers g.reads g.there longest real_time graph g.numbered g.written g.done g.marked g.begun g.good g.ends g.of_points SnapshotIsolation refl,
)
