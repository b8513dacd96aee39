use Rattle.std.proofs.Common.{refl}
use Rattle.jh_txn.specs.Models.{keeps_real_time}
use Rattle.jh_txn_points.proofs.SoundLemmas.{sound}
use Rattle.jh_txn_points.proofs.laws.paths_are_dependencies.Goals as goal

pub returns : goal.returns
returns c = λ txns model longest graph from why to snap g low below path.
    sound txns g.elements g.writers g.reads g.there longest (keeps_real_time model) graph g.numbered g.written g.done g.marked g.begun g.good g.ends g.of_points model snap refl path.0 from why to low below path.1
