use Rattle.jh_edn.specs.View.{views}
use Rattle.jh_bands.proofs.MomentLemmas.{Going}
use Rattle.jh_bands.proofs.moment.changes_in.Given as goal

abbrev pub invariant-loop-index : goal.invariant-loop-index
invariant-loop-index l = Going l.moment l.changes.items (views l.steps) l.history l.index
