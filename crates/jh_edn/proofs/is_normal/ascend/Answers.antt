use Rattle.jh_edn.specs.Edn.{items_of}
use Rattle.jh_edn.specs.View.{views}
use Rattle.jh_edn.proofs.AscendingLemmas.{ascends_whole}
use Rattle.jh_edn.proofs.is_normal.ascend.Goals as goal

pub loop-item-init : goal.loop-item-init
loop-item-init c = ascends_whole (items_of (views c.deref-item-items.result.now))
