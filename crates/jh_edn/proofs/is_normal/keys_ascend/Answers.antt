use Rattle.jh_edn.specs.Edn.{members_of}
use Rattle.jh_edn.specs.Equality.{keys_of}
use Rattle.jh_edn.specs.View.{view_pairs}
use Rattle.jh_edn.proofs.AscendingLemmas.{ascends_whole}
use Rattle.jh_edn.proofs.is_normal.keys_ascend.Goals as goal

pub loop-pair-init : goal.loop-pair-init
loop-pair-init c = ascends_whole (keys_of (members_of (view_pairs c.deref-pair-items.result.now)))
