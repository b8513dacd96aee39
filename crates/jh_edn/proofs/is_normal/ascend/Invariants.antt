use Rattle.std.proofs.Common.{◌≡◌, drop}
use Rattle.std.specs.Prelude.{option_map}
use Rattle.jh_edn.specs.Edn.{items_of}
use Rattle.jh_edn.specs.Normal.{ascends}
use Rattle.jh_edn.specs.View.{view, views}
use Rattle.jh_edn.proofs.AscendingLemmas.{ascends_from}
use Rattle.jh_edn.proofs.is_normal.ascend.Given as goal

abbrev pub invariant-loop-item : goal.invariant-loop-item
invariant-loop-item l = ascends_from (option_map (λ x. view x.now) l.last) (items_of (views (drop l.item-index l.item-items))) ≡ ascends (items_of (views l.item-items))
