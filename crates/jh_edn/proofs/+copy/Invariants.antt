use Rattle.std.proofs.Common.{◌≡◌, take}
use Rattle.jh_edn.specs.View.{views, view_pairs}
use Rattle.jh_edn.proofs.+copy.Given as goal

abbrev pub invariant-copy::copy_items-loop-item : goal.invariant-copy::copy_items-loop-item
invariant-copy::copy_items-loop-item l = views l.copies.items ≡ views (take l.item-index l.item-items)

abbrev pub invariant-copy::copy_pairs-loop-pair : goal.invariant-copy::copy_pairs-loop-pair
invariant-copy::copy_pairs-loop-pair l = view_pairs l.copies.items ≡ view_pairs (take l.pair-index l.pair-items)
