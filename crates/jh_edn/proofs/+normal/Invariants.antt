use Rattle.std.proofs.Common.{◌≡◌, take}
use Rattle.jh_edn.specs.Edn.{items_of, members_of}
use Rattle.jh_edn.specs.Normal.{normal_list, normal_pairs}
use Rattle.jh_edn.specs.View.{views, view_pairs}
use Rattle.jh_edn.proofs.+normal.Given as goal

abbrev pub invariant-normal::normal_items-loop-item : goal.invariant-normal::normal_items-loop-item
invariant-normal::normal_items-loop-item l = views l.found.items ≡ normal_list (items_of (views (take l.item-index l.item-items)))

abbrev pub invariant-normal::normal_pairs-loop-pair : goal.invariant-normal::normal_pairs-loop-pair
invariant-normal::normal_pairs-loop-pair l = view_pairs l.found.items ≡ normal_pairs (members_of (view_pairs (take l.pair-index l.pair-items)))
