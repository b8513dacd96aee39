use Rattle.std.proofs.Common.{◌≡◌, drop}
use Rattle.jh_edn.specs.Edn.{items_of, members_of}
use Rattle.jh_edn.specs.Normal.{are_normal_within, are_normal_pairs_within}
use Rattle.jh_edn.specs.View.{views, view_pairs}
use Rattle.jh_edn.proofs.is_normal.+is_normal.Given as goal

abbrev pub invariant-are_normal_within-loop-item : goal.invariant-are_normal_within-loop-item
invariant-are_normal_within-loop-item l = are_normal_within l.depth (items_of (views (drop l.item-index l.item-items))) ≡ are_normal_within l.depth (items_of (views l.item-items))

abbrev pub invariant-pairs_normal_within-loop-pair : goal.invariant-pairs_normal_within-loop-pair
invariant-pairs_normal_within-loop-pair l = are_normal_pairs_within l.depth (members_of (view_pairs (drop l.pair-index l.pair-items))) ≡ are_normal_pairs_within l.depth (members_of (view_pairs l.pair-items))
