use Rattle.std.proofs.Common.{◌≡◌, ◌+◌, ◌%◌, ◌^◌, drop}
use Rattle.jh_edn.specs.Edn.{items_of, members_of}
use Rattle.jh_edn.specs.Fingerprint.{items_number, sum_of_items, sum_of_members}
use Rattle.jh_edn.specs.View.{views, view_pairs}
use Rattle.jh_edn.proofs.fingerprint.+fingerprint.Given as goal

abbrev pub invariant-in_turn-loop-item : goal.invariant-in_turn-loop-item
invariant-in_turn-loop-item l = items_number l.number (items_of (views (drop l.item-index l.item-items))) ≡ items_number 0 (items_of (views l.item-items))

abbrev pub invariant-sum_of_items-loop-item : goal.invariant-sum_of_items-loop-item
invariant-sum_of_items-loop-item l = (l.sum + sum_of_items (items_of (views (drop l.item-index l.item-items)))) % 2 ^ 64 ≡ sum_of_items (items_of (views l.item-items)) % 2 ^ 64

abbrev pub invariant-sum_of_pairs-loop-pair : goal.invariant-sum_of_pairs-loop-pair
invariant-sum_of_pairs-loop-pair l = (l.sum + sum_of_members (members_of (view_pairs (drop l.pair-index l.pair-items)))) % 2 ^ 64 ≡ sum_of_members (members_of (view_pairs l.pair-items)) % 2 ^ 64
