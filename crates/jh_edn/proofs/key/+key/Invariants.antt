use Rattle.std.proofs.Common.{◌≡◌, ◌++◌, drop, take}
use Rattle.jh_edn.specs.Edn.{vector, items_of, members_of}
use Rattle.jh_edn.specs.Key.{key_parts, keys_in, marked_keys, key_of, item_keys, pair_keys}
use Rattle.jh_edn.specs.View.{views, view_pairs}
use Rattle.jh_edn.proofs.key.+key.Given as goal

abbrev pub invariant-item_keys-loop-item : goal.invariant-item_keys-loop-item
invariant-item_keys-loop-item l = keys_in l.keys.items ≡ item_keys (items_of (views (take l.item-index l.item-items)))

abbrev pub invariant-pair_keys-loop-pair : goal.invariant-pair_keys-loop-pair
invariant-pair_keys-loop-pair l = keys_in l.keys.items ≡ pair_keys (members_of (view_pairs (take l.pair-index l.pair-items)))

abbrev pub invariant-push_items-loop-item : goal.invariant-push_items-loop-item
invariant-push_items-loop-item l = key_parts l.key.items ++ marked_keys (item_keys (items_of (views (drop l.item-index l.item-items)))) ≡ key_parts l.fn.key.items ++ key_of (vector (items_of (views l.item-items)))
