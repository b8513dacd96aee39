use Rattle.std.proofs.Common.{◌≡◌, ◌++◌, refl, arith}
use Rattle.std.proofs.lemmas.List.{map_push}
use Rattle.jh_edn.specs.Key.{key_parts, key_of}
use Rattle.jh_edn.specs.View.{view}
use Rattle.jh_edn.proofs.KeyListLemmas.{item_keys_push, pair_keys_push}
use Rattle.jh_edn.proofs.key.+key.Goals as goal

pub pair_keys-loop-pair-preserved : goal.pair_keys-loop-pair-preserved
pair_keys-loop-pair-preserved t c =
    let ps = c.deref-pair-items.result.now in
    let p = c.pair-item.result in
    let key : key_parts c.push_key-in-loop-pair.new.key.items ≡ key_of (view p.0) ++ key_of (view p.1) = rw (c.in_ok-push_key-2.ensures, c.in_ok-push_key.ensures, c.new-pair_key.ensures.items) refl in
    rw (pair_keys_push ps c.loop-pair.pair-index p (omega arith), ← c.pair-item.is, ← key, ← c.loop-pair.invariant, c.in_ok-push.ensures.items) (map_push (λ v. key_parts v.items) c.loop-pair.keys.items c.push_key-in-loop-pair.new.key)

pub item_keys-loop-item-preserved : goal.item_keys-loop-item-preserved
item_keys-loop-item-preserved t c =
    let vs = c.deref-item-items.result.now in
    let v = c.item-item.result in
    let key : key_parts c.push_key.new.key.items ≡ key_of (view v) = rw (c.in_ok-push_key.ensures, c.new-item_key.ensures.items) refl in
    rw (item_keys_push vs c.loop-item.item-index v (omega arith), ← c.item-item.is, ← key, ← c.loop-item.invariant, c.in_ok-push.ensures.items) (map_push (λ w. key_parts w.items) c.loop-item.keys.items c.push_key.new.key)
