use Rattle.std.proofs.Common.{sym, ap, ◌∙◌, arith}
use Rattle.std.specs.Ordering.{is_lt}
use Rattle.std.proofs.lemmas.List.Sorted.{answers_always}
use Rattle.std.proofs.lemmas.List.MinMax.{ranks_by}
use Rattle.std.proofs.lemmas.List.{map_push}
use Rattle.jh_edn.specs.Edn.{mapping, set, items_of, members_of}
use Rattle.jh_edn.specs.Normal.{normal}
use Rattle.jh_edn.specs.Order.{in_order, is_below, has_key_below}
use Rattle.jh_edn.specs.View.{view, view_pair}
use Rattle.jh_edn.specs.declared.value.Value.{Value}
use Rattle.jh_edn.proofs.NormalListLemmas.{normal_list_push, normal_pairs_push, held_below, held_key_below, sorted_items, sorted_pairs}
use Rattle.jh_edn.proofs.OrderLemmas.{edn_total}
use Rattle.jh_edn.proofs.+normal.Goals as goal

pub normal::normal_items-loop-item-preserved : goal.normal::normal_items-loop-item-preserved
normal::normal_items-loop-item-preserved t c =
    let vs = c.deref-item-items.result.now in
    let v = c.item-item.result in
    rw (normal_list_push vs c.loop-item.item-index v (omega arith), ← c.item-item.is, ← c.in_ok-normal.ensures, ← c.loop-item.invariant, c.in_ok-push.ensures.items) (map_push view c.loop-item.found.items c.in_ok-normal.field-0)

pub normal::normal_pairs-loop-pair-preserved : goal.normal::normal_pairs-loop-pair-preserved
normal::normal_pairs-loop-pair-preserved t c =
    let ps = c.deref-pair-items.result.now in
    let p = c.pair-item.result in
    rw (normal_pairs_push ps c.loop-pair.pair-index p (omega arith), ← c.pair-item.is, ← c.in_ok-key.ensures, ← c.in_ok-value.ensures, ← c.loop-pair.invariant, c.in_ok-push.ensures.items) (map_push view_pair c.loop-pair.found.items (c.in_ok-key.key, c.in_ok-value.value))

pub value::Value::normal-returns-in_ok-sort_by-in-Map :
    goal.value::Value::normal-returns-in_ok-sort_by-in-Map
value::Value::normal-returns-in_ok-sort_by-in-Map t c =
    let sorted = c.in_ok-sort_by-in-Map.ensures in
    let ranks = ranks_by edn_total (λ (p : Value × Value). view p.0) in
    let order = sorted_pairs c.in_ok-sorted-in-Map.sorted.items c.sort_by.new.self.items
    (sorted.sorted held_key_below ranks (answers_always _ _ _ (λ f a r f' k. ap is_lt k.met))) (sorted.stable held_key_below ranks (answers_always _ _ _ (λ f a r f' k. ap is_lt k.met))) in
    ap (λ w. mapping (members_of w)) (c.of-in-Map.ensures ∙ order ∙ ap (in_order has_key_below) c.in_ok-sorted-in-Map.ensures) ∙ ap (λ w. normal (view w)) (sym c.in-Map.is)

pub value::Value::normal-returns-in_ok-sort_by-in-Set :
    goal.value::Value::normal-returns-in_ok-sort_by-in-Set
value::Value::normal-returns-in_ok-sort_by-in-Set t c =
    let sorted = c.in_ok-sort_by-in-Set.ensures in
    let ranks = ranks_by edn_total view in
    let order = sorted_items c.in_ok-sorted-in-Set.sorted.items c.sort_by-in-Set.new.self.items
    (sorted.sorted held_below ranks (answers_always _ _ _ (λ f a r f' k. ap is_lt k.met))) (sorted.stable held_below ranks (answers_always _ _ _ (λ f a r f' k. ap is_lt k.met))) in
    ap (λ w. set (items_of w)) (c.of-in-Set.ensures ∙ order ∙ ap (in_order is_below) c.in_ok-sorted-in-Set.ensures) ∙ ap (λ w. normal (view w)) (sym c.in-Set.is)
