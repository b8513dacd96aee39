use Rattle.std.proofs.Common.{◌≡◌, ◌-◌, ◌≤◌, length, drop}
use Rattle.jh_edn.specs.Edn.{size_of, size_list, size_pairs, items_of, members_of}
use Rattle.jh_edn.specs.View.{view, views, view_pairs}
use Rattle.jh_edn.specs.Order.{items_cmp, members_cmp}
use Rattle.jh_edn.proofs.+compare.Given as goal

abbrev pub decreases-value::Value::compare : goal.decreases-value::Value::compare
decreases-value::Value::compare l = size_of (view l.self.now)

abbrev pub decreases-order::compare_items : goal.decreases-order::compare_items
decreases-order::compare_items l = size_list l.a.now

abbrev pub decreases-order::compare_pairs : goal.decreases-order::compare_pairs
decreases-order::compare_pairs l = size_pairs l.a.now

abbrev pub invariant-order::compare_items-loop-at : goal.invariant-order::compare_items-loop-at
invariant-order::compare_items-loop-at l = record {
  in_xs : l.at ≤ length l.xs;
  in_ys : l.at ≤ length l.ys;
  same : items_cmp (items_of (views (drop l.at l.xs))) (items_of (views (drop l.at l.ys))) ≡ items_cmp (items_of (views l.xs)) (items_of (views l.ys));
}

abbrev pub decreases-order::compare_items-loop-at : goal.decreases-order::compare_items-loop-at
decreases-order::compare_items-loop-at l = length l.xs - l.at

abbrev pub invariant-order::compare_pairs-loop-at : goal.invariant-order::compare_pairs-loop-at
invariant-order::compare_pairs-loop-at l = record {
  in_ps : l.at ≤ length l.ps;
  in_qs : l.at ≤ length l.qs;
  same : members_cmp (members_of (view_pairs (drop l.at l.ps))) (members_of (view_pairs (drop l.at l.qs))) ≡ members_cmp (members_of (view_pairs l.ps)) (members_of (view_pairs l.qs));
}

abbrev pub decreases-order::compare_pairs-loop-at : goal.decreases-order::compare_pairs-loop-at
decreases-order::compare_pairs-loop-at l = length l.ps - l.at
