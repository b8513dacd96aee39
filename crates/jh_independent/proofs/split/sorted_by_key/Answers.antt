use Rattle.std.proofs.Common.{◌≡◌, ◌∷◌, [], ◌++◌, ◌∙◌, ap, sym, take, length, length-take, arith}
use Rattle.std.specs.Prelude.{filter_map}
use Rattle.std.specs.Ordering.{is_lt}
use Rattle.std.proofs.lemmas.List.{length-map, take_all}
use Rattle.std.proofs.lemmas.List.MinMax.{ranks_by}
use Rattle.std.proofs.lemmas.List.Sorted.{answers_always}
use Rattle.jh_edn.specs.Order.{in_order}
use Rattle.jh_edn.specs.View.{view}
use Rattle.jh_edn.proofs.CitedLemmas.{edn_total}
use Rattle.jh_ops.specs.Operation.{operation, operations}
use Rattle.jh_check.proofs.ListLemmas.{mapped_more}
use Rattle.jh_independent.specs.SplitInside.{is_keyed_below, keys_with_places, view_keyed, key_with_place}
use Rattle.jh_independent.specs.declared.split.Keyed.{Keyed}
use Rattle.jh_independent.proofs.SplitLemmas.{held_below, keyed_more, keys_ascend, sorted_keyed}
use Rattle.jh_independent.proofs.split.sorted_by_key.Goals as goal

pub loop-place-preserved : goal.loop-place-preserved
loop-place-preserved c =
    let history = c.args.history.now in
    let i = c.loop-place.place in
    let op = c.index-history-place.result in
    let before = operations (take i history) in
    let long : length before ≡ i = omega (arith, length-map (take i history) operation, length-take i history) in
    c.in_ok-push_key.ensures
    ∙ (λ j. c.loop-place.invariant j ++ filter_map key_with_place ((sym long j, operation op) ∷ []))
    ∙ sym (ap keys_with_places (mapped_more operation history i op c.loop-place-test.true c.index-history-place.is) ∙ keyed_more before (operation op))

in_key_order : (c : goal.In_ok-sort_by) → view_keyed c.sort_by.new.self.items ≡ in_order is_keyed_below (keys_with_places (operations c.args.history.now))
in_key_order c =
    let sorted = c.in_ok-sort_by.ensures in
    let ranks = ranks_by edn_total (λ (k : Keyed). view k.key) in
    sorted_keyed c.loop-place.keyed.items c.sort_by.new.self.items
    (sorted.sorted held_below ranks (answers_always _ _ _ (λ f a r f' k. ap is_lt k.met)))
    (sorted.stable held_below ranks (answers_always _ _ _ (λ f a r f' k. ap is_lt k.met)))
    ∙ ap (in_order is_keyed_below) (c.loop-place.invariant ∙ ap (λ ops. keys_with_places (operations ops)) (take_all c.loop-place.place c.args.history.now (omega arith)))

pub returns-clause-order : goal.returns-clause-order
returns-clause-order c = in_key_order c

pub returns-clause-ascends : goal.returns-clause-ascends
returns-clause-ascends c = keys_ascend (keys_with_places (operations c.args.history.now)) (view_keyed c.sort_by.new.self.items) (in_key_order c)
