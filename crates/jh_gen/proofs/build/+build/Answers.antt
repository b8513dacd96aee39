use Rattle.std.proofs.Common.{◌≡◌, sym, ap, ◌∙◌, ◌+◌, subst, [], drop, arith, rules, ◌<◌, true}
use Rattle.std.specs.Prelude.{filter}
use Rattle.jh_gen.specs.Generator.{share_list, size_shares}
use Rattle.jh_gen.specs.View.{generator_of, generators_of, shares_of}
use Rattle.jh_gen.specs.NodeView.{row_view, lots_view}
use Rattle.jh_gen.specs.Fits.{fits}
use Rattle.jh_gen.specs.Scope.{is_beyond}
use Rattle.jh_gen.specs.State.{state_left, split, lots_from}
use Rattle.jh_gen.specs.declared.generator.Gens.TheDeep.{deep-Gen}
use Rattle.jh_gen.proofs.BuildLemmas.{Rows, Copies, Parts, rows_init, rows_done, rows_push, copies_done, parts_init, parts_done, parts_fit, parts_push, reserve_done, no_more, share_falls}
use Rattle.jh_gen.proofs.build.+build.Goals as goal

pub build_copies-returns : goal.build_copies-returns
build_copies-returns t c =
    copies_done _ _ _ (subst (λ xs. Copies (lots_view c.loop-thread.items.items) c.args.inner.now xs c.args.threads.now) (no_more _ _ c.loop-thread-test.false) c.loop-thread.invariant)

pub build_row-loop-member-init : goal.build_row-loop-member-init
build_row-loop-member-init t c =
    let whole : generators_of c.deref-member-items.result.now ≡ c.args.members.now = ap generators_of c.deref-member-items.ensures.value ∙ c.members.view_is in
    subst (λ xs. Rows (row_view xs) (generators_of c.deref-member-items.result.now) c.args.members.now c.args.threads.now) (sym c.new-row.ensures.items)
    (subst (λ ys. Rows [] ys c.args.members.now c.args.threads.now) (sym whole) (rows_init c.args.members.now c.args.threads.now c.requires))

pub build_row-loop-member-preserved : goal.build_row-loop-member-preserved
build_row-loop-member-preserved t c =
    subst (λ xs. Rows (row_view xs) (generators_of (drop (c.loop-member.member-index + 1) c.deref-member-items.result.now)) c.args.members.now c.args.threads.now) (sym c.in_ok-push.ensures.items)
    (rows_push c.loop-member.row.items _ c.loop-member.member-index c.member-item.result _ _ c.in_ok-node.node c.loop-member.invariant c.loop-member-test.true c.member-item.is c.in_ok-node.ensures)

pub build_row-returns : goal.build_row-returns
build_row-returns t c =
    rows_done _ _ _ (subst (λ xs. Rows (row_view c.loop-member.row.items) (generators_of xs) c.args.members.now c.args.threads.now) (no_more _ _ c.loop-member-test.false) c.loop-member.invariant)

pub build_shares-loop-count-init : goal.build_shares-loop-count-init
build_shares-loop-count-init t c =
    let whole : shares_of c.deref-count-items.result.now ≡ c.args.shares.now = ap shares_of c.deref-count-items.ensures.value ∙ c.shares.view_is in
    subst (λ xs. Parts (lots_view xs) 0 (shares_of c.deref-count-items.result.now) c.args.shares.now c.args.threads.now) (sym c.new-items.ensures.items)
    (subst (λ ys. Parts [] 0 ys c.args.shares.now c.args.threads.now) (sym whole) (parts_init c.args.shares.now c.args.threads.now c.requires.fit))

pub build_shares-threads_among-requires : goal.build_shares-threads_among-requires
build_shares-threads_among-requires t c =
    let h = parts_fit _ _ _ c.loop-count.count-index c.loop-count-item.result _ _ c.loop-count.invariant c.loop-count-test.true c.loop-count-item.is in
    omega (arith, h.1, c.requires.sum)

pub build_shares-build-requires : goal.build_shares-build-requires
build_shares-build-requires t c =
    let h = parts_fit _ _ _ c.loop-count.count-index c.loop-count-item.result _ _ c.loop-count.invariant c.loop-count-test.true c.loop-count-item.is in
    let whole : shares_of c.deref-count-items.result.now ≡ c.args.shares.now = ap shares_of c.deref-count-items.ensures.value ∙ c.shares.view_is in
    let fit : fits 16 (generator_of c.loop-count-item.result.1) ≡ true = h.0 in
    let smaller : deep-Gen c.loop-count-item.result.1 < size_shares c.args.shares.now =
    subst (λ ms. deep-Gen c.loop-count-item.result.1 < size_shares ms) whole (share_falls _ c.loop-count.count-index c.loop-count-item.result c.loop-count-test.true c.loop-count-item.is) in
    search rules

pub build_shares-overflow_add-first : goal.build_shares-overflow_add-first
build_shares-overflow_add-first t c =
    let h = parts_fit _ _ _ c.loop-count.count-index c.loop-count-item.result _ _ c.loop-count.invariant c.loop-count-test.true c.loop-count-item.is in
    omega (arith, h.1, c.requires.sum)

pub build_shares-loop-count-preserved : goal.build_shares-loop-count-preserved
build_shares-loop-count-preserved t c =
    subst (λ xs. Parts (lots_view xs) (c.loop-count.first + c.loop-count-item.result.0) (shares_of (drop (c.loop-count.count-index + 1) c.deref-count-items.result.now)) c.args.shares.now c.args.threads.now) (sym c.in_ok-push.ensures.items)
    (parts_push c.loop-count.items.items c.loop-count.first _ c.loop-count.count-index c.loop-count-item.result _ _ c.in_ok-own.own c.in_ok-node.node c.loop-count.invariant c.loop-count-test.true c.loop-count-item.is c.in_ok-own.ensures (c.in_ok-node.ensures ∙ ap (state_left (generator_of c.loop-count-item.result.1) []) c.as_slice.ensures.value))

pub build_shares-returns : goal.build_shares-returns
build_shares-returns t c =
    parts_done _ _ _ _ (subst (λ xs. Parts (lots_view c.loop-count.items.items) c.loop-count.first (shares_of xs) c.args.shares.now c.args.threads.now) (no_more _ _ c.loop-count-test.false) c.loop-count.invariant)

pub build-returns-in_ok-push-in-Reserve : goal.build-returns-in_ok-push-in-Reserve
build-returns-in_ok-push-in-Reserve t c =
    let threads = c.args.threads.now in
    let others = c.in_ok-others-in-Reserve.ensures ∙ ap (λ k. filter (is_beyond k) threads) c.sum.ensures in
    subst (λ xs. split (lots_from (lots_view xs)) ≡ state_left (generator_of c.args.source.now) [] threads) (sym c.in_ok-push-in-Reserve.ensures.items)
    (reserve_done c.in_ok-items-in-Reserve.items.items c.in_ok-build_lot-in-Reserve.field-0 (share_list c.in-Reserve.shares) c.in-Reserve.inner threads c.in_ok-others-in-Reserve.others.items c.in_ok-items-in-Reserve.ensures others c.in_ok-build_lot-in-Reserve.ensures
    ∙ ap (λ g. state_left (generator_of g) [] threads) (sym c.in-Reserve.is))
