use Rattle.jh_linear.proofs.NumberSetLemmas.{not_true}
use Rattle.jh_linear.proofs.OrderLemmas.{late_if, keeps_if}
use Rattle.jh_linear.proofs.order_check.check_order.Goals as goal

pub returns-then-not-none_late : goal.returns-then-not-none_late
returns-then-not-none_late c =
    let there = c.are_there.ensures.0 c.if-not-are_there.false in
    let apart = c.are_apart.ensures.0 c.if-not-are_apart.false in
    let possible = c.are_possible.ensures.0 c.if-not-are_possible.false in
    let whole = c.has_all_done.ensures.0 c.if-not-has_all_done.false in
    record {
      judged = (there, apart, possible, whole, λ keeps. not_true _ (c.none_late.ensures.1 (late_if c.args.ops.now c.args.order.now apart keeps)) c.if-not-none_late.true);
    }

pub returns-then-not-runs : goal.returns-then-not-runs
returns-then-not-runs c =
    let there = c.are_there.ensures.0 c.if-not-are_there.false in
    let apart = c.are_apart.ensures.0 c.if-not-are_apart.false in
    let possible = c.are_possible.ensures.0 c.if-not-are_possible.false in
    let whole = c.has_all_done.ensures.0 c.if-not-has_all_done.false in
    let keeps = keeps_if c.args.ops.now c.args.order.now c.requires.ends whole (c.none_late.ensures.0 c.if-not-none_late.false) in
    record { judged = (there, apart, possible, whole, keeps, λ last runs. not_true _ (c.runs.ensures.1 (last, runs)) c.if-not-runs.true) }

pub returns : goal.returns
returns c =
    let there = c.are_there.ensures.0 c.if-not-are_there.false in
    let apart = c.are_apart.ensures.0 c.if-not-are_apart.false in
    let possible = c.are_possible.ensures.0 c.if-not-are_possible.false in
    let whole = c.has_all_done.ensures.0 c.if-not-has_all_done.false in
    let keeps = keeps_if c.args.ops.now c.args.order.now c.requires.ends whole (c.none_late.ensures.0 c.if-not-none_late.false) in
    let runs = c.runs.ensures.0 c.if-not-runs.false in
    record {
      judged = record {
        last = runs.0;
        partial = record { there = there; distinct = apart; possible = possible; precedence = keeps; runs = runs.1 };
        whole = whole;
      };
    }
