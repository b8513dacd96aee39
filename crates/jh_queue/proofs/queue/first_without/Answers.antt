use Rattle.std.proofs.Common.{◌+◌, sym, subst, take, arith}
use Rattle.std.proofs.lemmas.List.{take_all}
use Rattle.jh_check.proofs.ListLemmas.{mapped_more}
use Rattle.jh_queue.specs.Queue.{finds_none}
use Rattle.jh_queue.specs.QueueInside.{IsFirstWithNone, first_with, passage, passages}
use Rattle.jh_queue.proofs.FirstLemmas.{first_more}
use Rattle.jh_queue.proofs.queue.first_without.Goals as goal

pub loop-out-preserved : goal.loop-out-preserved
loop-out-preserved c =
    let ins = c.args.ins.now in
    let outs = c.args.outs.now in
    let none = finds_none (passages ins) (passages outs) in
    let i = c.loop-out.out-index in
    let out = c.out-item.result in
    let more = sym (mapped_more passage outs i out c.loop-out-test.true c.out-item.is) in
    subst (λ o. IsFirstWithNone none (passages (take (i + 1) outs)) o) (sym c.first_with-first.ensures)
    (subst (λ w. IsFirstWithNone none w (first_with c.loop-out.first c.finds_none.result (passage out).place)) more
    (first_more none (passages (take i outs)) c.loop-out.first (passage out) c.loop-out.invariant c.finds_none.result (sym c.finds_none.ensures)))

pub returns : goal.returns
returns c =
    let outs = c.args.outs.now in
    subst (λ w. IsFirstWithNone (finds_none (passages c.args.ins.now) (passages outs)) (passages w) c.loop-out.first) (take_all c.loop-out.out-index outs (omega arith)) c.loop-out.invariant
