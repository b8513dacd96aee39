use Rattle.std.proofs.Common.{◌++◌, [], sym, ap, ◌∙◌, get_or, cond}
use Rattle.std.specs.Prelude.{None}
use Rattle.std.specs.List.{cons_option}
use Rattle.jh_ops.specs.Operation.{operations}
use Rattle.jh_ops.specs.declared.pairs.Pair.{Pair}
use Rattle.jh_queue.specs.Queue.{dequeue_of, passage_at}
use Rattle.jh_queue.specs.QueueInside.{passages}
use Rattle.jh_queue.proofs.FirstLemmas.{passages_more}
use Rattle.jh_queue.proofs.passages.dequeues.Goals as goal

pub loop-pair-preserved : goal.loop-pair-preserved
loop-pair-preserved c =
    let history = operations c.args.history.now in
    let pairs = c.args.pairs.now in
    let i = c.loop-pair.pair-index in
    let none : Pair = record { invoke = 0; outcome = None } in
    let pair = get_or pairs i none in
    c.in_ok-push_passage.ensures
    ∙ (λ k. passages c.loop-pair.held.items ++ cons_option (cond (c.is_ok_dequeue-wanted.ensures k) (passage_at history (c.end_of.ensures k)) None) [])
    ∙ ap (λ w. w ++ cons_option (dequeue_of history pair) []) c.loop-pair.invariant
    ∙ sym (passages_more (dequeue_of history) pairs i none c.loop-pair-test.true)
