use Rattle.std.proofs.Common.{◌∙◌, ◌++◌}
use Rattle.std.specs.Prelude.{None}
use Rattle.jh_ops.specs.Operation.{operations}
use Rattle.jh_ops.specs.declared.pairs.Pair.{Pair}
use Rattle.jh_set_full.proofs.ResultLemmas.{shown_more}
use Rattle.jh_set_full.proofs.set_full.elements_shown.Goals as goal

pub loop-pair-preserved : goal.loop-pair-preserved
loop-pair-preserved c =
    let none : Pair = record { invoke = 0; outcome = None } in
    c.in_ok-push_normal.ensures
    ∙ (λ k. c.loop-pair.invariant k ++ c.shown.ensures k)
    ∙ shown_more (operations c.args.history.now) c.args.pairs.now c.loop-pair.pair-index none c.loop-pair-test.true
