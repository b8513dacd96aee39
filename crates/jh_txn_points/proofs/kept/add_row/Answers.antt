use Rattle.std.proofs.Common.{◌<◌, length, get_or, arith}
use Rattle.std.proofs.lemmas.Option.{slice_get-get_or}
use Rattle.jh_txn.specs.declared.dependency.Step.{Step}
use Rattle.jh_txn.specs.declared.dependency.Why.TheVariants.{WriteRead}
use Rattle.jh_txn_points.proofs.PointStepLemmas.{row_all, row_more}
use Rattle.jh_txn_points.proofs.kept.add_row.Goals as goal

pub loop-step-preserved : goal.loop-step-preserved
loop-step-preserved c =
    let row = c.args.row.now in
    let i = c.loop-step.step-index in
    let none : Step = record { place = 0; why = WriteRead 0 0 } in
    let low : i < length row = omega arith in
    row_more c.args.count c.args.keys row c.args.node i (get_or row i none) c.args.graph.now c.loop-step.graph c.add_kept_step.new.graph (slice_get-get_or row i none low) c.loop-step.invariant c.in_ok-add_kept_step.ensures

pub returns : goal.returns
returns c = row_all c.args.count c.args.keys c.args.row.now c.args.node c.loop-step.step-index c.args.graph.now c.loop-step.graph c.loop-step-test.false c.loop-step.invariant
