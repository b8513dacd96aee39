use Rattle.std.proofs.Common.{refl}
use Rattle.jh_txn.specs.declared.dependency.Step.{Step}
use Rattle.jh_txn.specs.declared.dependency.Why.TheVariants.{WriteRead}
use Rattle.jh_txn_findings.specs.Found.{IsFoundStep}
use Rattle.jh_check.proofs.ShownLemmas.{all_zip_more}
use Rattle.jh_txn_findings.proofs.steps.found_steps.Goals as goal

pub loop-step-preserved : goal.loop-step-preserved
loop-step-preserved c =
    let none : Step = record { place = 0; why = WriteRead 0 0 } in
    rw c.in_ok-push.ensures.items
    (all_zip_more (IsFoundStep c.args.keys.now c.args.elements.now) c.args.steps.now c.loop-step.found.items c.loop-step.step-index none _
    c.loop-step-test.true c.loop-step.invariant (refl, c.in_ok-why.ensures))
