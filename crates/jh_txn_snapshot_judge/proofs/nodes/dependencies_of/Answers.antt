use Rattle.std.proofs.Common.{◌<◌, length, sym, ap, ◌∙◌}
use Rattle.std.proofs.lemmas.Bool.{false≢true}
use Rattle.jh_txn.specs.Cycles.{first_place}
use Rattle.jh_txn.specs.declared.dependency.Step.{Step}
use Rattle.jh_txn.specs.declared.dependency.Why.TheVariants.{WriteRead}
use Rattle.jh_txn_snapshot_judge.proofs.NodeLemmas.{grow_push, grow_skip}
use Rattle.jh_txn_snapshot_judge.proofs.nodes.dependencies_of.Goals as goal
use Rattle.jh_txn_snapshot_judge.proofs.nodes.dependencies_of.Goals.{then-not-is_commit_of+in_ok-push, else-not-is_commit_of}

pub loop-index-preserved : goal.loop-index-preserved
loop-index-preserved c =
    let steps = c.args.steps.now in
    let i = c.loop-index.index in
    let none : Step = record { place = 0; why = WriteRead 0 0 } in
    let low : i < length steps = c.loop-index-test.true in
    let old = c.loop-index.dependencies.items in
    elim c.if-not-is_commit_of.branch [
      | then-not-is_commit_of+in_ok-push w ↦ ap (λ v. v.items) w.dependencies-is ∙ w.in_ok-push.ensures.items ∙ grow_push c.args.count steps i (first_place steps 0) none low old c.loop-index.invariant c.next_place.result w.transaction_of-place.result c.next_place.ensures (λ e. false≢true (sym w.if-not-is_commit_of.true ∙ c.is_commit_of.ensures.1 e)) w.transaction_of-place.ensures
      | else-not-is_commit_of w ↦ ap (λ v. v.items) w.dependencies-is ∙ grow_skip c.args.count steps i (first_place steps 0) none low old c.loop-index.invariant c.next_place.result c.next_place.ensures (c.is_commit_of.ensures.0 w.if-not-is_commit_of.false)
    ]
