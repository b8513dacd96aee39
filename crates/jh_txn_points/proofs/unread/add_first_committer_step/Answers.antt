use Rattle.std.proofs.Common.{◌≡◌, ◌<◌, get_or, sym, ap, subst, ◌∙◌, arith}
use Rattle.std.proofs.lemmas.Option.{same_Some, slice_get-get_or}
use Rattle.jh_txn.specs.declared.dependency.Why.TheVariants.{ReadWrite}
use Rattle.jh_txn_edges.proofs.StepLemmas.{adds_none, on_ok_then}
use Rattle.jh_txn_points.specs.PointSteps.{IsFirstCommitterStep}
use Rattle.jh_txn_points.proofs.PointStepLemmas.{first_committer_added}
use Rattle.jh_txn_seen.specs.declared.middles.Middle.{Middle}
use Rattle.jh_txn_seen.proofs.MiddleLemmas.{no_middle}
use Rattle.jh_txn_points.proofs.unread.add_first_committer_step.Goals as goal
use Rattle.jh_txn_points.proofs.unread.add_first_committer_step.Goals.{else-node-count-via-then-node-count+else-node-writer, else-node-count-via-else-node-count}

pub returns-then-node-writer : goal.returns-then-node-writer
returns-then-node-writer c =
    let middles = c.args.middles.now in
    let writer = c.args.writer.now in
    let middle = get_or middles writer.key no_middle in
    on_ok_then c.add.result _ _ (first_committer_added c.args.count c.args.graph.now c.add.new.graph middles writer middle c.in-ReadWrite.key c.in-ReadWrite.element (slice_get-get_or middles writer.key no_middle c.requires.key) c.in-ReadWrite.is c.if-node-count.true c.if-node-writer.true) c.add.ensures

pub returns-else-node-count : goal.returns-else-node-count
returns-else-node-count c =
    let middles = c.args.middles.now in
    let writer = c.args.writer.now in
    let middle = get_or middles writer.key no_middle in
    adds_none (IsFirstCommitterStep c.args.count middles writer) c.args.graph.now (λ p w t h.
    let it : h.0 ≡ middle = same_Some h.0 middle (sym h.3 ∙ slice_get-get_or middles writer.key no_middle c.requires.key) in
    let low : middle.node < c.args.count = subst (λ (m : Middle). m.node < c.args.count) it h.5 in
    elim c.else-node-count.branch [
      | else-node-count-via-then-node-count+else-node-writer v ↦ h.6 (ap (λ (m : Middle). m.node) it ∙ v.if-node-writer.false)
      | else-node-count-via-else-node-count v ↦ omega (arith, low, v.if-node-count.false)
    ])

pub returns-in_default : goal.returns-in_default
returns-in_default c =
    let middles = c.args.middles.now in
    let writer = c.args.writer.now in
    let middle = get_or middles writer.key no_middle in
    adds_none (IsFirstCommitterStep c.args.count middles writer) c.args.graph.now (λ p w t h.
    let it : h.0 ≡ middle = same_Some h.0 middle (sym h.3 ∙ slice_get-get_or middles writer.key no_middle c.requires.key) in
    let is : middle.why ≡ ReadWrite h.1 h.2 = subst (λ (m : Middle). m.why ≡ ReadWrite h.1 h.2) it h.4 in
    c.in_default.not-ReadWrite h.1 h.2 is)
