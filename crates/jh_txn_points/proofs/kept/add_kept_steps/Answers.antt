use Rattle.std.proofs.Common.{◌≡◌, ◌<◌, Some, length, refl, sym, ap, subst, ◌∙◌, arith}
use Rattle.std.specs.Prelude.{slice_get}
use Rattle.std.proofs.lemmas.Option.{slice_get_read}
use Rattle.jh_txn_graph.specs.Graphs.{IsStepTo, steps_to}
use Rattle.jh_txn_edges.specs.Inside.{AddsSteps}
use Rattle.jh_txn_edges.proofs.StepLemmas.{StepsBelow, adds_if, adds_more}
use Rattle.jh_txn_points.specs.Inside.{IsKeptStepTo, IsStepOfRow}
use Rattle.jh_txn_points.specs.PointSteps.{IsKeptStep}
use Rattle.jh_txn_points.proofs.PointStepLemmas.{row_of, step_to_below}
use Rattle.jh_txn_points.proofs.kept.add_kept_steps.Goals as goal

pub add_row-requires-clause-steps : goal.add_row-requires-clause-steps
add_row-requires-clause-steps c = λ index step at.
    let edges = c.args.edges.now in
    let node = c.loop-node.node in
    let row = c.index-edges-node.result in
    let low : node < length edges = c.loop-node-test.true in
    let is : slice_get edges node ≡ Some row = slice_get_read edges (length edges) node row refl low c.index-edges-node.is in
    let here : slice_get row.items index ≡ Some step = subst (λ xs. slice_get xs index ≡ Some step) c.as_slice.ensures.value at in
    let there : IsStepTo edges step node = (index, ap (λ xs. slice_get xs index) (row_of edges node row is) ∙ here) in
    omega (arith, c.requires.closed step node there, c.requires.nodes, c.loop-node.invariant.count)

pub loop-node-preserved : goal.loop-node-preserved
loop-node-preserved c =
    let edges = c.args.edges.now in
    let count = c.args.count in
    let keys = c.args.keys in
    let node = c.loop-node.node in
    let row = c.index-edges-node.result in
    let low : node < length edges = c.loop-node-test.true in
    let is : slice_get edges node ≡ Some row = slice_get_read edges (length edges) node row refl low c.index-edges-node.is in
    let same : steps_to edges node ≡ row.items = row_of edges node row is in
    let added : AddsSteps (IsStepOfRow count keys row.items node) c.loop-node.graph c.add_row.new.graph = subst (λ xs. AddsSteps (IsStepOfRow count keys xs node) c.loop-node.graph c.add_row.new.graph) c.as_slice.ensures.value c.in_ok-add_row.ensures in
    adds_more (IsKeptStepTo count keys edges) node c.args.graph.now c.loop-node.graph c.add_row.new.graph c.loop-node.invariant
    (adds_if (IsStepOfRow count keys row.items node) (IsKeptStepTo count keys edges node) c.loop-node.graph c.add_row.new.graph
    (λ p w t h. (h.1, (h.0, ap (λ xs. slice_get xs h.0) same ∙ h.2), h.3))
    (λ p w t h. (h.1.0, h.0, ap (λ xs. slice_get xs h.1.0) (sym same) ∙ h.1.1, h.2)) added)

pub returns : goal.returns
returns c =
    let edges = c.args.edges.now in
    let count = c.args.count in
    let keys = c.args.keys in
    adds_if (StepsBelow (IsKeptStepTo count keys edges) c.loop-node.node) (IsKeptStep count keys edges) c.args.graph.now c.loop-node.graph
    (λ p w t h. (h.0, h.2.0, h.2.1, h.2.2))
    (λ p w t h. (h.0, omega (arith, step_to_below edges h.1 h.0 h.2, c.loop-node-test.false), (h.1, h.2, h.3))) c.loop-node.invariant
