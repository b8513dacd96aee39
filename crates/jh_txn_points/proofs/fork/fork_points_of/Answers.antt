use Rattle.std.proofs.Common.{◌≡◌, length, sym, subst, ◌∙◌, arith}
use Rattle.std.proofs.lemmas.List.{take_at}
use Rattle.jh_txn_edges.specs.Inside.{AddsSteps}
use Rattle.jh_txn_graph.specs.Graphs.{IsClosed}
use Rattle.jh_txn_points.specs.ForkGraph.{IsAnyWinStep, IsForkGraphOf}
use Rattle.jh_txn_points.specs.PointSteps.{IsCommitStep, IsKeptStep}
use Rattle.jh_txn_points.proofs.ForkStepLemmas.{edges_closed, fork_made}
use Rattle.jh_txn_points.proofs.fork.fork_points_of.Goals as goal

pub add_kept_steps-requires-clause-closed : goal.add_kept_steps-requires-clause-closed
add_kept_steps-requires-clause-closed c =
    subst IsClosed (sym c.deref.ensures.value) (edges_closed c.args.count c.args.writers.now c.args.there.now c.args.one.now c.args.other.now c.in_ok-edges.edges.items c.requires.writers c.requires.one c.requires.other c.in_ok-edges.ensures.steps c.in_ok-edges.ensures.count)

pub returns : goal.returns
returns c =
    let count = c.args.count in
    let writers = c.args.writers.now in
    let there = c.args.there.now in
    let first = c.args.one.now in
    let second = c.args.other.now in
    let edges = c.in_ok-edges.edges.items in
    let base = c.add_nodes.new.graph.items in
    let n = c.add_nodes.new.graph.len in
    let one = c.add_kept_steps.new.graph in
    let two = c.add_commit_steps.new.graph in
    let three = c.add_win_steps.new.graph in
    let new = c.add_win_steps-2.new.graph in
    let kept_one : length one ≡ n = omega arith in
    let kept_two : length two ≡ n = omega arith in
    let kept_three : length three ≡ n = omega arith in
    let kept_new : length new ≡ n = omega arith in
    let a : AddsSteps (IsKeptStep count 0 edges) base one = subst (λ g. AddsSteps (IsKeptStep count 0 edges) g one) c.deref_mut.ensures.value (subst (λ es. AddsSteps (IsKeptStep count 0 es) c.deref_mut.result.now one) c.deref.ensures.value c.in_ok-add_kept_steps.ensures) in
    let b : AddsSteps (IsCommitStep count) one two = subst (λ g. AddsSteps (IsCommitStep count) g two) (c.deref_mut-2.ensures.value ∙ take_at one _ n kept_one) c.in_ok-add_commit_steps.ensures in
    let d : AddsSteps (IsAnyWinStep count writers there first) two three = subst (λ g. AddsSteps (IsAnyWinStep count writers there first) g three) (c.deref_mut-3.ensures.value ∙ take_at two _ n kept_two) c.in_ok-add_win_steps.ensures in
    let e : AddsSteps (IsAnyWinStep count writers there second) three new = subst (λ g. AddsSteps (IsAnyWinStep count writers there second) g new) (c.deref_mut-4.ensures.value ∙ take_at three _ n kept_three) c.in_ok-add_win_steps-2.ensures in
    subst (IsForkGraphOf count writers there first second) (sym (take_at new _ n kept_new))
    (fork_made count writers there first second edges c.requires.writers c.requires.one c.requires.other c.in_ok-edges.ensures.steps base one two three new
    (λ node. c.in_ok-add_nodes.ensures.none node ∙ c.in_ok-graph.ensures.none node)
    (omega (arith, c.in_ok-add_nodes.ensures.count, c.in_ok-graph.ensures.count)) a b d e)
