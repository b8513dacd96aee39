use Rattle.std.proofs.Common.{◌≡◌, length, sym, subst, ◌∙◌, arith}
use Rattle.std.proofs.lemmas.List.{take_at}
use Rattle.jh_txn.specs.declared.model.ConsistencyModel.TheVariants.{Serializable}
use Rattle.jh_txn_edges.specs.Inside.{AddsSteps}
use Rattle.jh_txn_graph.specs.Graphs.{IsClosed}
use Rattle.jh_txn_judge.proofs.PathLemmas.{closed}
use Rattle.jh_txn_points.specs.PointGraph.{IsPointGraphOf}
use Rattle.jh_txn_points.specs.PointSteps.{IsAnyHubStep, IsAnyUnreadPointStep, IsCommitStep, IsKeptStep}
use Rattle.jh_txn_points.proofs.PointStepLemmas.{four_added}
use Rattle.jh_txn_seen.specs.Middles.{AreMiddlesOf}
use Rattle.jh_txn_seen.proofs.KnownLemmas.{longest_below, writer_keys_below, writers_below}
use Rattle.jh_txn_seen.proofs.ReadLemmas.{read_key_below}
use Rattle.jh_txn_points.proofs.graph.points_of.Goals as goal

pub graph_of-requires-clause-writers : goal.graph_of-requires-clause-writers
graph_of-requires-clause-writers c = writers_below c.args.txns.now (length c.args.longest.now) c.args.elements c.args.writers.now c.requires.numbered c.requires.writers

pub graph_of-requires-clause-writer_keys : goal.graph_of-requires-clause-writer_keys
graph_of-requires-clause-writer_keys c = writer_keys_below c.args.txns.now (length c.args.longest.now) c.args.elements c.args.writers.now c.requires.numbered c.requires.writers

pub graph_of-requires-clause-elements : goal.graph_of-requires-clause-elements
graph_of-requires-clause-elements c = longest_below c.args.txns.now (length c.args.longest.now) c.args.elements c.args.writers.now c.requires.numbered c.requires.writers c.args.reads.now c.requires.reads c.args.longest.now c.requires.longest

pub marks_of_read-requires : goal.marks_of_read-requires
marks_of_read-requires c = longest_below c.args.txns.now (length c.args.longest.now) c.args.elements c.args.writers.now c.requires.numbered c.requires.writers c.args.reads.now c.requires.reads c.args.longest.now c.requires.longest

pub add_kept_steps-requires-clause-closed : goal.add_kept_steps-requires-clause-closed
add_kept_steps-requires-clause-closed c =
    subst IsClosed (sym c.deref-2.ensures.value) (closed c.args.txns.now c.args.elements c.args.writers.now c.args.reads.now c.args.there.now c.args.longest.now c.args.real_time c.in_ok-edges.edges.items c.requires.numbered c.requires.writers c.requires.reads c.requires.there c.requires.longest c.requires.good c.requires.ends c.in_ok-edges.ensures Serializable)

pub add_hub_steps-requires-clause-reads : goal.add_hub_steps-requires-clause-reads
add_hub_steps-requires-clause-reads c = read_key_below c.args.txns.now c.args.reads.now (length c.args.longest.now) c.requires.reads c.requires.numbered.keys_below

pub add_unread_steps-requires-clause-writers : goal.add_unread_steps-requires-clause-writers
add_unread_steps-requires-clause-writers c = writers_below c.args.txns.now (length c.args.longest.now) c.args.elements c.args.writers.now c.requires.numbered c.requires.writers

pub add_unread_steps-requires-clause-keys : goal.add_unread_steps-requires-clause-keys
add_unread_steps-requires-clause-keys c = writer_keys_below c.args.txns.now (length c.args.longest.now) c.args.elements c.args.writers.now c.requires.numbered c.requires.writers

pub returns : goal.returns
returns c =
    let txns = c.args.txns.now in
    let writers = c.args.writers.now in
    let there = c.args.there.now in
    let reads = c.args.reads.now in
    let longest = c.args.longest.now in
    let count = length txns in
    let keys = length longest in
    let edges = c.in_ok-edges.edges.items in
    let marks = c.in_ok-marks.marks.items in
    let middles = c.in_ok-middles.middles.items in
    let base = c.add_nodes.new.graph.items in
    let n = c.add_nodes.new.graph.len in
    let one = c.add_kept_steps.new.graph in
    let two = c.add_commit_steps.new.graph in
    let three = c.add_hub_steps.new.graph in
    let new = c.add_unread_steps.new.graph in
    let kept_one : length one ≡ n = omega arith in
    let kept_two : length two ≡ n = omega arith in
    let kept_three : length three ≡ n = omega arith in
    let kept_new : length new ≡ n = omega arith in
    let a : AddsSteps (IsKeptStep count keys edges) base one = subst (λ g. AddsSteps (IsKeptStep count keys edges) g one) c.deref_mut.ensures.value (subst (λ es. AddsSteps (IsKeptStep count keys es) c.deref_mut.result.now one) c.deref-2.ensures.value c.in_ok-add_kept_steps.ensures) in
    let b : AddsSteps (IsCommitStep count) one two = subst (λ g. AddsSteps (IsCommitStep count) g two) (c.deref_mut-2.ensures.value ∙ take_at one _ n kept_one) c.in_ok-add_commit_steps.ensures in
    let d : AddsSteps (IsAnyHubStep count longest reads) two three = subst (λ g. AddsSteps (IsAnyHubStep count longest reads) g three) (c.deref_mut-3.ensures.value ∙ take_at two _ n kept_two) c.in_ok-add_hub_steps.ensures in
    let e : AddsSteps (IsAnyUnreadPointStep count writers there marks longest middles) three new =
    subst (λ g. AddsSteps (IsAnyUnreadPointStep count writers there marks longest middles) g new) (c.deref_mut-4.ensures.value ∙ take_at three _ n kept_three)
    (subst (λ ms. AddsSteps (IsAnyUnreadPointStep count writers there marks longest ms) c.deref_mut-4.result.now new) c.deref-4.ensures.value
    (subst (λ ms. AddsSteps (IsAnyUnreadPointStep count writers there ms longest c.deref-4.result.now) c.deref_mut-4.result.now new) c.deref-3.ensures.value c.in_ok-add_unread_steps.ensures)) in
    subst (IsPointGraphOf txns writers there reads longest c.args.real_time) (sym (take_at new _ n kept_new)) (record {
      edges = edges;
      of_txns = c.in_ok-edges.ensures;
      marks = marks;
      read = c.in_ok-marks.ensures.read;
      middles = middles;
      middle = subst (λ ms. AreMiddlesOf txns ms longest reads (length reads) middles) c.deref.ensures.value c.in_ok-middles.ensures;
      count = omega (arith, kept_new, c.in_ok-add_nodes.ensures.count, c.in_ok-graph.ensures.count, c.len.ensures);
      steps = four_added (IsKeptStep count keys edges) (IsCommitStep count) (IsAnyHubStep count longest reads) (IsAnyUnreadPointStep count writers there marks longest middles) base one two three new
          (λ node. c.in_ok-add_nodes.ensures.none node ∙ c.in_ok-graph.ensures.none node) a b d e;
    })
