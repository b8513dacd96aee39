use Rattle.std.proofs.Common.{◌≡◌, ◌+◌, Some, length, sym, ap, subst, ◌∙◌, arith}
use Rattle.std.specs.Prelude.{slice_get}
use Rattle.std.proofs.lemmas.List.{take_at}
use Rattle.jh_txn.proofs.OrderCheckLemmas.{done_below}
use Rattle.jh_txn_edges.specs.Graph.{IsGraphOf}
use Rattle.jh_txn_seen.specs.Middles.{AreMiddlesOf}
use Rattle.jh_txn_edges.specs.MiddleSteps.{IsMiddleStep}
use Rattle.jh_txn_edges.specs.Moments.{IsTimeStep}
use Rattle.jh_txn_edges.specs.Steps.{IsAlongStep, IsReadStep}
use Rattle.jh_txn_edges.specs.Inside.{AddsSteps}
use Rattle.jh_txn_edges.proofs.GraphLemmas.{graph_made, middle_low}
use Rattle.jh_txn_seen.proofs.ReadLemmas.{read_key_below}
use Rattle.jh_txn_edges.proofs.StepLemmas.{EitherStep}
use Rattle.jh_txn_edges.proofs.graph.graph_of.Goals as goal

pub add_order_steps-requires-clause-places : goal.add_order_steps-requires-clause-places
add_order_steps-requires-clause-places c = λ read one. omega (arith, done_below c.args.txns.now read.place (c.requires.reads.right read one).1.0, ap length c.deref_mut.ensures.value, c.in_ok-add_nodes-2.ensures.count, c.in_ok-add_nodes.ensures.count, c.in_ok-graph.ensures.count)

pub add_order_steps-requires-clause-keys : goal.add_order_steps-requires-clause-keys
add_order_steps-requires-clause-keys c = read_key_below c.args.txns.now c.args.reads.now (length c.args.longest.now) c.requires.reads c.requires.keys

pub add_middle_steps-requires-clause-reads : goal.add_middle_steps-requires-clause-reads
add_middle_steps-requires-clause-reads c = read_key_below c.args.txns.now c.args.reads.now (length c.args.longest.now) c.requires.reads c.requires.keys

pub add_middle_steps-requires-clause-nodes : goal.add_middle_steps-requires-clause-nodes
add_middle_steps-requires-clause-nodes c = λ key middle is.
    let low = middle_low c.args.txns.now _ c.args.longest.now c.args.reads.now (length c.args.reads.now) c.in_ok-middles.middles.items c.in_ok-middles.ensures key middle (subst (λ ms. slice_get ms key ≡ Some middle) c.deref-3.ensures.value is) in
    let kept : length c.deref_mut-2.result.now ≡ c.add_nodes-2.new.graph.len = omega arith in
    omega (arith, low, kept, c.in_ok-add_nodes-2.ensures.count, c.in_ok-add_nodes.ensures.count, c.in_ok-graph.ensures.count)

pub returns : goal.returns
returns c =
    let txns = c.args.txns.now in
    let writers = c.args.writers.now in
    let there = c.args.there.now in
    let reads = c.args.reads.now in
    let longest = c.args.longest.now in
    let marks = c.in_ok-marks.marks.items in
    let middles = c.in_ok-middles.middles.items in
    let moments = c.in_ok-moments.moments.items in
    let base = c.add_nodes-2.new.graph.items in
    let n = c.add_nodes-2.new.graph.len in
    let one = c.add_order_steps.new.graph in
    let two = c.add_middle_steps.new.graph in
    let new = c.add_time_steps.new.graph in
    let kept_one : length one ≡ n = omega arith in
    let kept_two : length two ≡ n = omega arith in
    let kept_new : length new ≡ n = omega arith in
    let first : c.len-first.result ≡ length txns + length longest = omega (arith, c.len-first.ensures, c.in_ok-add_nodes.ensures.count, c.in_ok-graph.ensures.count) in
    let a : AddsSteps (EitherStep (IsAlongStep writers longest) (IsReadStep writers longest reads)) base one = subst (λ g. AddsSteps (EitherStep (IsAlongStep writers longest) (IsReadStep writers longest reads)) g one) c.deref_mut.ensures.value c.in_ok-add_order_steps.ensures in
    let b : AddsSteps (IsMiddleStep writers there marks longest middles reads) one two =
    subst (λ g. AddsSteps (IsMiddleStep writers there marks longest middles reads) g two) (c.deref_mut-2.ensures.value ∙ take_at one _ n kept_one)
    (subst (λ ms. AddsSteps (IsMiddleStep writers there marks longest ms reads) c.deref_mut-2.result.now two) c.deref-3.ensures.value
    (subst (λ ms. AddsSteps (IsMiddleStep writers there ms longest c.deref-3.result.now reads) c.deref_mut-2.result.now two) c.deref-2.ensures.value c.in_ok-add_middle_steps.ensures)) in
    let d : AddsSteps (IsTimeStep txns there moments (length txns + length longest) c.args.real_time) two new =
    subst (λ g. AddsSteps (IsTimeStep txns there moments (length txns + length longest) c.args.real_time) g new) (c.deref_mut-3.ensures.value ∙ take_at two _ n kept_two)
    (subst (λ k. AddsSteps (IsTimeStep txns there moments k c.args.real_time) c.deref_mut-3.result.now new) first
    (subst (λ ms. AddsSteps (IsTimeStep txns there ms c.len-first.result c.args.real_time) c.deref_mut-3.result.now new) c.deref-4.ensures.value c.in_ok-add_time_steps.ensures)) in
    subst (IsGraphOf txns writers there reads longest c.args.real_time) (sym (take_at new _ n kept_new))
    (graph_made txns writers there reads longest c.args.real_time marks middles moments base one two new c.in_ok-marks.ensures.read
    (subst (λ ms. AreMiddlesOf txns ms longest reads (length reads) middles) c.deref.ensures.value c.in_ok-middles.ensures)
    c.in_ok-moments.ensures
    (omega (arith, c.in_ok-add_nodes-2.ensures.count, c.in_ok-add_nodes.ensures.count, c.in_ok-graph.ensures.count, c.len.ensures))
    (λ node. c.in_ok-add_nodes-2.ensures.none node ∙ c.in_ok-add_nodes.ensures.none node ∙ c.in_ok-graph.ensures.none node)
    a b d)
