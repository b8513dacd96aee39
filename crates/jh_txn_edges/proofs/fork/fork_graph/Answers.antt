use Rattle.std.proofs.Common.{◌≡◌, ℕ, length, sym, ap, subst, ◌∙◌, arith}
use Rattle.std.specs.Prelude.{◌↔◌, ◌⊎◌}
use Rattle.std.proofs.lemmas.List.{take_at}
use Rattle.jh_txn.specs.declared.dependency.Why.{Why}
use Rattle.jh_txn_graph.specs.Graphs.{HasStep}
use Rattle.jh_txn_edges.specs.Graph.{IsWholeReadStep}
use Rattle.jh_txn_edges.specs.Inside.{AddsSteps}
use Rattle.jh_txn_edges.proofs.GraphLemmas.{only_added}
use Rattle.jh_txn_edges.proofs.StepLemmas.{EitherStep}
use Rattle.jh_txn_edges.proofs.fork.fork_graph.Goals as goal

pub returns-clause-count : goal.returns-clause-count
returns-clause-count c =
    let new = c.add_both.new.graph in
    let kept : length new ≡ c.in_ok-graph.graph.len = omega arith in
    ap length (take_at new _ c.in_ok-graph.graph.len kept) ∙ omega (arith, kept, c.in_ok-graph.ensures.count)

pub returns-clause-steps : goal.returns-clause-steps
returns-clause-steps c =
    let new = c.add_both.new.graph in
    let kept : length new ≡ c.in_ok-graph.graph.len = omega arith in
    let One = IsWholeReadStep c.args.writers.now c.args.there.now c.args.one.now in
    let Other = IsWholeReadStep c.args.writers.now c.args.there.now c.args.other.now in
    subst (λ g. (p : ℕ) (w : Why) (t : ℕ) → HasStep g p w t ↔ (One p w t ⊎ Other p w t)) (sym (take_at new _ c.in_ok-graph.graph.len kept))
    (only_added (EitherStep One Other) c.in_ok-graph.graph.items new c.in_ok-graph.ensures.none (subst (λ g. AddsSteps (EitherStep One Other) g new) c.deref_mut.ensures.value c.in_ok-add_both.ensures))
