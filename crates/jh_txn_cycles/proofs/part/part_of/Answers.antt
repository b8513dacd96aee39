use Rattle.std.proofs.Common.{◌≡◌, ◌+◌, [], ℕ, length, ap, ◌∙◌, sym, subst, arith, refl}
use Rattle.std.specs.Prelude.{slice_get, Some, unwrap_or, option_map}
use Rattle.std.proofs.lemmas.Option.{slice_get_read}
use Rattle.jh_txn.specs.declared.dependency.Step.{Step}
use Rattle.jh_txn_graph.specs.Graphs.{IsStepTo, steps_to}
use Rattle.jh_txn_cycles.proofs.PartLemmas.{rows_pushed, one_longer}
use Rattle.jh_txn_cycles.proofs.part.part_of.Goals as goal

pub loop-node-preserved : goal.loop-node-preserved
loop-node-preserved c =
    let graph = c.args.graph.now in
    let node = c.loop-node.node in
    let part = c.loop-node.part.items in
    let row = c.in_ok-steps_of.field-0 in
    let there = slice_get_read graph (length graph) node c.index-graph-node.result refl (omega arith) c.index-graph-node.is in
    let given : steps_to graph node ≡ c.index-graph-node.result.items = ap (λ r. unwrap_or (option_map (λ v. v.items) r) []) there in
    let last : (s : Step) (i : ℕ) → slice_get row.items i ≡ Some s → IsStepTo graph s (length part) = λ s i is. (
    let at = c.in_ok-steps_of.ensures i s is in
    subst (IsStepTo graph s) (sym c.loop-node.invariant.0) (at.0, subst (λ xs. slice_get xs at.0 ≡ Some s) (c.as_slice.ensures.value ∙ sym given) at.1)) in (
      ap length c.in_ok-push.ensures.items ∙ one_longer part row ∙ ap (λ n. n + 1) c.loop-node.invariant.0,
      λ s n to. rows_pushed (λ m t. IsStepTo graph t m) part row (λ m t h. c.loop-node.invariant.1 t m h) last n s (subst (λ xs. IsStepTo xs s n) c.in_ok-push.ensures.items to),
    )
