use Rattle.std.proofs.Common.{◌≡◌, ◌<◌, ◌≤◌, ◌∙◌, ◌++◌, List, length, get_or, take, drop, subst, sym, arith}
use Rattle.std.specs.Prelude.{Vec}
use Rattle.std.specs.List.{All}
use Rattle.std.specs.declared.alloc.Global.{Global}
use Rattle.std.proofs.lemmas.Result.{IfOk-weaker}
use Rattle.jh_txn.specs.declared.dependency.Step.{Step}
use Rattle.jh_txn.specs.declared.dependency.Why.TheVariants.{RealTime}
use Rattle.jh_txn_graph.specs.Graphs.{IsCycleOfPaths}
use Rattle.jh_txn_graph.specs.HubsInside.{BeginsBelow}
use Rattle.jh_txn_graph.specs.WalkInside.{IsLoop}
use Rattle.jh_txn_graph.proofs.HubLemmas.{begins_below, loop_turned}
use Rattle.jh_txn_graph.proofs.hubs.cycle_of.Goals as goal

pub without_hubs-requires : goal.without_hubs-requires
without_hubs-requires c =
    let first = c.in-Some.first in
    let count = c.args.count in
    let steps = c.args.steps.items in
    let at = subst (λ xs. (first < length xs) × ((d : Step) → (get_or xs first d).place < count)) c.deref.ensures.value c.in-Some.ensures in
    subst (BeginsBelow count) (sym (c.deref-in-Some.ensures.value ∙ c.rotate_left.ensures.items)) (begins_below count steps first at.0 at.1)

pub unreachable-requires : goal.unreachable-requires
unreachable-requires c =
    let none : Step = record { place = 0; why = RealTime } in
    let hubs = subst (λ xs. All (λ step. c.args.count ≤ step.place) xs) c.deref.ensures.value c.in-None.ensures in
    absurd (omega (arith, hubs c.requires.0 none c.requires.1, c.requires.2 none))

pub returns : goal.returns
returns c =
    let count = c.args.count in
    let steps = c.args.steps.items in
    let first = c.in-Some.first in
    let turned : c.deref-in-Some.result.now ≡ drop first steps ++ take first steps = c.deref-in-Some.ensures.value ∙ c.rotate_left.ensures.items in
    IfOk-weaker c.without_hubs.result
    (λ cycle. (graph : List (Vec Step Global)) → IsLoop graph c.deref-in-Some.result.now → IsCycleOfPaths graph count cycle.items)
    (λ cycle. (graph : List (Vec Step Global)) → IsLoop graph steps → IsCycleOfPaths graph count cycle.items)
    (λ cycle h graph loop. h graph (subst (IsLoop graph) (sym turned) (loop_turned graph steps first loop)))
    c.without_hubs.ensures
