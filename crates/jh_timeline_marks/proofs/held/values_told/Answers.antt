use Rattle.std.proofs.Common.{◌≡◌, ◌∙◌, List, Option, ℤ, map, rules, subst}
use Rattle.std.specs.Prelude.{IfOk}
use Rattle.std.proofs.lemmas.Iterator.{YieldsList-from_map, YieldsList-from_slice, items_from_collect}
use Rattle.std.proofs.lemmas.Iterator.Consumers.{YieldsList-at}
use Rattle.jh_ops.specs.Operation.{operations}
use Rattle.jh_ops.specs.declared.pairs.Pair.{Pair}
use Rattle.jh_timeline_marks.specs.Marked.{value_told}
use Rattle.jh_timeline_marks.proofs.held.values_told.Goals as goal

pub returns : goal.returns
returns c =
    let told : Pair → Option ℤ = value_told (operations c.args.history.now) in
    subst (λ (pairs : List Pair). IfOk c.collect.result (λ values. values.items ≡ map told pairs)) (c.deref.ensures.value ∙ c.in_ok-pairs.ensures)
    (items_from_collect _ c.collect.ensures.ran
    (YieldsList-from_map _ told
    (YieldsList-at c.map.ensures.source (YieldsList-from_slice c.deref.result.now c.iter.ensures.rest))
    c.map.ensures.closure (λ x r q k. search rules)))
