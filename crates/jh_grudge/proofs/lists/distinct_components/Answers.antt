use Rattle.std.proofs.Common.{ℕ, List, ◌++◌, false, take, subst, refl}
use Rattle.std.proofs.lemmas.Bool.{both_ways}
use Rattle.jh_grudge.specs.Lists.{AreDistinct, nodes_end_to_end}
use Rattle.jh_grudge.proofs.MetNodeLemmas.{marks_none, joined_stop}
use Rattle.jh_grudge.proofs.lists.distinct_components.Goals as goal

pub loop-component-init : goal.loop-component-init
loop-component-init c = marks_none 256

pub returns-then-not-mark_new : goal.returns-then-not-mark_new
returns-then-not-mark_new c =
    let l = c.loop-component in
    let before = nodes_end_to_end (take l.component-index c.args.components.now) in
    let fails : ¬ AreDistinct (before ++ c.component-item.result.items) =
    subst (λ (xs : List ℕ). ¬ AreDistinct (before ++ xs)) c.deref.ensures.value (c.if-not-mark_new.ensures before l.invariant) in (
      (λ e. absurd (both_ways false refl e)),
      (λ distinct. absurd (joined_stop c.args.components.now l.component-index c.component-item.result c.loop-component-test.true c.component-item.is fails distinct)),
    )
