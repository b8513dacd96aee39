use Rattle.std.proofs.Common.{length, map, sym, ap, subst, ◌∙◌}
use Rattle.jh_linear.specs.SearchInside.{AreClasses, AreClassesUpTo, AreStages, AreDoneSorted}
use Rattle.jh_linear.proofs.SortedLemmas.{are_classes, are_done_sorted}
use Rattle.jh_linear.proofs.sorted_ops.sort_ops.Goals as goal

pub returns-clause-done : goal.returns-clause-done
returns-clause-done c =
    let ops = c.args.ops.now in
    let inv = c.in_ok-invocations.invocations.items in
    let ends = c.in_ok-ends.ends.items in
    let stages = c.in_ok-stages.stages.items in
    let made : AreStages inv ends stages = subst (λ e. AreStages inv e stages) c.as_slice-3.ensures.value (subst (λ i. AreStages i c.as_slice-3.result.now stages) c.as_slice-2.ensures.value c.in_ok-stages.ensures) in
    subst (λ numbers. AreDoneSorted ops numbers stages) (sym (c.in_ok-arrivals.ensures ∙ ap (map (λ x. x.1)) c.as_slice.ensures.value))
    (are_done_sorted ops inv ends stages c.in_ok-invocations.ensures.entries c.in_ok-invocations.ensures.rises c.in_ok-ends.ensures.entries c.in_ok-ends.ensures.rises made)

pub returns-clause-classes : goal.returns-clause-classes
returns-clause-classes c =
    let ops = c.args.ops.now in
    let entries = c.in_ok-entries.entries.items in
    let classes = c.in_ok-classes.classes.items in
    let runs : AreClassesUpTo entries classes (length entries) = subst (λ e. AreClassesUpTo e classes (length e)) c.as_slice-5.ensures.value c.in_ok-classes.ensures in
    subst (λ numbers. AreClasses ops numbers classes) (sym (c.in_ok-unsure_changes.ensures ∙ ap (map (λ x. x.2)) c.as_slice-4.ensures.value)) (are_classes ops entries classes c.in_ok-entries.ensures runs)
