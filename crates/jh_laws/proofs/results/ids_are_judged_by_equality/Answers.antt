use Rattle.std.proofs.Common.{◌≡◌, ◌↔◌, List, map, length, codes, Contains, subst}
use Rattle.std.specs.Prelude.{◌==◌}
use Rattle.jh_edn.specs.Edn.{Edn}
use Rattle.jh_edn.specs.Normal.{normal}
use Rattle.jh_ops.specs.declared.operation.Kind.{Kind}
use Rattle.jh_check.specs.IdsResults.{duplicated_ids}
use Rattle.jh_check.specs.Verdicts.{verdict_of}
use Rattle.jh_check.specs.declared.verdict.Verdict.TheVariants.{True}
use Rattle.jh_laws.specs.EqualResults.{AreUnequal, IsRepeated, ids_given}
use Rattle.jh_laws.proofs.EqualLemmas.{held_normal, none_twice, twice_none, duplicates_parsed, true_verdict, verdict_true}
use Rattle.jh_laws.proofs.results.ids_are_judged_by_equality.Goals as goal

pub returns-clause-verdict : goal.returns-clause-verdict
returns-clause-verdict c = λ history printable.
    let equal = c.same_values_are_equal.ensures.equal in
    let one = c.normal_laws.ensures.one in
    let ids = ids_given history in
    subst (λ (values : List Edn). ((verdict_of (length (duplicated_ids values) == 0) ≡ True) ↔ AreUnequal ids)) (held_normal Kind.Ok (codes "generate") history) (
      λ valid. none_twice equal one ids printable (true_verdict (length (duplicated_ids (map normal ids)) == 0) valid),
      λ apart. verdict_true (length (duplicated_ids (map normal ids)) == 0) (twice_none equal one ids apart),
    )

pub returns-clause-duplicated : goal.returns-clause-duplicated
returns-clause-duplicated c = λ history id times printable.
    let ids = ids_given history in
    subst (λ (values : List Edn). (Contains (duplicated_ids values) (id, times) ↔ IsRepeated ids id times)) (held_normal Kind.Ok (codes "generate") history)
    (duplicates_parsed c.same_values_are_equal.ensures.equal c.normal_laws.ensures.one ids printable id times)
