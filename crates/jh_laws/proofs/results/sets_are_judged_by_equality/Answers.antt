use Rattle.std.proofs.Common.{◌≡◌, ◌↔◌, List, Option, map, IsSomeAnd, sym, subst}
use Rattle.jh_edn.specs.Edn.{Edn}
use Rattle.jh_edn.specs.Normal.{normal}
use Rattle.jh_check.specs.Distinct.{set_of}
use Rattle.jh_check.specs.SetResults.{set_found, is_whole_set, result_with}
use Rattle.jh_check.specs.declared.verdict.Verdict.TheVariants.{True}
use Rattle.jh_laws.specs.EqualResults.{IsSetFound, IsWholeSet}
use Rattle.jh_laws.proofs.EqualLemmas.{true_verdict, verdict_true}
use Rattle.jh_laws.proofs.FoundLemmas.{found_parsed, whole_from, from_whole}
use Rattle.jh_laws.proofs.results.sets_are_judged_by_equality.Goals as goal

pub returns-clause-verdict : goal.returns-clause-verdict
returns-clause-verdict c = λ history read last.
    let equal = c.same_values_are_equal.ensures.equal in
    let one = c.normal_laws.ensures.one in
    let found = set_found history (set_of (map normal read)) in
    let parsed = found_parsed equal one history read last in
    subst (λ (shown : Option (List Edn)). (((result_with history shown).verdict ≡ True) ↔ IsWholeSet history read)) (sym last.shown) (
      λ valid. whole_from equal one history read last found parsed (true_verdict (is_whole_set found) valid),
      λ whole. verdict_true (is_whole_set found) (from_whole equal one history read last found parsed whole),
    )

pub returns-clause-found : goal.returns-clause-found
returns-clause-found c = λ history read last.
    subst (λ (shown : Option (List Edn)). IsSomeAnd (result_with history shown).found (IsSetFound history read)) (sym last.shown)
    (found_parsed c.same_values_are_equal.ensures.equal c.normal_laws.ensures.one history read last)
