use Rattle.std.proofs.Common.{◌≡◌, ◌∙◌, ap, sym, subst, rules}
use Rattle.std.proofs.lemmas.Fn.{dedup_same}
use Rattle.jh_edn.specs.View.{views}
use Rattle.jh_check.specs.Distinct.{Ascends, distinct_values}
use Rattle.jh_check.proofs.DistinctLemmas.{is_again, dedup_is_once, ascends_once}
use Rattle.jh_check.proofs.distinct.each_once.Goals as goal

once : (c : goal.After-dedup_by) → views c.dedup_by.new.self.items ≡ distinct_values (views c.args.values.items)
once c =
    ap views (dedup_same _ is_again _ (λ x y b f' x' y' k. search rules) _ _ c.dedup_by.ensures.filtered)
    ∙ dedup_is_once c.args.values.items c.requires

pub returns-clause-values : goal.returns-clause-values
returns-clause-values c = once c

pub returns-clause-ascends : goal.returns-clause-ascends
returns-clause-ascends c = subst Ascends (sym (once c)) (ascends_once (views c.args.values.items) c.requires)
