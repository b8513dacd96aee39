use Rattle.std.proofs.Common.{◌≡◌, length, sym, ap, ◌∙◌, map, rules, codes}
use Rattle.std.specs.Prelude.{◌==◌}
use Rattle.std.specs.List.{filter}
use Rattle.std.proofs.lemmas.List.{length-map}
use Rattle.jh_edn.specs.Order.{in_order, is_below}
use Rattle.jh_edn.specs.View.{views, view}
use Rattle.jh_ops.specs.Operation.{operation, operations, is_asked}
use Rattle.jh_ops.specs.declared.operation.Kind.{Kind}
use Rattle.jh_check.specs.Distinct.{count_of, distinct_values}
use Rattle.jh_check.specs.Tallies.{is_repeated, view_tally, view_counted}
use Rattle.jh_check.specs.IdsResults.{given, duplicated_ids}
use Rattle.jh_check.specs.Verdicts.{verdict_of}
use Rattle.jh_check.proofs.ListLemmas.{count_by-map}
use Rattle.jh_check.proofs.DistinctLemmas.{length_in_order}
use Rattle.jh_check.proofs.SearchLemmas.{count_in_order}
use Rattle.jh_check.proofs.ids.check_unique.Goals as goal

pub returns-clause-result : goal.returns-clause-result
returns-clause-result c =
    let history = operations c.args.history.now in
    let ids = given history in
    let sorted : views c.deref.result.now ≡ in_order is_below ids = ap views c.deref.ensures.value ∙ c.in_ok-ids.ensures.values in
    let found : view_tally c.in_ok-found.found.items ≡ duplicated_ids ids =
    c.in_ok-found.ensures
    ∙ ap (λ w. filter is_repeated (map (λ v. (v, count_of w v)) (distinct_values w))) sorted
    ∙ (λ i. filter is_repeated (map (λ v. (v, count_in_order v ids i)) (distinct_values (in_order is_below ids)))) in
    let held : c.len-acknowledged.result ≡ length c.in_ok-ids.ids.items = search rules in
    let acknowledged : c.len-acknowledged.result ≡ length ids =
    held ∙ sym (length-map c.in_ok-ids.ids.items view) ∙ ap length c.in_ok-ids.ensures.values ∙ length_in_order ids in
    let none : c.is_empty.result ≡ (length c.in_ok-found.found.items == 0) = search rules in
    let verdict : c.verdict_of.result ≡ verdict_of (length (duplicated_ids ids) == 0) =
    c.verdict_of.ensures ∙ ap verdict_of (none ∙ ap (λ n. n == 0) (sym (length-map c.in_ok-found.found.items view_counted)) ∙ ap (λ w. length w == 0) found) in
    let attempted = c.attempts.ensures ∙ sym (count_by-map (is_asked Kind.Invoke (codes "generate")) operation c.args.history.now) in
    let pairs = c.of.ensures ∙ found in
    λ i. record { verdict = verdict i; attempted = attempted i; acknowledged = acknowledged i; duplicated = pairs i }
