use Rattle.std.proofs.Common.{◌≡◌, ◌++◌, [], ◌∷◌, sym, ap, subst, ◌∙◌, map, drop, arith}
use Rattle.std.specs.List.{filter}
use Rattle.std.proofs.lemmas.List.{drop_all}
use Rattle.jh_edn.specs.View.{view, views}
use Rattle.jh_check.specs.Distinct.{Ascends, count_of, distinct_values}
use Rattle.jh_check.specs.Tallies.{is_repeated, view_tally}
use Rattle.jh_check.proofs.DistinctLemmas.{runs, runs_are_counts}
use Rattle.jh_check.proofs.ids.repeated.Goals as goal

pub returns : goal.returns
returns c =
    let first = c.in-Some.first.now in
    let others = c.in-Some.others.now in
    let parts : views c.args.ids.now ≡ view first ∷ views others = ap views c.in-Some.ensures.cases.0 in
    let found = view_tally c.loop-next.found.items in
    let id = view c.loop-next.id.now in
    let times = c.loop-next.times in
    let end : drop c.loop-next.next-index others ≡ [] = drop_all c.loop-next.next-index others (omega arith) in
    c.in_ok-push_repeated-2.ensures
    ∙ ap (λ w. found ++ filter is_repeated (runs id times (views w))) (sym end)
    ∙ sym c.loop-next.invariant.all
    ∙ ap (filter is_repeated) (runs_are_counts (view first) (views others) (subst Ascends parts c.requires))
    ∙ ap (λ w. filter is_repeated (map (λ v. (v, count_of w v)) (distinct_values w))) (sym parts)
