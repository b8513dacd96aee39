use Rattle.std.proofs.Common.{◌≡◌, ◌++◌, [], ◌∷◌, sym, ap, subst, ◌∙◌, drop, arith}
use Rattle.std.proofs.lemmas.List.{append-nil, drop_all}
use Rattle.jh_edn.specs.View.{view, views}
use Rattle.jh_check.specs.Distinct.{Ascends, distinct_values}
use Rattle.jh_total_queue.proofs.TallyLemmas.{begun, begun_are_once}
use Rattle.jh_total_queue.proofs.total_queue.each_once.Goals as goal

pub returns : goal.returns
returns c =
    let first = c.in-Some.first.now in
    let others = c.in-Some.others.now in
    let parts : views c.args.values.now ≡ view first ∷ views others = ap views c.in-Some.ensures.cases.0 in
    let found = views c.loop-next.found.items in
    let end : drop c.loop-next.next-index others ≡ [] = drop_all c.loop-next.next-index others (omega arith) in
    sym (append-nil found)
    ∙ ap (λ w. found ++ begun (view c.loop-next.last.now) (views w)) (sym end)
    ∙ sym c.loop-next.invariant
    ∙ begun_are_once (view first) (views others) (subst Ascends parts c.requires)
    ∙ ap distinct_values (sym parts)
