use Rattle.std.proofs.Common.{◌≡◌, ◌++◌, [], ◌∷◌, sym, ap, subst, ◌∙◌, map, drop, arith}
use Rattle.std.proofs.lemmas.List.{drop_all}
use Rattle.jh_edn.specs.View.{view, views}
use Rattle.jh_check.specs.Distinct.{Ascends}
use Rattle.jh_check.proofs.DistinctLemmas.{runs, runs_are_counts}
use Rattle.jh_set_full.specs.Inside.{counted_in_order, seen, counted_by}
use Rattle.jh_set_full.proofs.sightings.push_counted.Goals as goal

pub returns : goal.returns
returns c =
    let pair = c.args.pair in
    let before = map seen c.args.found.now.items in
    let first = c.in-Some.first.now in
    let others = c.in-Some.others.now in
    let parts : views c.args.elements.now ≡ view first ∷ views others = ap views c.in-Some.ensures.cases.0 in
    let found = map seen c.loop-next.found.items in
    let id = view c.loop-next.element.now in
    let times = c.loop-next.times in
    let end : drop c.loop-next.next-index others ≡ [] = drop_all c.loop-next.next-index others (omega arith) in
    let whole : found ++ counted_by pair (id, times) ∷ [] ≡ before ++ map (counted_by pair) (counted_in_order (views c.args.elements.now)) =
    ap (λ w. found ++ map (counted_by pair) (runs id times (views w))) (sym end)
    ∙ sym c.loop-next.invariant.all
    ∙ ap (λ w. before ++ map (counted_by pair) w) (runs_are_counts (view first) (views others) (subst Ascends parts c.requires))
    ∙ ap (λ w. before ++ map (counted_by pair) (counted_in_order w)) (sym parts) in
    c.in_ok-push_sighting-2.ensures ∙ whole
