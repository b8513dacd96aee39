use Rattle.std.proofs.lemmas.List.{nil_from_length}
use Rattle.std.proofs.Common.{◌≡◌, ◌++◌, ◌∷◌, [], ◌∙◌, ap, sym, subst, rules, arith}
use Rattle.std.proofs.lemmas.List.{map_push}
use Rattle.jh_edn.specs.View.{view}
use Rattle.jh_check.specs.Distinct.{Ascends}
use Rattle.jh_independent.specs.SplitInside.{groups_in, keys_of_keyed, view_group, view_groups, view_key, view_keyed}
use Rattle.jh_independent.proofs.SameKeyLemmas.{runs, runs_are_groups}
use Rattle.jh_independent.proofs.split.grouped.Goals as goal

pub returns : goal.returns
returns c =
    let groups = view_groups c.loop-next.groups.items in
    let key = view c.loop-next.group.key in
    let places = c.loop-next.group.places.items in
    let first = c.in-Some.first in
    let others = c.into_iter-next-iterator.result.rest.items in
    let parts : c.args.keyed.items ≡ first ∷ others = search rules in
    let ended : c.loop-next.next-iterator.rest.items ≡ [] =
    nil_from_length c.loop-next.next-iterator.rest.items (omega (arith, c.in-None.ensures.steps.0, c.loop-next.next-iterator.rest.ok)) in
    let begun : view_group c.in_ok-group.group ≡ (view first.key, first.place ∷ []) = c.in_ok-group.ensures in
    ap view_groups c.in_ok-push-3.ensures.items
    ∙ map_push view_group c.loop-next.groups.items c.loop-next.group
    ∙ sym (c.loop-next.invariant ∙ ap (λ rest. groups ++ runs key places (view_keyed rest)) ended)
    ∙ ap (λ group. runs group.0 group.1 (view_keyed others)) begun
    ∙ runs_are_groups (view_key first) (view_keyed others) (subst (λ keyed. Ascends (keys_of_keyed (view_keyed keyed))) parts c.requires)
    ∙ ap (λ keyed. groups_in (view_keyed keyed)) (sym parts)
