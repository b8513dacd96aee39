use Rattle.std.proofs.Common.{◌<◌, ℕ, List, length, map, sym, ap, subst, ◌∙◌, arith}
use Rattle.std.specs.List.{All, flat_map}
use Rattle.jh_unique.specs.Lists.{members_in}
use Rattle.jh_unique.proofs.ListsLemmas.{members_past}
use Rattle.jh_unique.proofs.KeyLemmas.{in_order}
use Rattle.jh_unique.proofs.JudgeLemmas.{clusters_low}
use Rattle.jh_unique.proofs.flat.laid_out.Goals as goal

pub flat_of-requires : goal.flat_of-requires
flat_of-requires c =
    let lists = c.args.lists.now in
    let e = c.in_ok-clusters.ensures {u = tt} in
    let some : 0 < length lists = omega (arith, c.requires) in
    subst (All (λ k. k < length lists)) (sym (c.as_slice.ensures.value ∙ e.3)) (clusters_low c.args.ops.now (members_in lists) (length lists) some e.0 e.1)

pub returns : goal.returns
returns c = λ initial are.
    let ops = c.args.ops.now in
    let lists = c.args.lists.now in
    let e = c.in_ok-clusters.ensures {u = tt} in
    let rest : List ℕ = map (λ x. x.1) e.0 in (
      rest,
      in_order ops (members_in lists) initial are (length lists) (λ k low. members_past lists k low) e.0 e.1 e.2,
      c.in_ok-flat.ensures ∙ ap (flat_map (members_in lists)) (c.as_slice.ensures.value ∙ e.3),
    )
