use Rattle.std.proofs.Common.{◌≡◌, ◌<◌, ◌++◌, length, get_or, take, sym, ap, ◌∙◌, arith}
use Rattle.std.specs.List.{flat_map}
use Rattle.jh_unique.specs.Lists.{members_in}
use Rattle.jh_unique.proofs.LateLemmas.{flat_more, members_at}
use Rattle.jh_unique.proofs.flat.flat_of.Goals as goal

pub loop-cluster-preserved : goal.loop-cluster-preserved
loop-cluster-preserved c =
    let lists = c.args.lists.now in
    let cs = c.args.clusters.now in
    let i = c.loop-cluster.cluster-index in
    let low : i < length cs = omega arith in
    let at : members_in lists (get_or cs i 0) ≡ c.as_slice.result.now = members_at lists (get_or cs i 0) c.index-lists-cluster.result (c.requires i 0 low) c.index-lists-cluster.is ∙ sym c.as_slice.ensures.value in
    c.in_ok-extend_from_slice.ensures.items ∙ ap (λ xs. xs ++ c.as_slice.result.now) c.loop-cluster.invariant ∙ sym (flat_more (members_in lists) cs i low ∙ ap (λ ys. flat_map (members_in lists) (take i cs) ++ ys) at)
