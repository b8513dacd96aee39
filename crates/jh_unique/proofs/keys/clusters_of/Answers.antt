use Rattle.std.proofs.Common.{◌∷◌, ◌++◌, [], length, ap, ◌∙◌}
use Rattle.jh_unique.specs.Lists.{members_in}
use Rattle.jh_unique.specs.Keys.{HasClusterKey}
use Rattle.jh_unique.proofs.SortedLemmas.{keyed_moved}
use Rattle.jh_unique.proofs.keys.clusters_of.Goals as goal

pub returns : goal.returns
returns c =
    let s = c.in_ok-later.ensures {u = tt} in
    let key = HasClusterKey c.args.ops.now (members_in c.args.lists.now) in
    (s.0, keyed_moved key 1 (length c.args.lists.now) c.in_ok-entries.entries.items s.0 s.1 c.in_ok-entries.ensures, s.2, c.in_ok-extend_from_slice.ensures.items ∙ ap (λ xs. xs ++ c.as_slice.result.now) (c.in_ok-push.ensures.items ∙ ap (λ xs. xs ++ 0 ∷ []) c.new-clusters.ensures.items) ∙ ap (λ ys. 0 ∷ ys) (c.as_slice.ensures.value ∙ s.3))
