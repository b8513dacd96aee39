use Rattle.std.proofs.Common.{ap, sym, ◌∙◌}
use Rattle.std.specs.List.{list_any}
use Rattle.std.proofs.lemmas.List.Filters.{dedup_is}
use Rattle.std.proofs.lemmas.List.Kept.{IsStrictlySortedBy-dedup}
use Rattle.std.proofs.lemmas.List.Sorted.{list_any-IsPermutation}
use Rattle.jh_test_parts.proofs.PlaceLemmas.{any_once}
use Rattle.jh_test_parts.proofs.named.sort_once.Goals as goal

pub returns-clause-order : goal.returns-clause-order
returns-clause-order g c =
    rw (dedup_is _ _ _ c.dedup.ensures.filtered) (IsStrictlySortedBy-dedup g.met.T.Ord.total g.met.T.Ord.matches_eq _ c.sort_unstable.ensures.sorted)

pub returns-clause-same : goal.returns-clause-same
returns-clause-same g c = λ x.
    ap (list_any (g.T.PartialEq.eq x)) (dedup_is _ _ _ c.dedup.ensures.filtered)
    ∙ any_once g.met.T.Eq.laws x c.sort_unstable.new.self.items
    ∙ sym (list_any-IsPermutation (g.T.PartialEq.eq x) _ _ c.sort_unstable.ensures.permutation)
