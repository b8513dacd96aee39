-- The points of marked places that start and commit at once.
use Rattle.std.proofs.Common.{◌≡◌, ℕ, ◌+◌, ◌<◌, Bool, false, List, [], ◌∷◌, ◌++◌, length, take, get_or, sym, ap, ◌∙◌}
use Rattle.std.proofs.lemmas.List.Elements.{filter_more}
use Rattle.jh_txn.specs.declared.txn.Point.{Point}
use Rattle.jh_txn_snapshot_judge.specs.SerialInside.{marked_places}
use Rattle.jh_txn_snapshots.specs.AtOnce.{at_once}
use Rattle.jh_txn_snapshots.proofs.AtOnceLemmas.{at_once_append}

-- those of one place more
pub at_once_more : (there : List Bool) (places : List ℕ) (i : ℕ) (old new : List Point) → i < length places → old ≡ at_once (marked_places there (take i places)) → new ≡ old ++ at_once (marked_places there (get_or places i 0 ∷ []))
    → new ≡ at_once (marked_places there (take (i + 1) places))
at_once_more there places i old new low was is =
    let one = marked_places there (get_or places i 0 ∷ []) in
    let front = marked_places there (take i places) in
    is ∙ ap (λ points. points ++ at_once one) was ∙ sym (at_once_append front one) ∙ ap at_once (sym (filter_more (λ place. get_or there place false) places i 0 low))
