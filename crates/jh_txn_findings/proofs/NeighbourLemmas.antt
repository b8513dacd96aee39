-- Neighbours in a list, as a pass over it meets them.
use Rattle.std.proofs.Common.{◌≡◌, Bool, true, false, List, [], ◌∷◌, ◌++◌, refl, sym, ap}
use Rattle.std.specs.Prelude.{◌&&◌, ◌||◌, zip}
use Rattle.std.specs.List.{list_any}
use Rattle.jh_txn_findings.specs.NeighboursInside.{meets_two}

or_false : (b : Bool) → (b || false) ≡ b
or_false true = refl
or_false false = refl

-- two neighbours around the end, found from the front
pub meets_neighbours : {A : Type 0} (test : A → Bool) (first x : A) (xs : List A)
    → meets_two test (test x) xs (test first) ≡ list_any (λ (two : A × A). test two.0 && test two.1) (zip (x ∷ xs) (xs ++ first ∷ []))
meets_neighbours test first x [] = sym (or_false (test x && test first))
meets_neighbours test first x (y ∷ ys) = ap (λ b. (test x && test y) || b) (meets_neighbours test first y ys)
