-- Facts about the text that is written of an environment.
use Rattle.std.proofs.Common.{◌≡◌, ℕ, ◌+◌, ◌<◌, List, [], ◌∷◌, ◌++◌, length, map, take, get_or, Some, None, ap, ◌∙◌, arith}
use Rattle.std.specs.Prelude.{slice_get}
use Rattle.std.proofs.lemmas.List.{map-append, take_more}
use Rattle.std.proofs.lemmas.Option.{slice_get-get_or}

-- there is an element at each place
pub at_each_place : {A : Type 0} (xs : List A) (i : ℕ) → i < length xs → slice_get xs i ≡ None → ⊥
at_each_place [] i below none = absurd (omega arith)
at_each_place (x ∷ xs) i below none = let there = slice_get-get_or (x ∷ xs) i x below in absurd cc

-- the images of one more element
pub map_more : {A B : Type 0} (f : A → B) (xs : List A) (i : ℕ) (x : A) → i < length xs → slice_get xs i ≡ Some x
    → map f (take (i + 1) xs) ≡ map f (take i xs) ++ f x ∷ []
map_more f xs i x below at =
    let there = slice_get-get_or xs i x below in
    let here : get_or xs i x ≡ x = cc in
    ap (map f) (take_more xs i x below) ∙ map-append f (take i xs) (get_or xs i x ∷ []) ∙ ap (λ y. map f (take i xs) ++ f y ∷ []) here
