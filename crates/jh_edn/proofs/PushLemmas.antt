-- What recurses over a list as `map` does.
use Rattle.std.proofs.Common.{◌≡◌, ℕ, ◌+◌, ◌<◌, List, [], ◌∷◌, ◌++◌, length, take, get_or, map, refl}
use Rattle.std.proofs.lemmas.List.{map_more}
use Rattle.std.proofs.lemmas.List.Recursion.{same_from_clauses}

-- one element more
pub push_from_clauses : {X Y : Type 0} (F : List X → List Y) (f : X → Y) → F [] ≡ [] → ((x : X) (xs : List X) → F (x ∷ xs) ≡ f x ∷ F xs) → (xs : List X) (i : ℕ) (d : X) → i < length xs
    → F (take (i + 1) xs) ≡ F (take i xs) ++ f (get_or xs i d) ∷ []
push_from_clauses F f none more xs i d h =
    let is = same_from_clauses F (map f) (λ x ys. f x ∷ ys) none more (λ x ys. refl) in
    rw (is (take (i + 1) xs), is (take i xs)) (map_more f xs i d h)
