-- What is kept of a list, as a contract sees it.
use Rattle.std.proofs.Common.{◌≡◌, Bool, true, false, cond, List, [], ◌∷◌, map, refl, ap}
use Rattle.std.specs.Prelude.{filter}

kept : {A B : Type 0} (view : A → B) (b : Bool) (x : A) (xs : List A) (ys : List B) → map view xs ≡ ys → map view (cond b (x ∷ xs) xs) ≡ cond b (view x ∷ ys) ys
kept view true x xs ys e = ap (λ ws. view x ∷ ws) e
kept view false x xs ys e = e

-- a test of what is seen keeps the same before and behind
pub map_filter : {A B : Type 0} (view : A → B) (test : B → Bool) (xs : List A) → map view (filter (λ x. test (view x)) xs) ≡ filter test (map view xs)
map_filter view test [] = refl
map_filter view test (x ∷ xs) = kept view (test (view x)) x (filter (λ y. test (view y)) xs) (filter test (map view xs)) (map_filter view test xs)
