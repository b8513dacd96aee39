-- A list of values made of a list, and back; pairs too.
use Rattle.std.proofs.Common.{◌≡◌, List, [], ◌∷◌, refl, ap}
use Rattle.jh_edn.specs.Edn.{Edn, Items, no_items, item, items_of, list_of, members_of, pairs_in}

pub list_of-items_of : (xs : List Edn) → list_of (items_of xs) ≡ xs
list_of-items_of [] = refl
list_of-items_of (x ∷ xs) = ap (λ ys. x ∷ ys) (list_of-items_of xs)

pub items_of-list_of : (xs : Items) → items_of (list_of xs) ≡ xs
items_of-list_of no_items = refl
items_of-list_of (item x xs) = ap (item x) (items_of-list_of xs)

-- the pairs of a map are those that it was made of
pub pairs_in-members_of : (ms : List (Edn × Edn)) → pairs_in (members_of ms) ≡ ms
pairs_in-members_of [] = refl
pairs_in-members_of (m ∷ ms) = ap (λ ns. m ∷ ns) (pairs_in-members_of ms)
