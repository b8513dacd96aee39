-- Texts of elements that have values, one after another.
use Rattle.std.proofs.Common.{◌≡◌, ℕ, ◌+◌, ◌<◌, eqb, List, [], ◌∷◌, ◌++◌, codes, length, take, get_or, map, refl, ap}
use Rattle.jh_edn.specs.Edn.{Edn, items_of}
use Rattle.jh_edn.specs.Print.{print, joined_text, item_texts, separator_before}
use Rattle.jh_edn.proofs.PrintLemmas.{joined_more}

pub item_texts_map : {X : Type 0} (value : X → Edn) (xs : List X) → item_texts (items_of (map value xs)) ≡ map (λ x. print (value x)) xs
item_texts_map value [] = refl
item_texts_map value (x ∷ xs) = ap (λ w. print (value x) ∷ w) (item_texts_map value xs)

-- the text of one element more
pub texts_push : {X : Type 0} (text : X → List ℕ) (xs : List X) (i : ℕ) (d : X) → i < length xs
    → joined_text (codes " ") (map text (take (i + 1) xs)) ≡ (joined_text (codes " ") (map text (take i xs)) ++ separator_before (eqb i 0) (codes " ")) ++ text (get_or xs i d)
texts_push text = joined_more (map text) text refl (λ x xs. refl) (codes " ")
