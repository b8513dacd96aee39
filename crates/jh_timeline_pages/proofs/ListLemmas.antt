-- Texts of lists of which one element more is written; crates above cite these too.
use Rattle.std.proofs.Common.{◌≡◌, ◌∙◌, ℕ, ◌+◌, ◌<◌, ◌≤◌, List, [], ◌∷◌, ◌++◌, length, take, get_or, ap, sym, subst, append-nil, zero-add}
use Rattle.std.proofs.lemmas.List.{take_all, take_more}
use Rattle.std.proofs.lemmas.List.Concat.{flat_map-append}
use Rattle.std.proofs.lemmas.List.FromFn.{get_or-enumerate_from, length-enumerate_from}
use Rattle.std.specs.List.{enumerate_from, flat_map}

-- the text of the element at an index; the last argument but one would stand where there is none
pub flat_map_at : {X : Type 0} (f : X → List ℕ) (xs : List X) (i : ℕ) (x : X) → i < length xs
    → flat_map f (take i xs) ++ f (get_or xs i x) ≡ flat_map f (take (i + 1) xs)
flat_map_at f xs i x below =
    let before = flat_map f (take i xs) in
    sym (ap (flat_map f) (take_more xs i x below) ∙ flat_map-append f (take i xs) (get_or xs i x ∷ [])
    ∙ ap (λ w. before ++ w) (append-nil (f (get_or xs i x))))

-- the text of an element that is the one at an index
pub flat_map_next : {X : Type 0} (f : X → List ℕ) (xs : List X) (i : ℕ) (x : X) → i < length xs → x ≡ get_or xs i x
    → flat_map f (take i xs) ++ f x ≡ flat_map f (take (i + 1) xs)
flat_map_next f xs i x below same =
    let before = flat_map f (take i xs) in
    ap (λ one. before ++ f one) same ∙ flat_map_at f xs i x below

-- the same of numbered elements
pub numbered_next : {X : Type 0} (f : ℕ × X → List ℕ) (xs : List X) (i : ℕ) (x : X) → i < length xs → x ≡ get_or xs i x
    → flat_map f (take i (enumerate_from 0 xs)) ++ f (i, x) ≡ flat_map f (take (i + 1) (enumerate_from 0 xs))
numbered_next f xs i x below same =
    flat_map_next f (enumerate_from 0 xs) i (i, x) (subst (λ n. i < n) (sym (length-enumerate_from 0 xs)) below)
    (ap (λ y. (i, y)) same ∙ sym (get_or-enumerate_from 0 xs i (i, x) below ∙ ap (λ n. (n, get_or xs i x)) (zero-add i)))

-- all numbered elements
pub numbered_all : {X : Type 0} (xs : List X) (n : ℕ) → length xs ≤ n → take n (enumerate_from 0 xs) ≡ enumerate_from 0 xs
numbered_all xs n above = take_all n (enumerate_from 0 xs) (subst (λ m. m ≤ n) (sym (length-enumerate_from 0 xs)) above)
