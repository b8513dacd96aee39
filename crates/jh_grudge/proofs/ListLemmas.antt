-- Lists of nodes: what a distinct list says of its places.
use Rattle.std.proofs.Common.{◌≡◌, ◌≢◌, ℕ, zero, suc, ◌+◌, ◌<◌, List, [], ◌∷◌, ◌++◌, length, refl, sym, ap, ◌∙◌, ◌⊎◌, inl, inr, arith, Some}
use Rattle.std.specs.Prelude.{slice_get}
use Rattle.std.specs.List.{Contains}
use Rattle.std.proofs.lemmas.Bool.{cases_eq, cases_order}
use Rattle.std.proofs.lemmas.List.{get_or_append_left, get_or-append-add, get_or_at, get_or_default, length-append}
use Rattle.std.proofs.lemmas.List.Quantifiers.{all_pairs_push}
use Rattle.std.proofs.lemmas.Option.{slice_get-get_or, slice_get_within, get_or_from_slice_get}
use Rattle.jh_grudge.specs.Lists.{AreDistinct}

pub contains_tail : (x : ℕ) (xs : List ℕ) (a : ℕ) → Contains xs a → Contains (x ∷ xs) a
contains_tail x xs a (k, below, is) = (suc k, omega arith, is)

pub contains_cons : (x : ℕ) (xs : List ℕ) (a : ℕ) → Contains (x ∷ xs) a → (x ≡ a) ⊎ Contains xs a
contains_cons x xs a (zero, below, is) = inl is
contains_cons x xs a (suc k, below, is) = inr (k, omega arith, is)

pub contains_none : (a : ℕ) → Contains [] a → ⊥
contains_none a (k, below, is) = omega arith

-- a list has a node or not
pub contains_cases : (xs : List ℕ) (a : ℕ) → Contains xs a ⊎ ¬ Contains xs a
contains_cases [] a = inr (contains_none a)
contains_cases (x ∷ xs) a =
    elim (cases_eq x a) [
      | inl same ↦ inl (0, omega arith, same)
      | inr apart ↦ elim (contains_cases xs a) [
        | inl has ↦ inl (contains_tail x xs a has)
        | inr lacks ↦ inr (λ has. elim (contains_cons x xs a has) [ inl e ↦ apart e | inr h ↦ lacks h ])
      ]
    ]

-- a node stands at a place
pub contains_at : (xs : List ℕ) (i a : ℕ) → slice_get xs i ≡ Some a → Contains xs a
contains_at xs i a at = (i, slice_get_within xs i a at, get_or_from_slice_get xs i a a at)

pub place_of : (xs : List ℕ) (a : ℕ) → Contains xs a → (i : ℕ) × (i < length xs) × (slice_get xs i ≡ Some a)
place_of xs a (k, below, is) = (k, below, slice_get-get_or xs k a below ∙ ap Some is)

-- in a distinct list a node stands at one place only
pub one_place : (xs : List ℕ) (i j a : ℕ) → AreDistinct xs → slice_get xs i ≡ Some a → slice_get xs j ≡ Some a → i ≡ j
one_place xs i j a distinct at_i at_j =
    let here = get_or_from_slice_get xs i a 0 at_i in
    let there = get_or_from_slice_get xs j a 0 at_j in
    elim (cases_order i j) [
      | inl same ↦ same
      | inr apart ↦ elim apart [
        | inl less ↦ absurd (distinct i j 0 less (slice_get_within xs j a at_j) (here ∙ sym there))
        | inr more ↦ absurd (distinct j i 0 more (slice_get_within xs i a at_i) (there ∙ sym here))
      ]
    ]

pub distinct_none : AreDistinct []
distinct_none i j d less below = omega arith

pub distinct_push : (xs : List ℕ) (a : ℕ) → AreDistinct xs → ¬ Contains xs a → AreDistinct (xs ++ a ∷ [])
distinct_push xs a distinct lacks = all_pairs_push (λ x y. x ≢ y) xs a distinct (λ k d below same. lacks (k, below, get_or_default xs k a d below ∙ same))

-- a node that stands before itself
pub repeated : (xs ys : List ℕ) (a : ℕ) → Contains xs a → ¬ AreDistinct (xs ++ a ∷ ys)
repeated xs ys a (k, below, is) distinct =
    let long = length-append xs (a ∷ ys) in
    distinct k (length xs) a below (omega arith) (get_or_append_left xs (a ∷ ys) a k below ∙ is ∙ sym (get_or_at xs a ys a (length xs) refl))

pub distinct_tail : (x : ℕ) (xs : List ℕ) → AreDistinct (x ∷ xs) → AreDistinct xs
distinct_tail x xs distinct i j d less below = distinct (suc i) (suc j) d (omega arith) (omega arith)

pub distinct_right : (xs ys : List ℕ) → AreDistinct (xs ++ ys) → AreDistinct ys
distinct_right [] ys distinct = distinct
distinct_right (x ∷ xs) ys distinct = distinct_right xs ys (distinct_tail x (xs ++ ys) distinct)

-- two parts of a distinct list have no node in common
pub parts_apart : (xs ys : List ℕ) (a : ℕ) → AreDistinct (xs ++ ys) → Contains xs a → Contains ys a → ⊥
parts_apart [] ys a distinct left right = contains_none a left
parts_apart (x ∷ xs) ys a distinct left right =
    elim (contains_cons x xs a left) [
      | inl same ↦ (let (k, below, is) = right in let long = length-append xs ys in
          distinct 0 (suc (length xs + k)) a (omega arith) (omega arith) (same ∙ sym (get_or-append-add xs ys k a ∙ is)))
      | inr has ↦ parts_apart xs ys a (distinct_tail x (xs ++ ys) distinct) has right
    ]

distinct_left : (xs ys : List ℕ) → AreDistinct (xs ++ ys) → AreDistinct xs
distinct_left xs ys distinct i j d less below same =
    let long = length-append xs ys in
    distinct i j d less (omega arith) (get_or_append_left xs ys d i (omega arith) ∙ same ∙ sym (get_or_append_left xs ys d j below))

pub not_distinct_left : (xs ys : List ℕ) → ¬ AreDistinct xs → ¬ AreDistinct (xs ++ ys)
not_distinct_left xs ys fails distinct = fails (distinct_left xs ys distinct)
