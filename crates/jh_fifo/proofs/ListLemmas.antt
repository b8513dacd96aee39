-- What stands in a list, and before what.
use Rattle.std.proofs.Common.{◌≡◌, ℕ, Bool, true, false, eqb, List, [], ◌∷◌, ◌++◌, refl, sym, ap, subst, ◌∙◌, inl, inr, eq-eqb}
use Rattle.std.specs.Prelude.{◌||◌, ◌⊎◌}
use Rattle.std.specs.List.{IsDistinct, AllByRecursion}
use Rattle.std.proofs.lemmas.Bool.{false≢true, eqb-true, or_cases, or_left, or_right, false_from_ne_true}
use Rattle.std.proofs.lemmas.List.Folds.{list_any-append}
use Rattle.std.proofs.lemmas.Map.Keys.{IsDistinct-head, IsDistinct-tail, IsDistinct-cons}
use Rattle.jh_fifo.specs.Order.{has_place, PlaceStandsBefore, HasNoPlaceTwice}

pub not_both : (b : Bool) → b ≡ true → b ≡ false → ⊥
not_both b h k = false≢true (sym k ∙ h)

pub eqb_self : (n : ℕ) → eqb n n ≡ true
eqb_self n = eq-eqb n n refl

pub has_append : (xs ys : List ℕ) (x : ℕ) → has_place (xs ++ ys) x ≡ (has_place xs x || has_place ys x)
has_append xs ys x = list_any-append (λ y. eqb y x) xs ys

pub has_left : (xs ys : List ℕ) (x : ℕ) → has_place xs x ≡ true → has_place (xs ++ ys) x ≡ true
has_left xs ys x h = has_append xs ys x ∙ or_left _ _ h

pub has_right : (xs ys : List ℕ) (x : ℕ) → has_place ys x ≡ true → has_place (xs ++ ys) x ≡ true
has_right xs ys x h = has_append xs ys x ∙ or_right _ _ h

pub has_cases : (xs ys : List ℕ) (x : ℕ) → has_place (xs ++ ys) x ≡ true → (has_place xs x ≡ true) ⊎ (has_place ys x ≡ true)
has_cases xs ys x h = or_cases _ _ (sym (has_append xs ys x) ∙ h)

pub has_head : (x : ℕ) (xs : List ℕ) → has_place (x ∷ xs) x ≡ true
has_head x xs = or_left _ _ (eqb_self x)

-- at the head, or behind it
pub has_cons : (y : ℕ) (xs : List ℕ) (x : ℕ) → has_place (y ∷ xs) x ≡ true → (y ≡ x) ⊎ (has_place xs x ≡ true)
has_cons y xs x h = elim (or_cases (eqb y x) (has_place xs x) h) as (λ _. (y ≡ x) ⊎ (has_place xs x ≡ true)) [ inl e ↦ inl (eqb-true y x e) | inr e ↦ inr e ]

-- where the first one stands in it, and where the second one does
pub before_first : (xs : List ℕ) (a b : ℕ) → PlaceStandsBefore xs a b → has_place xs a ≡ true
before_first [] a b h = absurd h
before_first (x ∷ xs) a b h = elim h as (λ _. has_place (x ∷ xs) a ≡ true) [
  | inl here ↦ or_left _ _ (eq-eqb x a here.0)
  | inr there ↦ or_right (eqb x a) _ (before_first xs a b there)
]

pub before_second : (xs : List ℕ) (a b : ℕ) → PlaceStandsBefore xs a b → has_place xs b ≡ true
before_second [] a b h = absurd h
before_second (x ∷ xs) a b h = elim h as (λ _. has_place (x ∷ xs) b ≡ true) [
  | inl here ↦ or_right (eqb x b) _ here.1
  | inr there ↦ or_right (eqb x b) _ (before_second xs a b there)
]

pub before_right : (xs ys : List ℕ) (a b : ℕ) → PlaceStandsBefore ys a b → PlaceStandsBefore (xs ++ ys) a b
before_right [] ys a b h = h
before_right (x ∷ xs) ys a b h = inr (before_right xs ys a b h)

pub before_cases : (xs ys : List ℕ) (a b : ℕ) → PlaceStandsBefore (xs ++ ys) a b → PlaceStandsBefore xs a b ⊎ (((has_place xs a ≡ true) × (has_place ys b ≡ true)) ⊎ PlaceStandsBefore ys a b)
before_cases [] ys a b h = inr (inr h)
before_cases (x ∷ xs) ys a b h =
    let Goal : Type 0 = PlaceStandsBefore (x ∷ xs) a b ⊎ (((has_place (x ∷ xs) a ≡ true) × (has_place ys b ≡ true)) ⊎ PlaceStandsBefore ys a b) in
    elim h as (λ _. Goal) [
      | inl here ↦ elim (has_cases xs ys b here.1) as (λ _. Goal) [
        | inl e ↦ inl (inl (here.0, e))
        | inr e ↦ inr (inl (or_left _ _ (eq-eqb x a here.0), e))
      ]
      | inr there ↦ elim (before_cases xs ys a b there) as (λ _. Goal) [
        | inl e ↦ inl (inr e)
        | inr e ↦ elim e as (λ _. Goal) [ inl d ↦ inr (inl (or_right (eqb x a) _ d.0, d.1)) | inr d ↦ inr (inr d) ]
      ]
    ]

-- No number twice.

head_apart : (x : ℕ) (xs : List ℕ) (y : ℕ) → AllByRecursion (λ z. eqb x z ≡ false) xs → has_place xs y ≡ true → x ≡ y → ⊥
head_apart x [] y all h e = false≢true h
head_apart x (z ∷ zs) y all h e = elim (has_cons z zs y h) as (λ _. ⊥) [
  | inl is ↦ not_both _ (eq-eqb x z (e ∙ sym is)) all.0
  | inr there ↦ head_apart x zs y all.1 there e
]

all_apart : (x : ℕ) (xs : List ℕ) → (has_place xs x ≡ true → ⊥) → AllByRecursion (λ z. eqb x z ≡ false) xs
all_apart x [] none = tt
all_apart x (z ∷ zs) none = (
  false_from_ne_true _ (λ e. none (or_left _ _ (eq-eqb z x (sym (eqb-true x z e))))),
  all_apart x zs (λ h. none (or_right (eqb z x) _ h)),
)

pub once_cons : (x : ℕ) (xs : List ℕ) → (has_place xs x ≡ true → ⊥) → HasNoPlaceTwice xs → HasNoPlaceTwice (x ∷ xs)
once_cons x xs new once = IsDistinct-cons eqb x xs (all_apart x xs new) once

pub head_once : (x : ℕ) (xs : List ℕ) → HasNoPlaceTwice (x ∷ xs) → has_place xs x ≡ true → ⊥
head_once x xs once h = head_apart x xs x (IsDistinct-head eqb x xs once) h refl

pub before_itself : (xs : List ℕ) (a : ℕ) → HasNoPlaceTwice xs → PlaceStandsBefore xs a a → ⊥
before_itself [] a once h = h
before_itself (x ∷ xs) a once h = elim h as (λ _. ⊥) [
  | inl here ↦ head_apart x xs a (IsDistinct-head eqb x xs once) here.1 here.0
  | inr there ↦ before_itself xs a (IsDistinct-tail eqb x xs once) there
]

pub none_twice : HasNoPlaceTwice []
unfolding IsDistinct
none_twice = tt

pub once_if : (xs : List ℕ) → ((a : ℕ) → PlaceStandsBefore xs a a → ⊥) → HasNoPlaceTwice xs
once_if [] none = none_twice
once_if (x ∷ xs) none = IsDistinct-cons eqb x xs (all_apart x xs (λ h. none x (inl (refl, h)))) (once_if xs (λ a h. none a (inr h)))

pub before_trans : (xs : List ℕ) (a b c : ℕ) → HasNoPlaceTwice xs → PlaceStandsBefore xs a b → PlaceStandsBefore xs b c → PlaceStandsBefore xs a c
before_trans [] a b c once h k = absurd h
before_trans (x ∷ xs) a b c once h k = elim h as (λ _. PlaceStandsBefore (x ∷ xs) a c) [
  | inl here ↦ elim k as (λ _. PlaceStandsBefore (x ∷ xs) a c) [
    | inl now ↦ absurd (head_apart x xs b (IsDistinct-head eqb x xs once) here.1 now.0)
    | inr later ↦ inl (here.0, before_second xs b c later)
  ]
  | inr there ↦ elim k as (λ _. PlaceStandsBefore (x ∷ xs) a c) [
    | inl now ↦ absurd (head_apart x xs b (IsDistinct-head eqb x xs once) (before_second xs a b there) now.0)
    | inr later ↦ inr (before_trans xs a b c (IsDistinct-tail eqb x xs once) there later)
  ]
]

-- one more on the left of the cut
pub middle_shift : (front back : List ℕ) (p : ℕ) → front ++ p ∷ back ≡ (front ++ p ∷ []) ++ back
middle_shift [] back p = refl
middle_shift (x ∷ front) back p = ap (λ ys. x ∷ ys) (middle_shift front back p)

pub before_total : (xs : List ℕ) (a b : ℕ) → has_place xs a ≡ true → has_place xs b ≡ true → (a ≡ b) ⊎ (PlaceStandsBefore xs a b ⊎ PlaceStandsBefore xs b a)
before_total [] a b h k = absurd (false≢true h)
before_total (x ∷ xs) a b h k =
    let Goal : Type 0 = (a ≡ b) ⊎ (PlaceStandsBefore (x ∷ xs) a b ⊎ PlaceStandsBefore (x ∷ xs) b a) in
    elim (has_cons x xs a h) as (λ _. Goal) [
      | inl is_a ↦ elim (has_cons x xs b k) as (λ _. Goal) [ inl is_b ↦ inl (sym is_a ∙ is_b) | inr later ↦ inr (inl (inl (is_a, later))) ]
      | inr later ↦ elim (has_cons x xs b k) as (λ _. Goal) [
        | inl is_b ↦ inr (inr (inl (is_b, later)))
        | inr both ↦ elim (before_total xs a b later both) as (λ _. Goal) [
          | inl e ↦ inl e
          | inr e ↦ elim e as (λ _. Goal) [ inl d ↦ inr (inl (inr d)) | inr d ↦ inr (inr (inr d)) ]
        ]
      ]
    ]

pub one_is : (x y : ℕ) → has_place (x ∷ []) y ≡ true → x ≡ y
one_is x y h = elim (has_cons x [] y h) as (λ _. x ≡ y) [ inl e ↦ e | inr none ↦ absurd (false≢true none) ]

-- one more, at the end
pub before_push : (xs : List ℕ) (x a b : ℕ) → PlaceStandsBefore (xs ++ x ∷ []) a b → PlaceStandsBefore xs a b ⊎ ((has_place xs a ≡ true) × (x ≡ b))
before_push xs x a b h =
    let Goal : Type 0 = PlaceStandsBefore xs a b ⊎ ((has_place xs a ≡ true) × (x ≡ b)) in
    elim (before_cases xs (x ∷ []) a b h) as (λ _. Goal) [
      | inl e ↦ inl e
      | inr more ↦ elim more as (λ _. Goal) [
        | inl e ↦ inr (e.0, one_is x b e.1)
        | inr e ↦ elim e as (λ _. Goal) [ inl d ↦ absurd (false≢true d.1) | inr d ↦ absurd d ]
      ]
    ]

pub once_push : (xs : List ℕ) (x : ℕ) → HasNoPlaceTwice xs → (has_place xs x ≡ true → ⊥) → HasNoPlaceTwice (xs ++ x ∷ [])
once_push xs x once new = once_if (xs ++ x ∷ []) (λ a h. elim (before_push xs x a a h) as (λ _. ⊥) [
  | inl e ↦ before_itself xs a once e
  | inr e ↦ new (subst (λ z. has_place xs z ≡ true) (sym e.1) e.0)
])

pub tail_once : (x : ℕ) (xs : List ℕ) → HasNoPlaceTwice (x ∷ xs) → HasNoPlaceTwice xs
tail_once x xs once = IsDistinct-tail eqb x xs once
