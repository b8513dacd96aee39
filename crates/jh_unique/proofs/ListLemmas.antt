-- What stands in a list, and before what.
use Rattle.std.proofs.Common.{◌≡◌, ℕ, zero, suc, ◌+◌, ◌<◌, Bool, true, false, eqb, List, [], ◌∷◌, ◌++◌, length, take, drop, get_or, refl, sym, ap, subst, ◌∙◌, inl, inr, arith, eq-eqb}
use Rattle.std.specs.Prelude.{◌||◌, ◌⊎◌}
use Rattle.std.specs.List.{IsDistinct, AllByRecursion, flat_map}
use Rattle.std.proofs.lemmas.Bool.{false≢true, eqb-true, cases_Bool, or_cases, or_left, or_right, false_from_ne_true}
use Rattle.std.proofs.lemmas.List.{take-append-drop, drop_more}
use Rattle.std.proofs.lemmas.List.Folds.{list_any-append}
use Rattle.std.proofs.lemmas.Map.Keys.{IsDistinct-head, IsDistinct-tail, IsDistinct-cons}
use Rattle.jh_linear.specs.Order.{has, StandBefore, HasNoneTwice}

pub not_both : (b : Bool) → b ≡ true → b ≡ false → ⊥
not_both b h k = false≢true (sym k ∙ h)

pub eqb_self : (n : ℕ) → eqb n n ≡ true
eqb_self n = eq-eqb n n refl

pub has_append : (xs ys : List ℕ) (x : ℕ) → has (xs ++ ys) x ≡ (has xs x || has ys x)
has_append xs ys x = list_any-append (λ y. eqb y x) xs ys

pub has_left : (xs ys : List ℕ) (x : ℕ) → has xs x ≡ true → has (xs ++ ys) x ≡ true
has_left xs ys x h = has_append xs ys x ∙ or_left _ _ h

pub has_right : (xs ys : List ℕ) (x : ℕ) → has ys x ≡ true → has (xs ++ ys) x ≡ true
has_right xs ys x h = has_append xs ys x ∙ or_right _ _ h

pub has_cases : (xs ys : List ℕ) (x : ℕ) → has (xs ++ ys) x ≡ true → (has xs x ≡ true) ⊎ (has ys x ≡ true)
has_cases xs ys x h = or_cases _ _ (sym (has_append xs ys x) ∙ h)

pub has_head : (x : ℕ) (xs : List ℕ) → has (x ∷ xs) x ≡ true
has_head x xs = or_left _ _ (eqb_self x)

-- at the head, or behind it
pub has_cons : (y : ℕ) (xs : List ℕ) (x : ℕ) → has (y ∷ xs) x ≡ true → (y ≡ x) ⊎ (has xs x ≡ true)
has_cons y xs x h = elim (or_cases (eqb y x) (has xs x) h) as (λ _. (y ≡ x) ⊎ (has xs x ≡ true)) [ inl e ↦ inl (eqb-true y x e) | inr e ↦ inr e ]

pub has_middle : (front back : List ℕ) (p : ℕ) → has (front ++ p ∷ back) p ≡ true
has_middle front back p = has_right front (p ∷ back) p (has_head p back)

pub split_at : (xs : List ℕ) (p : ℕ) → has xs p ≡ true → (front back : List ℕ) × (xs ≡ front ++ p ∷ back)
split_at [] p h = absurd (false≢true h)
split_at (x ∷ xs) p h = elim (has_cons x xs p h) as (λ _. (front back : List ℕ) × (x ∷ xs ≡ front ++ p ∷ back)) [
  | inl e ↦ ([], xs, ap (λ z. z ∷ xs) e)
  | inr there ↦ let r = split_at xs p there in (x ∷ r.0, r.1, ap (λ zs. x ∷ zs) r.2)
]

-- where the first one stands in it, and where the second one does
pub before_first : (xs : List ℕ) (a b : ℕ) → StandBefore xs a b → has xs a ≡ true
before_first [] a b h = absurd h
before_first (x ∷ xs) a b h = elim h as (λ _. has (x ∷ xs) a ≡ true) [
  | inl here ↦ or_left _ _ (eq-eqb x a here.0)
  | inr there ↦ or_right (eqb x a) _ (before_first xs a b there)
]

pub before_second : (xs : List ℕ) (a b : ℕ) → StandBefore xs a b → has xs b ≡ true
before_second [] a b h = absurd h
before_second (x ∷ xs) a b h = elim h as (λ _. has (x ∷ xs) b ≡ true) [
  | inl here ↦ or_right (eqb x b) _ here.1
  | inr there ↦ or_right (eqb x b) _ (before_second xs a b there)
]

pub before_left : (xs ys : List ℕ) (a b : ℕ) → StandBefore xs a b → StandBefore (xs ++ ys) a b
before_left [] ys a b h = absurd h
before_left (x ∷ xs) ys a b h = elim h as (λ _. StandBefore (x ∷ xs ++ ys) a b) [
  | inl here ↦ inl (here.0, has_left xs ys b here.1)
  | inr there ↦ inr (before_left xs ys a b there)
]

pub before_right : (xs ys : List ℕ) (a b : ℕ) → StandBefore ys a b → StandBefore (xs ++ ys) a b
before_right [] ys a b h = h
before_right (x ∷ xs) ys a b h = inr (before_right xs ys a b h)

pub before_across : (xs ys : List ℕ) (a b : ℕ) → has xs a ≡ true → has ys b ≡ true → StandBefore (xs ++ ys) a b
before_across [] ys a b h k = absurd (false≢true h)
before_across (x ∷ xs) ys a b h k = elim (has_cons x xs a h) as (λ _. StandBefore (x ∷ xs ++ ys) a b) [
  | inl e ↦ inl (e, has_right xs ys b k)
  | inr there ↦ inr (before_across xs ys a b there k)
]

pub before_cases : (xs ys : List ℕ) (a b : ℕ) → StandBefore (xs ++ ys) a b → StandBefore xs a b ⊎ (((has xs a ≡ true) × (has ys b ≡ true)) ⊎ StandBefore ys a b)
before_cases [] ys a b h = inr (inr h)
before_cases (x ∷ xs) ys a b h =
    let Goal : Type 0 = StandBefore (x ∷ xs) a b ⊎ (((has (x ∷ xs) a ≡ true) × (has ys b ≡ true)) ⊎ StandBefore ys a b) in
    elim h as (λ _. Goal) [
      | inl here ↦ elim (has_cases xs ys b here.1) as (λ _. Goal) [
        | inl e ↦ inl (inl (here.0, e))
        | inr e ↦ inr (inl (or_left _ _ (eq-eqb x a here.0), e))
      ]
      | inr there ↦ elim (before_cases xs ys a b there) as (λ _. Goal) [
        | inl e ↦ inl (inr e)
        | inr e ↦ elim e as (λ _. Goal) [ inl d ↦ inr (inl (or_right (eqb x a) _ d.0, d.1)) | inr d ↦ inr (inr d) ]
      ]
    ]

-- No number twice.

head_apart : (x : ℕ) (xs : List ℕ) (y : ℕ) → AllByRecursion (λ z. eqb x z ≡ false) xs → has xs y ≡ true → x ≡ y → ⊥
head_apart x [] y all h e = false≢true h
head_apart x (z ∷ zs) y all h e = elim (has_cons z zs y h) as (λ _. ⊥) [
  | inl is ↦ not_both _ (eq-eqb x z (e ∙ sym is)) all.0
  | inr there ↦ head_apart x zs y all.1 there e
]

all_apart : (x : ℕ) (xs : List ℕ) → (has xs x ≡ true → ⊥) → AllByRecursion (λ z. eqb x z ≡ false) xs
all_apart x [] none = tt
all_apart x (z ∷ zs) none = (
  false_from_ne_true _ (λ e. none (or_left _ _ (eq-eqb z x (sym (eqb-true x z e))))),
  all_apart x zs (λ h. none (or_right (eqb z x) _ h)),
)

pub head_once : (x : ℕ) (xs : List ℕ) → HasNoneTwice (x ∷ xs) → has xs x ≡ true → ⊥
head_once x xs once h = head_apart x xs x (IsDistinct-head eqb x xs once) h refl

pub before_itself : (xs : List ℕ) (a : ℕ) → HasNoneTwice xs → StandBefore xs a a → ⊥
before_itself [] a once h = h
before_itself (x ∷ xs) a once h = elim h as (λ _. ⊥) [
  | inl here ↦ head_apart x xs a (IsDistinct-head eqb x xs once) here.1 here.0
  | inr there ↦ before_itself xs a (IsDistinct-tail eqb x xs once) there
]

pub none_twice : HasNoneTwice []
unfolding IsDistinct
none_twice = tt

pub once_if : (xs : List ℕ) → ((a : ℕ) → StandBefore xs a a → ⊥) → HasNoneTwice xs
once_if [] none = none_twice
once_if (x ∷ xs) none = IsDistinct-cons eqb x xs (all_apart x xs (λ h. none x (inl (refl, h)))) (once_if xs (λ a h. none a (inr h)))

pub before_trans : (xs : List ℕ) (a b c : ℕ) → HasNoneTwice xs → StandBefore xs a b → StandBefore xs b c → StandBefore xs a c
before_trans [] a b c once h k = absurd h
before_trans (x ∷ xs) a b c once h k = elim h as (λ _. StandBefore (x ∷ xs) a c) [
  | inl here ↦ elim k as (λ _. StandBefore (x ∷ xs) a c) [
    | inl now ↦ absurd (head_apart x xs b (IsDistinct-head eqb x xs once) here.1 now.0)
    | inr later ↦ inl (here.0, before_second xs b c later)
  ]
  | inr there ↦ elim k as (λ _. StandBefore (x ∷ xs) a c) [
    | inl now ↦ absurd (head_apart x xs b (IsDistinct-head eqb x xs once) (before_second xs a b there) now.0)
    | inr later ↦ inr (before_trans xs a b c (IsDistinct-tail eqb x xs once) there later)
  ]
]

pub not_in_front : (front back : List ℕ) (p : ℕ) → HasNoneTwice (front ++ p ∷ back) → has front p ≡ true → ⊥
not_in_front front back p once h = before_itself (front ++ p ∷ back) p once (before_across front (p ∷ back) p p h (has_head p back))

pub once_left : (xs ys : List ℕ) → HasNoneTwice (xs ++ ys) → HasNoneTwice xs
once_left xs ys once = once_if xs (λ a h. before_itself (xs ++ ys) a once (before_left xs ys a a h))

-- Lists joined end to end.
module _ (f : ℕ → List ℕ) where
  pub in_flat : (ps : List ℕ) (x : ℕ) → has (flat_map f ps) x ≡ true → (p : ℕ) × (has ps p ≡ true) × (has (f p) x ≡ true)
  in_flat [] x h = absurd (false≢true h)
  in_flat (p ∷ ps) x h = elim (has_cases (f p) (flat_map f ps) x h) as (λ _. (q : ℕ) × (has (p ∷ ps) q ≡ true) × (has (f q) x ≡ true)) [
    | inl here ↦ (p, has_head p ps, here)
    | inr there ↦ let r = in_flat ps x there in (r.0, or_right (eqb p r.0) _ r.1, r.2)
  ]

  pub flat_has : (ps : List ℕ) (p x : ℕ) → has ps p ≡ true → has (f p) x ≡ true → has (flat_map f ps) x ≡ true
  flat_has [] p x h k = absurd (false≢true h)
  flat_has (q ∷ ps) p x h k = elim (has_cons q ps p h) as (λ _. has (flat_map f (q ∷ ps)) x ≡ true) [
    | inl is ↦ has_left (f q) _ x (subst (λ z. has (f z) x ≡ true) (sym is) k)
    | inr there ↦ has_right (f q) _ x (flat_has ps p x there k)
  ]

  -- of one piece, or of two in this order
  pub before_flat : (ps : List ℕ) (x y : ℕ) → StandBefore (flat_map f ps) x y
      → (p q : ℕ) × (has (f p) x ≡ true) × (has (f q) y ≡ true) × (StandBefore ps p q ⊎ ((has ps p ≡ true) × (p ≡ q) × StandBefore (f p) x y))
  before_flat [] x y h = absurd h
  before_flat (r ∷ ps) x y h =
      let Goal : Type 0 = (p q : ℕ) × (has (f p) x ≡ true) × (has (f q) y ≡ true) × (StandBefore (r ∷ ps) p q ⊎ ((has (r ∷ ps) p ≡ true) × (p ≡ q) × StandBefore (f p) x y)) in
      elim (before_cases (f r) (flat_map f ps) x y h) as (λ _. Goal) [
        | inl one ↦ (r, r, before_first (f r) x y one, before_second (f r) x y one, inr (has_head r ps, refl, one))
        | inr later ↦ elim later as (λ _. Goal) [
          | inl across ↦ let d = in_flat ps y across.1 in (r, d.0, across.0, d.2, inl (inl (refl, d.1)))
          | inr there ↦
              let d = before_flat ps x y there in (
                d.0,
                d.1,
                d.2,
                d.3,
                elim d.4 as (λ _. StandBefore (r ∷ ps) d.0 d.1 ⊎ ((has (r ∷ ps) d.0 ≡ true) × (d.0 ≡ d.1) × StandBefore (f d.0) x y)) [
                  | inl two ↦ inl (inr two)
                  | inr one ↦ inr (or_right (eqb r d.0) _ one.0, one.1, one.2)
                ],
              )
        ]
      ]

  pub flat_once : (ps : List ℕ) → HasNoneTwice ps → ((p : ℕ) → HasNoneTwice (f p)) → ((x p q : ℕ) → has (f p) x ≡ true → has (f q) x ≡ true → p ≡ q) → HasNoneTwice (flat_map f ps)
  flat_once ps once within apart = once_if (flat_map f ps) (λ x h.
      let d = before_flat ps x x h in
      let same : d.0 ≡ d.1 = apart x d.0 d.1 d.2 d.3 in
      elim d.4 as (λ _. ⊥) [
        | inl two ↦ before_itself ps d.1 once (subst (λ p. StandBefore ps p d.1) same two)
        | inr one ↦ before_itself (f d.0) x (within d.0) one.2
      ])

pub append_nil_right : (xs : List ℕ) → xs ++ [] ≡ xs
append_nil_right [] = refl
append_nil_right (x ∷ xs) = ap (λ ys. x ∷ ys) (append_nil_right xs)

-- one more on the left of the cut
pub middle_shift : (front back : List ℕ) (p : ℕ) → front ++ p ∷ back ≡ (front ++ p ∷ []) ++ back
middle_shift [] back p = refl
middle_shift (x ∷ front) back p = ap (λ ys. x ∷ ys) (middle_shift front back p)

pub place_of : (xs : List ℕ) (p : ℕ) → has xs p ≡ true → (i : ℕ) × (i < length xs) × (get_or xs i 0 ≡ p)
place_of [] p h = absurd (false≢true h)
place_of (x ∷ xs) p h = elim (has_cons x xs p h) as (λ _. (i : ℕ) × (i < length (x ∷ xs)) × (get_or (x ∷ xs) i 0 ≡ p)) [
  | inl e ↦ (0, omega arith, e)
  | inr there ↦ let r = place_of xs p there in (suc r.0, omega (arith, r.1), r.2)
]

pub before_total : (xs : List ℕ) (a b : ℕ) → has xs a ≡ true → has xs b ≡ true → (a ≡ b) ⊎ (StandBefore xs a b ⊎ StandBefore xs b a)
before_total [] a b h k = absurd (false≢true h)
before_total (x ∷ xs) a b h k =
    let Goal : Type 0 = (a ≡ b) ⊎ (StandBefore (x ∷ xs) a b ⊎ StandBefore (x ∷ xs) b a) in
    elim (has_cons x xs a h) as (λ _. Goal) [
      | inl is_a ↦ elim (has_cons x xs b k) as (λ _. Goal) [ inl is_b ↦ inl (sym is_a ∙ is_b) | inr later ↦ inr (inl (inl (is_a, later))) ]
      | inr later ↦ elim (has_cons x xs b k) as (λ _. Goal) [
        | inl is_b ↦ inr (inr (inl (is_b, later)))
        | inr both ↦ elim (before_total xs a b later both) as (λ _. Goal) [
          | inl e ↦ inl e
          | inr e ↦ elim e as (λ _. Goal) [ inl d ↦ inr (inl (inr d)) | inr d ↦ inr (inr (inr d)) ]
        ]
      ]
    ]

pub one_is : (x y : ℕ) → has (x ∷ []) y ≡ true → x ≡ y
one_is x y h = elim (has_cons x [] y h) as (λ _. x ≡ y) [ inl e ↦ e | inr none ↦ absurd (false≢true none) ]

-- one more, at the end
pub before_push : (xs : List ℕ) (x a b : ℕ) → StandBefore (xs ++ x ∷ []) a b → StandBefore xs a b ⊎ ((has xs a ≡ true) × (x ≡ b))
before_push xs x a b h =
    let Goal : Type 0 = StandBefore xs a b ⊎ ((has xs a ≡ true) × (x ≡ b)) in
    elim (before_cases xs (x ∷ []) a b h) as (λ _. Goal) [
      | inl e ↦ inl e
      | inr more ↦ elim more as (λ _. Goal) [
        | inl e ↦ inr (e.0, one_is x b e.1)
        | inr e ↦ elim e as (λ _. Goal) [ inl d ↦ absurd (false≢true d.1) | inr d ↦ absurd d ]
      ]
    ]

pub once_push : (xs : List ℕ) (x : ℕ) → HasNoneTwice xs → (has xs x ≡ true → ⊥) → HasNoneTwice (xs ++ x ∷ [])
once_push xs x once new = once_if (xs ++ x ∷ []) (λ a h. elim (before_push xs x a a h) as (λ _. ⊥) [
  | inl e ↦ before_itself xs a once e
  | inr e ↦ new (subst (λ z. has xs z ≡ true) (sym e.1) e.0)
])

-- cut at a number
pub cut_at : (xs : List ℕ) (i : ℕ) → i < length xs → xs ≡ take i xs ++ get_or xs i 0 ∷ drop (i + 1) xs
cut_at xs i low = sym (take-append-drop i xs) ∙ ap (λ ys. take i xs ++ ys) (drop_more xs i 0 low)

pub twice_at : (xs : List ℕ) (i : ℕ) → i < length xs → has (take i xs) (get_or xs i 0) ≡ true → HasNoneTwice xs → ⊥
twice_at xs i low h once = not_in_front (take i xs) (drop (i + 1) xs) (get_or xs i 0) (subst HasNoneTwice (cut_at xs i low) once) h

pub tail_once : (x : ℕ) (xs : List ℕ) → HasNoneTwice (x ∷ xs) → HasNoneTwice xs
tail_once x xs once = IsDistinct-tail eqb x xs once

pub twice_cases : (xs : List ℕ) → HasNoneTwice xs ⊎ (HasNoneTwice xs → ⊥)
twice_cases [] = inl none_twice
twice_cases (x ∷ xs) = elim (cases_Bool (has xs x)) as (λ _. HasNoneTwice (x ∷ xs) ⊎ (HasNoneTwice (x ∷ xs) → ⊥)) [
  | inl again ↦ inr (λ once. head_once x xs once again)
  | inr new ↦ elim (twice_cases xs) as (λ _. HasNoneTwice (x ∷ xs) ⊎ (HasNoneTwice (x ∷ xs) → ⊥)) [
    | inl once ↦ inl (IsDistinct-cons eqb x xs (all_apart x xs (λ h. not_both _ h new)) once)
    | inr twice ↦ inr (λ once. twice (tail_once x xs once))
  ]
]

pub place_has : (xs : List ℕ) (i : ℕ) → i < length xs → has xs (get_or xs i 0) ≡ true
place_has [] i low = absurd (omega arith)
place_has (x ∷ xs) zero low = has_head x xs
place_has (x ∷ xs) (suc i) low = or_right (eqb x _) _ (place_has xs i (omega (arith, low)))

pub stands_in_front : (front back : List ℕ) (p q : ℕ) → HasNoneTwice (front ++ p ∷ back) → StandBefore (front ++ p ∷ back) q p → has front q ≡ true
stands_in_front front back p q once h = elim (before_cases front (p ∷ back) q p h) as (λ _. has front q ≡ true) [
  | inl inside ↦ before_first front q p inside
  | inr more ↦ elim more as (λ _. has front q ≡ true) [
    | inl across ↦ across.0
    | inr behind ↦ absurd (twice (before_second' behind))
  ]
] where
  before_second' : StandBefore (p ∷ back) q p → has back p ≡ true
  before_second' behind = elim behind as (λ _. has back p ≡ true) [ inl now ↦ now.1 | inr later ↦ before_second back q p later ]

  twice : has back p ≡ true → ⊥
  twice later = before_itself (front ++ p ∷ back) p once (subst (λ xs. StandBefore xs p p) refl (in_back front later)) where
    in_back : (xs : List ℕ) → has back p ≡ true → StandBefore (xs ++ p ∷ back) p p
    in_back [] k = inl (refl, k)
    in_back (x ∷ xs) k = inr (in_back xs k)

pub front_before : (front rest : List ℕ) (a b : ℕ) → HasNoneTwice (front ++ rest) → StandBefore (front ++ rest) a b → has front b ≡ true → StandBefore front a b
front_before front rest a b once h here = elim (before_cases front rest a b h) as (λ _. StandBefore front a b) [
  | inl inside ↦ inside
  | inr more ↦ elim more as (λ _. StandBefore front a b) [
    | inl across ↦ absurd (before_itself (front ++ rest) b once (before_across front rest b b here across.1))
    | inr behind ↦ absurd (before_itself (front ++ rest) b once (before_across front rest b b here (before_second rest a b behind)))
  ]
]

module _ (f : ℕ → List ℕ) where
  pub flat_before_one : (ps : List ℕ) (p x y : ℕ) → has ps p ≡ true → StandBefore (f p) x y → StandBefore (flat_map f ps) x y
  flat_before_one [] p x y h k = absurd (false≢true h)
  flat_before_one (q ∷ ps) p x y h k = elim (has_cons q ps p h) as (λ _. StandBefore (flat_map f (q ∷ ps)) x y) [
    | inl is ↦ before_left (f q) (flat_map f ps) x y (subst (λ z. StandBefore (f z) x y) (sym is) k)
    | inr there ↦ before_right (f q) (flat_map f ps) x y (flat_before_one ps p x y there k)
  ]

  pub flat_before_two : (ps : List ℕ) (p q x y : ℕ) → StandBefore ps p q → has (f p) x ≡ true → has (f q) y ≡ true → StandBefore (flat_map f ps) x y
  flat_before_two [] p q x y h k l = absurd h
  flat_before_two (r ∷ ps) p q x y h k l = elim h as (λ _. StandBefore (flat_map f (r ∷ ps)) x y) [
    | inl now ↦ before_across (f r) (flat_map f ps) x y (subst (λ z. has (f z) x ≡ true) (sym now.0) k) (flat_has f ps q y now.1 l)
    | inr later ↦ before_right (f r) (flat_map f ps) x y (flat_before_two ps p q x y later k l)
  ]
