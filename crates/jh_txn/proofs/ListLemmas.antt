-- What stands in a list, and before what.
use Rattle.std.proofs.Common.{◌≡◌, ℕ, zero, suc, ◌+◌, ◌<◌, Bool, true, false, eqb, List, [], ◌∷◌, ◌++◌, length, take, drop, get_or, refl, sym, ap, subst, ◌∙◌, inl, inr, arith, eq-eqb}
use Rattle.std.specs.Prelude.{◌||◌, ◌⊎◌}
use Rattle.std.specs.List.{IsDistinct, AllByRecursion, flat_map}
use Rattle.std.proofs.lemmas.Bool.{false≢true, eqb-true, cases_Bool, or_cases, or_left, or_right, false_from_ne_true}
use Rattle.std.proofs.lemmas.List.{take-append-drop, drop_more}
use Rattle.std.proofs.lemmas.List.Folds.{list_any-append}
use Rattle.std.proofs.lemmas.Map.Keys.{IsDistinct-head, IsDistinct-tail, IsDistinct-cons}
use Rattle.jh_txn.specs.Transactions.{ComesBefore, HasNoRepeat, includes}

pub not_both : (b : Bool) → b ≡ true → b ≡ false → ⊥
not_both b h k = false≢true (sym k ∙ h)

pub eqb_self : (n : ℕ) → eqb n n ≡ true
eqb_self n = eq-eqb n n refl

pub includes_append : (xs ys : List ℕ) (x : ℕ) → includes (xs ++ ys) x ≡ (includes xs x || includes ys x)
includes_append xs ys x = list_any-append (λ y. eqb y x) xs ys

pub includes_left : (xs ys : List ℕ) (x : ℕ) → includes xs x ≡ true → includes (xs ++ ys) x ≡ true
includes_left xs ys x h = includes_append xs ys x ∙ or_left _ _ h

pub includes_right : (xs ys : List ℕ) (x : ℕ) → includes ys x ≡ true → includes (xs ++ ys) x ≡ true
includes_right xs ys x h = includes_append xs ys x ∙ or_right _ _ h

pub includes_cases : (xs ys : List ℕ) (x : ℕ) → includes (xs ++ ys) x ≡ true → (includes xs x ≡ true) ⊎ (includes ys x ≡ true)
includes_cases xs ys x h = or_cases _ _ (sym (includes_append xs ys x) ∙ h)

pub includes_head : (x : ℕ) (xs : List ℕ) → includes (x ∷ xs) x ≡ true
includes_head x xs = or_left _ _ (eqb_self x)

-- at the head, or behind it
pub includes_cons : (y : ℕ) (xs : List ℕ) (x : ℕ) → includes (y ∷ xs) x ≡ true → (y ≡ x) ⊎ (includes xs x ≡ true)
includes_cons y xs x h = elim (or_cases (eqb y x) (includes xs x) h) as (λ _. (y ≡ x) ⊎ (includes xs x ≡ true)) [ inl e ↦ inl (eqb-true y x e) | inr e ↦ inr e ]

pub includes_middle : (front back : List ℕ) (p : ℕ) → includes (front ++ p ∷ back) p ≡ true
includes_middle front back p = includes_right front (p ∷ back) p (includes_head p back)

pub split_at : (xs : List ℕ) (p : ℕ) → includes xs p ≡ true → (front back : List ℕ) × (xs ≡ front ++ p ∷ back)
split_at [] p h = absurd (false≢true h)
split_at (x ∷ xs) p h = elim (includes_cons x xs p h) as (λ _. (front back : List ℕ) × (x ∷ xs ≡ front ++ p ∷ back)) [
  | inl e ↦ ([], xs, ap (λ z. z ∷ xs) e)
  | inr there ↦ let r = split_at xs p there in (x ∷ r.0, r.1, ap (λ zs. x ∷ zs) r.2)
]

-- where the first one stands in it, and where the second one does
pub before_first : (xs : List ℕ) (a b : ℕ) → ComesBefore xs a b → includes xs a ≡ true
before_first [] a b h = absurd h
before_first (x ∷ xs) a b h = elim h as (λ _. includes (x ∷ xs) a ≡ true) [
  | inl here ↦ or_left _ _ (eq-eqb x a here.0)
  | inr there ↦ or_right (eqb x a) _ (before_first xs a b there)
]

pub before_second : (xs : List ℕ) (a b : ℕ) → ComesBefore xs a b → includes xs b ≡ true
before_second [] a b h = absurd h
before_second (x ∷ xs) a b h = elim h as (λ _. includes (x ∷ xs) b ≡ true) [
  | inl here ↦ or_right (eqb x b) _ here.1
  | inr there ↦ or_right (eqb x b) _ (before_second xs a b there)
]

pub before_left : (xs ys : List ℕ) (a b : ℕ) → ComesBefore xs a b → ComesBefore (xs ++ ys) a b
before_left [] ys a b h = absurd h
before_left (x ∷ xs) ys a b h = elim h as (λ _. ComesBefore (x ∷ xs ++ ys) a b) [
  | inl here ↦ inl (here.0, includes_left xs ys b here.1)
  | inr there ↦ inr (before_left xs ys a b there)
]

pub before_right : (xs ys : List ℕ) (a b : ℕ) → ComesBefore ys a b → ComesBefore (xs ++ ys) a b
before_right [] ys a b h = h
before_right (x ∷ xs) ys a b h = inr (before_right xs ys a b h)

pub before_across : (xs ys : List ℕ) (a b : ℕ) → includes xs a ≡ true → includes ys b ≡ true → ComesBefore (xs ++ ys) a b
before_across [] ys a b h k = absurd (false≢true h)
before_across (x ∷ xs) ys a b h k = elim (includes_cons x xs a h) as (λ _. ComesBefore (x ∷ xs ++ ys) a b) [
  | inl e ↦ inl (e, includes_right xs ys b k)
  | inr there ↦ inr (before_across xs ys a b there k)
]

pub before_cases : (xs ys : List ℕ) (a b : ℕ) → ComesBefore (xs ++ ys) a b → ComesBefore xs a b ⊎ (((includes xs a ≡ true) × (includes ys b ≡ true)) ⊎ ComesBefore ys a b)
before_cases [] ys a b h = inr (inr h)
before_cases (x ∷ xs) ys a b h =
    let Goal : Type 0 = ComesBefore (x ∷ xs) a b ⊎ (((includes (x ∷ xs) a ≡ true) × (includes ys b ≡ true)) ⊎ ComesBefore ys a b) in
    elim h as (λ _. Goal) [
      | inl here ↦ elim (includes_cases xs ys b here.1) as (λ _. Goal) [
        | inl e ↦ inl (inl (here.0, e))
        | inr e ↦ inr (inl (or_left _ _ (eq-eqb x a here.0), e))
      ]
      | inr there ↦ elim (before_cases xs ys a b there) as (λ _. Goal) [
        | inl e ↦ inl (inr e)
        | inr e ↦ elim e as (λ _. Goal) [ inl d ↦ inr (inl (or_right (eqb x a) _ d.0, d.1)) | inr d ↦ inr (inr d) ]
      ]
    ]

-- No number twice.

head_apart : (x : ℕ) (xs : List ℕ) (y : ℕ) → AllByRecursion (λ z. eqb x z ≡ false) xs → includes xs y ≡ true → x ≡ y → ⊥
head_apart x [] y all h e = false≢true h
head_apart x (z ∷ zs) y all h e = elim (includes_cons z zs y h) as (λ _. ⊥) [
  | inl is ↦ not_both _ (eq-eqb x z (e ∙ sym is)) all.0
  | inr there ↦ head_apart x zs y all.1 there e
]

all_apart : (x : ℕ) (xs : List ℕ) → (includes xs x ≡ true → ⊥) → AllByRecursion (λ z. eqb x z ≡ false) xs
all_apart x [] none = tt
all_apart x (z ∷ zs) none = (
  false_from_ne_true _ (λ e. none (or_left _ _ (eq-eqb z x (sym (eqb-true x z e))))),
  all_apart x zs (λ h. none (or_right (eqb z x) _ h)),
)

pub head_once : (x : ℕ) (xs : List ℕ) → HasNoRepeat (x ∷ xs) → includes xs x ≡ true → ⊥
head_once x xs once h = head_apart x xs x (IsDistinct-head eqb x xs once) h refl

pub before_itself : (xs : List ℕ) (a : ℕ) → HasNoRepeat xs → ComesBefore xs a a → ⊥
before_itself [] a once h = h
before_itself (x ∷ xs) a once h = elim h as (λ _. ⊥) [
  | inl here ↦ head_apart x xs a (IsDistinct-head eqb x xs once) here.1 here.0
  | inr there ↦ before_itself xs a (IsDistinct-tail eqb x xs once) there
]

pub none_twice : HasNoRepeat []
unfolding IsDistinct
none_twice = tt

pub once_if : (xs : List ℕ) → ((a : ℕ) → ComesBefore xs a a → ⊥) → HasNoRepeat xs
once_if [] none = none_twice
once_if (x ∷ xs) none = IsDistinct-cons eqb x xs (all_apart x xs (λ h. none x (inl (refl, h)))) (once_if xs (λ a h. none a (inr h)))

pub before_trans : (xs : List ℕ) (a b c : ℕ) → HasNoRepeat xs → ComesBefore xs a b → ComesBefore xs b c → ComesBefore xs a c
before_trans [] a b c once h k = absurd h
before_trans (x ∷ xs) a b c once h k = elim h as (λ _. ComesBefore (x ∷ xs) a c) [
  | inl here ↦ elim k as (λ _. ComesBefore (x ∷ xs) a c) [
    | inl now ↦ absurd (head_apart x xs b (IsDistinct-head eqb x xs once) here.1 now.0)
    | inr later ↦ inl (here.0, before_second xs b c later)
  ]
  | inr there ↦ elim k as (λ _. ComesBefore (x ∷ xs) a c) [
    | inl now ↦ absurd (head_apart x xs b (IsDistinct-head eqb x xs once) (before_second xs a b there) now.0)
    | inr later ↦ inr (before_trans xs a b c (IsDistinct-tail eqb x xs once) there later)
  ]
]

pub not_in_front : (front back : List ℕ) (p : ℕ) → HasNoRepeat (front ++ p ∷ back) → includes front p ≡ true → ⊥
not_in_front front back p once h = before_itself (front ++ p ∷ back) p once (before_across front (p ∷ back) p p h (includes_head p back))

pub once_left : (xs ys : List ℕ) → HasNoRepeat (xs ++ ys) → HasNoRepeat xs
once_left xs ys once = once_if xs (λ a h. before_itself (xs ++ ys) a once (before_left xs ys a a h))

-- Lists joined end to end.
module _ (f : ℕ → List ℕ) where
  pub in_flat : (ps : List ℕ) (x : ℕ) → includes (flat_map f ps) x ≡ true → (p : ℕ) × (includes ps p ≡ true) × (includes (f p) x ≡ true)
  in_flat [] x h = absurd (false≢true h)
  in_flat (p ∷ ps) x h = elim (includes_cases (f p) (flat_map f ps) x h) as (λ _. (q : ℕ) × (includes (p ∷ ps) q ≡ true) × (includes (f q) x ≡ true)) [
    | inl here ↦ (p, includes_head p ps, here)
    | inr there ↦ let r = in_flat ps x there in (r.0, or_right (eqb p r.0) _ r.1, r.2)
  ]

  pub flat_includes : (ps : List ℕ) (p x : ℕ) → includes ps p ≡ true → includes (f p) x ≡ true → includes (flat_map f ps) x ≡ true
  flat_includes [] p x h k = absurd (false≢true h)
  flat_includes (q ∷ ps) p x h k = elim (includes_cons q ps p h) as (λ _. includes (flat_map f (q ∷ ps)) x ≡ true) [
    | inl is ↦ includes_left (f q) _ x (subst (λ z. includes (f z) x ≡ true) (sym is) k)
    | inr there ↦ includes_right (f q) _ x (flat_includes ps p x there k)
  ]

  -- of one piece, or of two in this order
  pub before_flat : (ps : List ℕ) (x y : ℕ) → ComesBefore (flat_map f ps) x y
      → (p q : ℕ) × (includes (f p) x ≡ true) × (includes (f q) y ≡ true) × (ComesBefore ps p q ⊎ ((includes ps p ≡ true) × (p ≡ q) × ComesBefore (f p) x y))
  before_flat [] x y h = absurd h
  before_flat (r ∷ ps) x y h =
      let Goal : Type 0 = (p q : ℕ) × (includes (f p) x ≡ true) × (includes (f q) y ≡ true) × (ComesBefore (r ∷ ps) p q ⊎ ((includes (r ∷ ps) p ≡ true) × (p ≡ q) × ComesBefore (f p) x y)) in
      elim (before_cases (f r) (flat_map f ps) x y h) as (λ _. Goal) [
        | inl one ↦ (r, r, before_first (f r) x y one, before_second (f r) x y one, inr (includes_head r ps, refl, one))
        | inr later ↦ elim later as (λ _. Goal) [
          | inl across ↦ let d = in_flat ps y across.1 in (r, d.0, across.0, d.2, inl (inl (refl, d.1)))
          | inr there ↦
              let d = before_flat ps x y there in (
                d.0,
                d.1,
                d.2,
                d.3,
                elim d.4 as (λ _. ComesBefore (r ∷ ps) d.0 d.1 ⊎ ((includes (r ∷ ps) d.0 ≡ true) × (d.0 ≡ d.1) × ComesBefore (f d.0) x y)) [
                  | inl two ↦ inl (inr two)
                  | inr one ↦ inr (or_right (eqb r d.0) _ one.0, one.1, one.2)
                ],
              )
        ]
      ]

  pub flat_once : (ps : List ℕ) → HasNoRepeat ps → ((p : ℕ) → HasNoRepeat (f p)) → ((x p q : ℕ) → includes (f p) x ≡ true → includes (f q) x ≡ true → p ≡ q) → HasNoRepeat (flat_map f ps)
  flat_once ps once within apart = once_if (flat_map f ps) (λ x h.
      let d = before_flat ps x x h in
      let same : d.0 ≡ d.1 = apart x d.0 d.1 d.2 d.3 in
      elim d.4 as (λ _. ⊥) [
        | inl two ↦ before_itself ps d.1 once (subst (λ p. ComesBefore ps p d.1) same two)
        | inr one ↦ before_itself (f d.0) x (within d.0) one.2
      ])

pub append_nil_right : (xs : List ℕ) → xs ++ [] ≡ xs
append_nil_right [] = refl
append_nil_right (x ∷ xs) = ap (λ ys. x ∷ ys) (append_nil_right xs)

-- one more on the left of the cut
pub middle_shift : (front back : List ℕ) (p : ℕ) → front ++ p ∷ back ≡ (front ++ p ∷ []) ++ back
middle_shift [] back p = refl
middle_shift (x ∷ front) back p = ap (λ ys. x ∷ ys) (middle_shift front back p)

pub place_of : (xs : List ℕ) (p : ℕ) → includes xs p ≡ true → (i : ℕ) × (i < length xs) × (get_or xs i 0 ≡ p)
place_of [] p h = absurd (false≢true h)
place_of (x ∷ xs) p h = elim (includes_cons x xs p h) as (λ _. (i : ℕ) × (i < length (x ∷ xs)) × (get_or (x ∷ xs) i 0 ≡ p)) [
  | inl e ↦ (0, omega arith, e)
  | inr there ↦ let r = place_of xs p there in (suc r.0, omega (arith, r.1), r.2)
]

pub before_total : (xs : List ℕ) (a b : ℕ) → includes xs a ≡ true → includes xs b ≡ true → (a ≡ b) ⊎ (ComesBefore xs a b ⊎ ComesBefore xs b a)
before_total [] a b h k = absurd (false≢true h)
before_total (x ∷ xs) a b h k =
    let Goal : Type 0 = (a ≡ b) ⊎ (ComesBefore (x ∷ xs) a b ⊎ ComesBefore (x ∷ xs) b a) in
    elim (includes_cons x xs a h) as (λ _. Goal) [
      | inl is_a ↦ elim (includes_cons x xs b k) as (λ _. Goal) [ inl is_b ↦ inl (sym is_a ∙ is_b) | inr later ↦ inr (inl (inl (is_a, later))) ]
      | inr later ↦ elim (includes_cons x xs b k) as (λ _. Goal) [
        | inl is_b ↦ inr (inr (inl (is_b, later)))
        | inr both ↦ elim (before_total xs a b later both) as (λ _. Goal) [
          | inl e ↦ inl e
          | inr e ↦ elim e as (λ _. Goal) [ inl d ↦ inr (inl (inr d)) | inr d ↦ inr (inr (inr d)) ]
        ]
      ]
    ]

pub one_is : (x y : ℕ) → includes (x ∷ []) y ≡ true → x ≡ y
one_is x y h = elim (includes_cons x [] y h) as (λ _. x ≡ y) [ inl e ↦ e | inr none ↦ absurd (false≢true none) ]

-- one more, at the end
pub before_push : (xs : List ℕ) (x a b : ℕ) → ComesBefore (xs ++ x ∷ []) a b → ComesBefore xs a b ⊎ ((includes xs a ≡ true) × (x ≡ b))
before_push xs x a b h =
    let Goal : Type 0 = ComesBefore xs a b ⊎ ((includes xs a ≡ true) × (x ≡ b)) in
    elim (before_cases xs (x ∷ []) a b h) as (λ _. Goal) [
      | inl e ↦ inl e
      | inr more ↦ elim more as (λ _. Goal) [
        | inl e ↦ inr (e.0, one_is x b e.1)
        | inr e ↦ elim e as (λ _. Goal) [ inl d ↦ absurd (false≢true d.1) | inr d ↦ absurd d ]
      ]
    ]

pub once_push : (xs : List ℕ) (x : ℕ) → HasNoRepeat xs → (includes xs x ≡ true → ⊥) → HasNoRepeat (xs ++ x ∷ [])
once_push xs x once new = once_if (xs ++ x ∷ []) (λ a h. elim (before_push xs x a a h) as (λ _. ⊥) [
  | inl e ↦ before_itself xs a once e
  | inr e ↦ new (subst (λ z. includes xs z ≡ true) (sym e.1) e.0)
])

-- cut at a place
pub cut_at : (xs : List ℕ) (i : ℕ) → i < length xs → xs ≡ take i xs ++ get_or xs i 0 ∷ drop (i + 1) xs
cut_at xs i low = sym (take-append-drop i xs) ∙ ap (λ ys. take i xs ++ ys) (drop_more xs i 0 low)

pub twice_at : (xs : List ℕ) (i : ℕ) → i < length xs → includes (take i xs) (get_or xs i 0) ≡ true → HasNoRepeat xs → ⊥
twice_at xs i low h once = not_in_front (take i xs) (drop (i + 1) xs) (get_or xs i 0) (subst HasNoRepeat (cut_at xs i low) once) h

pub tail_once : (x : ℕ) (xs : List ℕ) → HasNoRepeat (x ∷ xs) → HasNoRepeat xs
tail_once x xs once = IsDistinct-tail eqb x xs once

pub twice_cases : (xs : List ℕ) → HasNoRepeat xs ⊎ (HasNoRepeat xs → ⊥)
twice_cases [] = inl none_twice
twice_cases (x ∷ xs) = elim (cases_Bool (includes xs x)) as (λ _. HasNoRepeat (x ∷ xs) ⊎ (HasNoRepeat (x ∷ xs) → ⊥)) [
  | inl again ↦ inr (λ once. head_once x xs once again)
  | inr new ↦ elim (twice_cases xs) as (λ _. HasNoRepeat (x ∷ xs) ⊎ (HasNoRepeat (x ∷ xs) → ⊥)) [
    | inl once ↦ inl (IsDistinct-cons eqb x xs (all_apart x xs (λ h. not_both _ h new)) once)
    | inr twice ↦ inr (λ once. twice (tail_once x xs once))
  ]
]

pub place_included : (xs : List ℕ) (i : ℕ) → i < length xs → includes xs (get_or xs i 0) ≡ true
place_included [] i low = absurd (omega arith)
place_included (x ∷ xs) zero low = includes_head x xs
place_included (x ∷ xs) (suc i) low = or_right (eqb x _) _ (place_included xs i (omega (arith, low)))
