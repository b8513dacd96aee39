-- Lists with one element more in the middle.
use Rattle.std.proofs.Common.{◌≡◌, ◌≢◌, ◌⊎◌, ℕ, ◌<◌, List, [], ◌∷◌, ◌++◌, length, get_or, refl, ap, ◌∙◌, sym, subst, arith, zero, suc, inl, inr, true, false, set, length-set, get_or-set_same, get_or-set_other}
use Rattle.std.specs.Prelude.{◌==◌}
use Rattle.std.proofs.lemmas.Bool.{eq-eqb, eqb-true, false≢true}
use Rattle.std.specs.List.{All, AllPairs, Contains}
use Rattle.std.proofs.lemmas.List.Elements.{All-cons, All-head, All-tail, Contains-append_left, Contains-append_right, Contains-append_cases}

module _ {X : Type 0} where
  pub all_without : (P : X → Type 0) (xs ys : List X) (x : X) → All P (xs ++ x ∷ ys) → All P (xs ++ ys)
  all_without P [] ys x all = All-tail P x ys all
  all_without P (z ∷ xs) ys x all =
      All-cons P z (xs ++ ys) (All-head P z (xs ++ x ∷ ys) all) (all_without P xs ys x (All-tail P z (xs ++ x ∷ ys) all))

  pub all_with : (P : X → Type 0) (xs ys : List X) (x : X) → P x → All P (xs ++ ys) → All P (xs ++ x ∷ ys)
  all_with P [] ys x here all = All-cons P x ys here all
  all_with P (z ∷ xs) ys x here all =
      All-cons P z (xs ++ x ∷ ys) (All-head P z (xs ++ ys) all) (all_with P xs ys x here (All-tail P z (xs ++ ys) all))

  pub all_middle : (P : X → Type 0) (xs ys : List X) (x : X) → All P (xs ++ x ∷ ys) → P x
  all_middle P [] ys x all = All-head P x ys all
  all_middle P (z ∷ xs) ys x all = all_middle P xs ys x (All-tail P z (xs ++ x ∷ ys) all)

  pub contains_middle : (xs ys : List X) (x : X) → Contains (xs ++ x ∷ ys) x
  contains_middle xs ys x = Contains-append_right xs (x ∷ ys) x (0, omega arith, refl)

  pub contains_with : (xs ys : List X) (x y : X) → Contains (xs ++ ys) y → Contains (xs ++ x ∷ ys) y
  contains_with xs ys x y among = elim (Contains-append_cases xs ys y among) as (λ _. Contains (xs ++ x ∷ ys) y) [
    | inl left ↦ Contains-append_left xs (x ∷ ys) y left
    | inr right ↦ Contains-append_right xs (x ∷ ys) y (suc right.0, omega (arith, right.1), right.2)
  ]

  head_cases : (ys : List X) (x y : X) → Contains (x ∷ ys) y → Contains ys y ⊎ (x ≡ y)
  head_cases ys x y (zero, h, is) = inr is
  head_cases ys x y (suc k, h, is) = inl (k, omega (arith, h), is)

  pub middle_cases : (xs ys : List X) (x y : X) → Contains (xs ++ x ∷ ys) y → Contains (xs ++ ys) y ⊎ (x ≡ y)
  middle_cases xs ys x y among = elim (Contains-append_cases xs (x ∷ ys) y among) as (λ _. Contains (xs ++ ys) y ⊎ (x ≡ y)) [
    | inl left ↦ inl (Contains-append_left xs ys y left)
    | inr right ↦ elim (head_cases ys x y right) as (λ _. Contains (xs ++ ys) y ⊎ (x ≡ y)) [
      | inl later ↦ inl (Contains-append_right xs ys y later)
      | inr same ↦ inr same
    ]
  ]

  pub pairs_tail : (R : X → X → Type 0) (x : X) (xs : List X) → AllPairs R (x ∷ xs) → AllPairs R xs
  pairs_tail R x xs h i j d p q = h (suc i) (suc j) d (omega (arith, p)) (omega (arith, q))

  pairs_head : (R : X → X → Type 0) (x : X) (xs : List X) → AllPairs R (x ∷ xs) → All (R x) xs
  pairs_head R x xs h k d below = h 0 (suc k) d (omega arith) (omega (arith, below))

  pairs_cons : (R : X → X → Type 0) (x : X) (xs : List X) → All (R x) xs → AllPairs R xs → AllPairs R (x ∷ xs)
  pairs_cons R x xs head tail zero zero d p q = absurd (omega (arith, p))
  pairs_cons R x xs head tail zero (suc j) d p q = head j d (omega (arith, q))
  pairs_cons R x xs head tail (suc i) zero d p q = absurd (omega (arith, p))
  pairs_cons R x xs head tail (suc i) (suc j) d p q = tail i j d (omega (arith, p)) (omega (arith, q))

  pub pairs_without : (R : X → X → Type 0) (xs ys : List X) (x : X) → AllPairs R (xs ++ x ∷ ys) → AllPairs R (xs ++ ys)
  pairs_without R [] ys x h = pairs_tail R x ys h
  pairs_without R (z ∷ xs) ys x h =
      pairs_cons R z (xs ++ ys) (all_without (R z) xs ys x (pairs_head R z (xs ++ x ∷ ys) h)) (pairs_without R xs ys x (pairs_tail R z (xs ++ x ∷ ys) h))

  -- the one in the middle stands to each other in one way or the other
  pub pairs_middle : (R : X → X → Type 0) (xs ys : List X) (x y : X) → AllPairs R (xs ++ x ∷ ys) → Contains (xs ++ ys) y → R y x ⊎ R x y
  pairs_middle R [] ys x y h among = inr (let r = pairs_head R x ys h among.0 y among.1 in subst (λ z. R x z) among.2 r)
  pairs_middle R (z ∷ xs) ys x y h (zero, below, is) = inl (subst (λ w. R w x) is (all_middle (R z) xs ys x (pairs_head R z (xs ++ x ∷ ys) h)))
  pairs_middle R (z ∷ xs) ys x y h (suc k, below, is) = pairs_middle R xs ys x y (pairs_tail R z (xs ++ x ∷ ys) h) (k, omega (arith, below), is)

  -- pairs, where one element is written over
  pub pairs_set : (R : X → X → Type 0) (xs : List X) (place : ℕ) (x : X) → place < length xs → AllPairs R xs
      → ((k : ℕ) (d : X) → k < length xs → k ≢ place → R (get_or xs k d) x × R x (get_or xs k d)) → AllPairs R (set xs place x)
  pairs_set R xs place x there h others i j d p q =
      let below : j < length xs = omega (arith, q, length-set xs place x) in
      elim (i == place) as (λ s. (i == place) ≡ s → R (get_or (set xs place x) i d) (get_or (set xs place x) j d)) [
        | true ↦ λ s.
            let here = eqb-true i place s in
            let apart : j ≢ place = (λ e. omega (arith, e, here, p)) in
            rw (here, get_or-set_same xs place x d there, get_or-set_other xs place j x d apart) (others j d below apart).1
        | false ↦ λ s.
            let other : i ≢ place = (λ e. false≢true (sym s ∙ eq-eqb i place e)) in
            elim (j == place) as (λ t. (j == place) ≡ t → R (get_or (set xs place x) i d) (get_or (set xs place x) j d)) [
              | true ↦ λ t.
                  let here = eqb-true j place t in
                  rw (here, get_or-set_same xs place x d there, get_or-set_other xs place i x d other) (others i d (omega (arith, below, p)) other).0
              | false ↦ λ t.
                  let apart : j ≢ place = (λ e. false≢true (sym t ∙ eq-eqb j place e)) in
                  rw (get_or-set_other xs place i x d other, get_or-set_other xs place j x d apart) (h i j d p below)
            ] refl
      ] refl

-- lists of one length with the same at each place are one
pub same_lists : {X : Type 0} (d : X) (xs ys : List X) → length xs ≡ length ys → ((k : ℕ) → k < length xs → get_or xs k d ≡ get_or ys k d) → xs ≡ ys
same_lists d [] [] long same = refl
same_lists d [] (y ∷ ys) long same = absurd (omega (arith, long))
same_lists d (x ∷ xs) [] long same = absurd (omega (arith, long))
same_lists d (x ∷ xs) (y ∷ ys) long same =
    ap (λ z. z ∷ xs) (same 0 (omega arith)) ∙ ap (λ zs. y ∷ zs) (same_lists d xs ys (omega (arith, long)) (λ k h. same (suc k) (omega (arith, h))))
