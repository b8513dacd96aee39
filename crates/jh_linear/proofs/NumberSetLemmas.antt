-- Which numbers stand in an order, and those of a list that it lacks.
use Rattle.std.proofs.Common.{◌≡◌, ℕ, zero, suc, ◌<◌, Bool, true, false, cond, not, eqb, List, [], ◌∷◌, ◌++◌, length, take, drop, get_or, filter, refl, sym, ap, subst, ◌∙◌, inl, inr, arith, eq-eqb, ne_eqb}
use Rattle.std.specs.Prelude.{◌||◌, ◌&&◌, ◌⊎◌, ◌==◌}
use Rattle.std.specs.List.{IsDistinct, AllByRecursion, remove}
use Rattle.std.proofs.lemmas.Bool.{false≢true, eqb-true}
use Rattle.std.proofs.lemmas.List.Folds.{list_any-append}
use Rattle.std.proofs.lemmas.Map.Keys.{IsDistinct-head, IsDistinct-tail, IsDistinct-cons}
use Rattle.jh_linear.specs.Order.{has}
use Rattle.jh_linear.specs.SearchInside.{numbers_without}

pub eqb_self : (n : ℕ) → eqb n n ≡ true
eqb_self n = eq-eqb n n refl

-- cases on a test, with its equation
pub test_cases : (b : Bool) → (b ≡ true) ⊎ (b ≡ false)
test_cases b = elim b as (λ v. (v ≡ true) ⊎ (v ≡ false)) [ true ↦ inl refl | false ↦ inr refl ]

pub or_left : (a b : Bool) → a ≡ true → (a || b) ≡ true
or_left a b e = rw e refl

pub or_right : (a b : Bool) → b ≡ true → (a || b) ≡ true
or_right a b e = elim a as (λ v. (v || b) ≡ true) [ true ↦ refl | false ↦ e ]

pub or_cases : (a b : Bool) → (a || b) ≡ true → (a ≡ true) ⊎ (b ≡ true)
or_cases a b h = elim a as (λ v. (v || b) ≡ true → (v ≡ true) ⊎ (b ≡ true)) [ true ↦ λ _. inl refl | false ↦ λ e. inr e ] h

pub not_true : (b : Bool) → b ≡ true → b ≡ false → ⊥
not_true b e f = false≢true (sym f ∙ e)

pub true_if : (b : Bool) → (b ≡ false → ⊥) → b ≡ true
true_if b h = elim b as (λ v. (v ≡ false → ⊥) → v ≡ true) [ true ↦ λ _. refl | false ↦ λ k. absurd (k refl) ] h

pub false_if : (b : Bool) → (b ≡ true → ⊥) → b ≡ false
false_if b h = elim b as (λ v. (v ≡ true → ⊥) → v ≡ false) [ true ↦ λ k. absurd (k refl) | false ↦ λ _. refl ] h

pub same_tests : (a b : Bool) → (a ≡ true → b ≡ true) → (b ≡ true → a ≡ true) → a ≡ b
same_tests a b f g =
    elim a as (λ v. (v ≡ true → b ≡ true) → (b ≡ true → v ≡ true) → v ≡ b) [
      | true ↦ λ f _. sym (f refl)
      | false ↦ λ _ g. sym (false_if b (λ e. false≢true (g e)))
    ] f g

pub has_append : (front back : List ℕ) (q : ℕ) → has (front ++ back) q ≡ (has front q || has back q)
has_append front back q = list_any-append (λ x. x == q) front back

pub has_one : (p q : ℕ) → has (p ∷ []) q ≡ true → p ≡ q
has_one p q h = elim (or_cases (eqb p q) false h) as (λ _. p ≡ q) [ inl e ↦ eqb-true p q e | inr e ↦ absurd (false≢true e) ]

pub has_self : (order : List ℕ) (p : ℕ) → has (order ++ p ∷ []) p ≡ true
has_self order p = has_append order (p ∷ []) p ∙ or_right (has order p) _ (or_left (eqb p p) false (eqb_self p))

pub has_kept : (order : List ℕ) (p q : ℕ) → has order q ≡ true → has (order ++ p ∷ []) q ≡ true
has_kept order p q h = has_append order (p ∷ []) q ∙ or_left (has order q) _ h

pub has_push_cases : (order : List ℕ) (p q : ℕ) → has (order ++ p ∷ []) q ≡ true → (has order q ≡ true) ⊎ (p ≡ q)
has_push_cases order p q h =
    elim (or_cases (has order q) (has (p ∷ []) q) (sym (has_append order (p ∷ []) q) ∙ h)) as (λ _. (has order q ≡ true) ⊎ (p ≡ q)) [
      | inl e ↦ inl e
      | inr e ↦ inr (has_one p q e)
    ]

pub has_push_same : (a b : List ℕ) (p : ℕ) → ((q : ℕ) → has a q ≡ has b q) → (q : ℕ) → has (a ++ p ∷ []) q ≡ has (b ++ p ∷ []) q
has_push_same a b p same q = has_append a (p ∷ []) q ∙ ap (λ v. v || has (p ∷ []) q) (same q) ∙ sym (has_append b (p ∷ []) q)

pub has_here : (xs : List ℕ) (i : ℕ) → i < length xs → has xs (get_or xs i 0) ≡ true
has_here [] i lt = absurd (omega arith)
has_here (x ∷ xs) zero lt = or_left (eqb x x) _ (eqb_self x)
has_here (x ∷ xs) (suc i) lt = or_right (eqb x _) _ (has_here xs i (omega arith))

pub place_of : (xs : List ℕ) (q : ℕ) → has xs q ≡ true → (i : ℕ) × (i < length xs) × (get_or xs i 0 ≡ q)
place_of [] q h = absurd (false≢true h)
place_of (x ∷ xs) q h =
    elim (or_cases (eqb x q) (has xs q) h) as (λ _. (i : ℕ) × (i < length (x ∷ xs)) × (get_or (x ∷ xs) i 0 ≡ q)) [
      | inl e ↦ (0, omega arith, eqb-true x q e)
      | inr e ↦ let r = place_of xs q e in (suc r.0, omega (arith, r.1), r.2)
    ]

-- what passes a test, of a list
pub has_filter : (t : ℕ → Bool) (xs : List ℕ) (q : ℕ) → has xs q ≡ true → t q ≡ true → has (filter t xs) q ≡ true
has_filter t [] q h k = h
has_filter t (x ∷ xs) q h k =
    elim (or_cases (eqb x q) (has xs q) h) as (λ _. has (filter t (x ∷ xs)) q ≡ true) [
      | inl e ↦ let is : x ≡ q = eqb-true x q e in let yes : t x ≡ true = ap t is ∙ k in rw yes (or_left (eqb x q) _ e)
      | inr e ↦ elim (t x) as (λ v. has (cond v (x ∷ filter t xs) (filter t xs)) q ≡ true) [
        | true ↦ or_right (eqb x q) _ (has_filter t xs q e k)
        | false ↦ has_filter t xs q e k
      ]
    ]

pub passes_filter : (t : ℕ → Bool) (xs : List ℕ) (q : ℕ) → has (filter t xs) q ≡ true → (has xs q ≡ true) × (t q ≡ true)
passes_filter t [] q h = absurd (false≢true h)
passes_filter t (x ∷ xs) q h =
    elim (t x) as (λ v. t x ≡ v → has (cond v (x ∷ filter t xs) (filter t xs)) q ≡ true → (has (x ∷ xs) q ≡ true) × (t q ≡ true)) [
      | true ↦ λ e k. elim (or_cases (eqb x q) (has (filter t xs) q) k) as (λ _. (has (x ∷ xs) q ≡ true) × (t q ≡ true)) [
        | inl is ↦ (or_left (eqb x q) _ is, sym (ap t (eqb-true x q is)) ∙ e)
        | inr in' ↦ let r = passes_filter t xs q in' in (or_right (eqb x q) _ r.0, r.1)
      ]
      | false ↦ λ e k. let r = passes_filter t xs q k in (or_right (eqb x q) _ r.0, r.1)
    ] refl h

pub not_flips : (b : Bool) → not b ≡ true → b ≡ false
not_flips b h = elim b as (λ v. not v ≡ true → v ≡ false) [ true ↦ λ e. absurd (false≢true e) | false ↦ λ _. refl ] h

pub has_without : (order xs : List ℕ) (q : ℕ) → has xs q ≡ true → has order q ≡ false → has (numbers_without order xs) q ≡ true
has_without order xs q h k = has_filter (λ p. not (has order p)) xs q h (ap not k)

pub in_without : (order xs : List ℕ) (q : ℕ) → has (numbers_without order xs) q ≡ true → (has xs q ≡ true) × (has order q ≡ false)
in_without order xs q h = let r = passes_filter (λ p. not (has order p)) xs q h in (r.0, not_flips _ r.1)

-- no later one is the first
pub apart_head : (x : ℕ) (xs : List ℕ) (q : ℕ) → AllByRecursion (λ y. eqb x y ≡ false) xs → has xs q ≡ true → eqb x q ≡ false
apart_head x [] q h k = absurd (false≢true k)
apart_head x (y ∷ ys) q h k =
    elim (or_cases (eqb y q) (has ys q) k) as (λ _. eqb x q ≡ false) [
      | inl e ↦ subst (λ z. eqb x z ≡ false) (eqb-true y q e) h.0
      | inr e ↦ apart_head x ys q h.1 e
    ]

pub has_dropped : (xs : List ℕ) (n q : ℕ) → has (drop n xs) q ≡ true → has xs q ≡ true
has_dropped xs zero q h = h
has_dropped [] (suc n) q h = h
has_dropped (x ∷ xs) (suc n) q h = or_right (eqb x q) _ (has_dropped xs n q h)

pub has_taken : (xs : List ℕ) (n q : ℕ) → has (take n xs) q ≡ true → has xs q ≡ true
has_taken xs zero q h = absurd (false≢true h)
has_taken [] (suc n) q h = h
has_taken (x ∷ xs) (suc n) q h =
    elim (or_cases (eqb x q) (has (take n xs) q) h) as (λ _. has (x ∷ xs) q ≡ true) [
      | inl e ↦ or_left (eqb x q) _ e
      | inr e ↦ or_right (eqb x q) _ (has_taken xs n q e)
    ]

pub apart_halves : (xs : List ℕ) (n q : ℕ) → IsDistinct eqb xs → has (take n xs) q ≡ true → has (drop n xs) q ≡ true → ⊥
apart_halves [] zero q d h k = false≢true h
apart_halves [] (suc n) q d h k = false≢true h
apart_halves (x ∷ xs) zero q d h k = false≢true h
apart_halves (x ∷ xs) (suc n) q d h k =
    elim (or_cases (eqb x q) (has (take n xs) q) h) as (λ _. ⊥) [
      | inl e ↦ not_true _ e (apart_head x xs q (IsDistinct-head eqb x xs d) (has_dropped xs n q k))
      | inr e ↦ apart_halves xs n q (IsDistinct-tail eqb x xs d) e k
    ]

-- nothing is left out where the order has none of the list
pub without_none : (order xs : List ℕ) → ((q : ℕ) → has xs q ≡ true → has order q ≡ false) → numbers_without order xs ≡ xs
without_none order [] h = refl
without_none order (x ∷ xs) h =
    let here : has order x ≡ false = h x (or_left (eqb x x) _ (eqb_self x)) in
    rw here (ap (λ ys. x ∷ ys) (without_none order xs (λ q k. h q (or_right (eqb x q) _ k))))

pub without_all : (x : ℕ) (xs : List ℕ) → AllByRecursion (λ y. eqb x y ≡ false) xs → filter (λ q. not (eqb x q)) xs ≡ xs
without_all x [] h = refl
without_all x (y ∷ ys) h = rw h.0 (ap (λ zs. y ∷ zs) (without_all x ys h.1))

-- a distinct list without its element at i
pub filter_one : (xs : List ℕ) (i : ℕ) → IsDistinct eqb xs → i < length xs → filter (λ q. not (eqb (get_or xs i 0) q)) xs ≡ remove xs i
filter_one [] i d lt = absurd (omega arith)
filter_one (x ∷ xs) zero d lt =
    rw (eqb_self x) (without_all x xs (IsDistinct-head eqb x xs d))
filter_one (x ∷ xs) (suc i) d lt =
    let inside : i < length xs = omega arith in
    let away : eqb (get_or xs i 0) x ≡ false = ne_eqb _ _ (λ e. not_true _ (eq-eqb x _ (sym e)) (apart_head x xs (get_or xs i 0) (IsDistinct-head eqb x xs d) (has_here xs i inside))) in
    rw away (ap (λ ys. x ∷ ys) (filter_one xs i (IsDistinct-tail eqb x xs d) inside))

pub filter_filter : (s t u : ℕ → Bool) (xs : List ℕ) → ((q : ℕ) → u q ≡ (s q && t q)) → filter u xs ≡ filter t (filter s xs)
filter_filter s t u [] h = refl
filter_filter s t u (x ∷ xs) h =
    let both : u x ≡ (s x && t x) = h x in
    rw both (elim (s x) as (λ v. cond (v && t x) (x ∷ filter u xs) (filter u xs) ≡ filter t (cond v (x ∷ filter s xs) (filter s xs))) [
      | true ↦ elim (t x) as (λ w. cond w (x ∷ filter u xs) (filter u xs) ≡ cond w (x ∷ filter t (filter s xs)) (filter t (filter s xs))) [
        | true ↦ ap (λ ys. x ∷ ys) (filter_filter s t u xs h)
        | false ↦ filter_filter s t u xs h
      ]
      | false ↦ filter_filter s t u xs h
    ])

pub all_filter : (x : ℕ) (t : ℕ → Bool) (xs : List ℕ) → AllByRecursion (λ y. eqb x y ≡ false) xs → AllByRecursion (λ y. eqb x y ≡ false) (filter t xs)
all_filter x t [] h = h
all_filter x t (y ∷ ys) h =
    elim (t y) as (λ v. AllByRecursion (λ z. eqb x z ≡ false) (cond v (y ∷ filter t ys) (filter t ys))) [
      | true ↦ (h.0, all_filter x t ys h.1)
      | false ↦ all_filter x t ys h.1
    ]

pub distinct_filter : (t : ℕ → Bool) (xs : List ℕ) → IsDistinct eqb xs → IsDistinct eqb (filter t xs)
distinct_filter t [] d = d
distinct_filter t (x ∷ xs) d =
    let rest = distinct_filter t xs (IsDistinct-tail eqb x xs d) in
    elim (t x) as (λ v. IsDistinct eqb (cond v (x ∷ filter t xs) (filter t xs))) [
      | true ↦ IsDistinct-cons eqb x (filter t xs) (all_filter x t xs (IsDistinct-head eqb x xs d)) rest
      | false ↦ rest
    ]

not_or : (order : List ℕ) (p q : ℕ) → not (has (order ++ p ∷ []) q) ≡ (not (has order q) && not (eqb p q))
not_or order p q = rw (has_append order (p ∷ []) q) (elim (has order q) as (λ v. not (v || (eqb p q || false)) ≡ (not v && not (eqb p q))) [
  | true ↦ refl
  | false ↦ elim (eqb p q) as (λ w. not (w || false) ≡ not w) [ true ↦ refl | false ↦ refl ]
])

-- one more number in the order is one less outside it
pub without_push : (order xs : List ℕ) (i : ℕ) → IsDistinct eqb xs → i < length (numbers_without order xs) → numbers_without (order ++ get_or (numbers_without order xs) i 0 ∷ []) xs ≡ remove (numbers_without order xs) i
without_push order xs i d lt =
    let p : ℕ = get_or (numbers_without order xs) i 0 in
    filter_filter (λ q. not (has order q)) (λ q. not (eqb p q)) (λ q. not (has (order ++ p ∷ []) q)) xs (λ q. not_or order p q)
    ∙ filter_one (numbers_without order xs) i (distinct_filter _ xs d) lt
