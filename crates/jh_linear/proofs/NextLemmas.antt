-- Operations of unknown outcome, by classes: which are placed, and which is the next.
use Rattle.std.proofs.Common.{◌≡◌, ◌≢◌, ℕ, suc, ◌+◌, ◌<◌, ◌≤◌, true, false, eqb, ltb, List, [], ◌∷◌, ◌++◌, length, get_or, map, refl, sym, ap, subst, ◌∙◌, inl, inr, arith, eq-eqb}
use Rattle.std.specs.Prelude.{◌⊎◌, set}
use Rattle.std.proofs.lemmas.Bool.{cases_lt, lt-ltb, ltb-true, le-ltb}
use Rattle.std.proofs.lemmas.List.{length-map, length-set, get_or-map, get_or-set_same, get_or-set_other}
use Rattle.std.proofs.lemmas.Map.Keys.{apart_from_distinct}
use Rattle.jh_linear.specs.declared.register.RegOp.{RegOp}
use Rattle.jh_linear.specs.declared.sorted_ops.Class.{Class}
use Rattle.jh_linear.specs.Order.{has}
use Rattle.jh_linear.specs.SearchInside.{AreClasses, AreNext, IsOfClass, IsUnsureChange, class_at, next_at, no_class, unknown_number}
use Rattle.jh_linear.proofs.NumberSetLemmas.{has_kept, has_self, has_push_cases, has_here, place_of, not_true, same_tests}

-- lists of one length with the same elements are one
pub same_list : (xs ys : List ℕ) → length xs ≡ length ys → ((i : ℕ) → i < length xs → get_or xs i 0 ≡ get_or ys i 0) → xs ≡ ys
same_list [] [] size each = refl
same_list [] (y ∷ ys) size each = absurd (omega (arith, size))
same_list (x ∷ xs) [] size each = absurd (omega (arith, size))
same_list (x ∷ xs) (y ∷ ys) size each =
    let here : x ≡ y = each 0 (omega arith) in
    let rest : xs ≡ ys = same_list xs ys (omega (arith, size)) (λ i lt. each (suc i) (omega (arith, lt))) in
    ap (λ z. z ∷ xs) here ∙ ap (λ zs. y ∷ zs) rest

cases_eq : (a b : ℕ) → (a ≡ b) ⊎ (a ≢ b)
cases_eq a b = elim (cases_lt a b) as (λ _. (a ≡ b) ⊎ (a ≢ b)) [
  | inl lt ↦ inr (λ e. omega (arith, lt, e))
  | inr ge ↦ elim (cases_lt b a) as (λ _. (a ≡ b) ⊎ (a ≢ b)) [
    | inl lt ↦ inr (λ e. omega (arith, lt, e))
    | inr le ↦ inl (omega (arith, ge, le))
  ]
]

module _ (ops : List RegOp) (unknown : List ℕ) (classes : List Class) (all : AreClasses ops unknown classes) where
  inside : (k j : ℕ) → k < length classes → IsOfClass classes k j → j < length unknown
  inside k j low is = omega (arith, (all.bounded k low).1, is.1)

  pub is_unknown_at : (j : ℕ) → j < length unknown → IsUnsureChange ops (unknown_number unknown j)
  is_unknown_at j low = all.each j 0 low

  -- the class of an operation of unknown outcome
  pub class_of : (p : ℕ) → IsUnsureChange ops p → (k : ℕ) × (j : ℕ) × (k < length classes) × IsOfClass classes k j × (unknown_number unknown j ≡ p)
  class_of p is =
      let r = place_of unknown p (all.all p is) in
      let c = all.covered r.0 r.1 in
      (c.0, r.0, c.1, c.2, r.2)

  pub one_class : (k l j : ℕ) → k < length classes → l < length classes → IsOfClass classes k j → IsOfClass classes l j → k ≡ l
  one_class k l j low high here there = elim (cases_lt k l) as (λ _. k ≡ l) [
    | inl lt ↦ absurd (omega (arith, all.rises k l lt high, here.1, there.0))
    | inr ge ↦ elim (cases_lt l k) as (λ _. k ≡ l) [
      | inl lt ↦ absurd (omega (arith, all.rises l k lt low, there.1, here.0))
      | inr le ↦ omega (arith, ge, le)
    ]
  ]

  -- two of them at different indexes are different
  same_index : (i j : ℕ) → i < length unknown → j < length unknown → unknown_number unknown i ≡ unknown_number unknown j → i ≡ j
  same_index i j il jl is = elim (cases_lt i j) as (λ _. i ≡ j) [
    | inl lt ↦ absurd (not_true _ (eq-eqb _ _ is) (apart_from_distinct eqb unknown i j 0 all.distinct lt jl))
    | inr ge ↦ elim (cases_lt j i) as (λ _. i ≡ j) [
      | inl lt ↦ absurd (not_true _ (eq-eqb _ _ (sym is)) (apart_from_distinct eqb unknown j i 0 all.distinct lt il))
      | inr le ↦ omega (arith, ge, le)
    ]
  ]

  -- where nothing is placed, the next of each class is its first
  pub next_first : (next : List ℕ) → next ≡ map (λ class. class.from) classes → AreNext unknown classes [] next
  next_first next is =
      let at : (k : ℕ) → k < length classes → next_at next k ≡ (class_at classes k).from = λ k low. ap (λ ns. next_at ns k) is ∙ get_or-map (λ (c : Class). c.from) classes k no_class 0 low in
      record {
        sizes = ap length is ∙ length-map classes (λ (c : Class). c.from);
        bounds = λ k low. let e = at k low in (omega (arith, e), omega (arith, e, (all.bounded k low).0));
        placed = λ k j low here. sym (le-ltb j (next_at next k) (omega (arith, at k low, here.0)));
      }

  -- something that is not among them is placed
  pub next_other : (order next : List ℕ) (p : ℕ) → has unknown p ≡ false → AreNext unknown classes order next → AreNext unknown classes (order ++ p ∷ []) next
  next_other order next p out known = record {
    sizes = known.sizes;
    bounds = known.bounds;
    placed = λ k j low here.
        same_tests (has (order ++ p ∷ []) (unknown_number unknown j)) (has order (unknown_number unknown j))
        (λ h. elim (has_push_cases order p (unknown_number unknown j) h) as (λ _. has order (unknown_number unknown j) ≡ true) [
          | inl old ↦ old
          | inr is ↦ absurd (not_true _ (subst (λ q. has unknown q ≡ true) (sym is) (has_here unknown j (inside k j low here))) out)
        ])
        (λ h. has_kept order p (unknown_number unknown j) h)
        ∙ known.placed k j low here;
  }

  -- the next of a class is placed
  pub next_placed : (order next next' : List ℕ) (k : ℕ) → k < length classes → next_at next k < (class_at classes k).upto → next' ≡ set next k (next_at next k + 1) → AreNext unknown classes order next
      → AreNext unknown classes (order ++ unknown_number unknown (next_at next k) ∷ []) next'
  next_placed order next next' k low left is known =
      let n : ℕ = next_at next k in
      let p : ℕ = unknown_number unknown n in
      let here : next_at next' k ≡ n + 1 = ap (λ ns. next_at ns k) is ∙ get_or-set_same next k (n + 1) 0 (omega (arith, known.sizes, low)) in
      let there : (l : ℕ) → l ≢ k → next_at next' l ≡ next_at next l = λ l other. ap (λ ns. next_at ns l) is ∙ get_or-set_other next k l (n + 1) 0 other in
      let mine : IsOfClass classes k n = ((known.bounds k low).0, left) in
      record {
        sizes = ap length is ∙ length-set next k (n + 1) ∙ known.sizes;
        bounds = λ l high. elim (cases_eq l k) as (λ _. ((class_at classes l).from ≤ next_at next' l) × (next_at next' l ≤ (class_at classes l).upto)) [
          | inl same ↦ subst (λ m. ((class_at classes m).from ≤ next_at next' m) × (next_at next' m ≤ (class_at classes m).upto)) (sym same) (omega (arith, here, mine.0), omega (arith, here, left))
          | inr other ↦ subst (λ m. ((class_at classes l).from ≤ m) × (m ≤ (class_at classes l).upto)) (sym (there l other)) (known.bounds l high)
        ];
        placed = λ l j high in'.
            let low_j = inside l j high in' in
            let low_n = inside k n low mine in
            elim (cases_eq l k) as (λ _. has (order ++ p ∷ []) (unknown_number unknown j) ≡ ltb j (next_at next' l)) [
              | inl same ↦
                  let old : has order (unknown_number unknown j) ≡ ltb j n = known.placed l j high in' ∙ ap (λ m. ltb j (next_at next m)) same in
                  let now : next_at next' l ≡ n + 1 = ap (next_at next') same ∙ here in
                  same_tests (has (order ++ p ∷ []) (unknown_number unknown j)) (ltb j (next_at next' l))
                  (λ h. elim (has_push_cases order p (unknown_number unknown j) h) as (λ _. ltb j (next_at next' l) ≡ true) [
                    | inl before ↦ lt-ltb _ _ (omega (arith, now, ltb-true j n (sym old ∙ before)))
                    | inr is' ↦ let e = same_index n j low_n low_j is' in lt-ltb _ _ (omega (arith, now, e))
                  ])
                  (λ h. let lt = ltb-true _ _ h in
                  elim (cases_lt j n) as (λ _. has (order ++ p ∷ []) (unknown_number unknown j) ≡ true) [
                    | inl before ↦ has_kept order p (unknown_number unknown j) (old ∙ lt-ltb j n before)
                    | inr ge ↦ let e : n ≡ j = omega (arith, now, lt, ge) in subst (λ m. has (order ++ p ∷ []) (unknown_number unknown m) ≡ true) e (has_self order p)
                  ])
              | inr other ↦
                  same_tests (has (order ++ p ∷ []) (unknown_number unknown j)) (has order (unknown_number unknown j))
                  (λ h. elim (has_push_cases order p (unknown_number unknown j) h) as (λ _. has order (unknown_number unknown j) ≡ true) [
                    | inl old ↦ old
                    | inr is' ↦ let e = same_index n j low_n low_j is' in absurd (other (one_class l k j high low in' (subst (IsOfClass classes k) e mine)))
                  ])
                  (λ h. has_kept order p (unknown_number unknown j) h)
                  ∙ known.placed l j high in'
                  ∙ ap (ltb j) (sym (there l other))
            ];
      }

  -- orders with the same numbers have the same next ones
  next_is : (a b m n : List ℕ) → AreNext unknown classes a m → AreNext unknown classes b n → ((q : ℕ) → has a q ≡ has b q) → (k : ℕ) → k < length classes → next_at m k < next_at n k → ⊥
  next_is a b m n am bn same k low lt =
      let here : IsOfClass classes k (next_at m k) = ((am.bounds k low).0, omega (arith, lt, (bn.bounds k low).1)) in
      let out : has a (unknown_number unknown (next_at m k)) ≡ false = am.placed k (next_at m k) low here ∙ le-ltb (next_at m k) (next_at m k) (omega arith) in
      let there : has b (unknown_number unknown (next_at m k)) ≡ true = bn.placed k (next_at m k) low here ∙ lt-ltb (next_at m k) (next_at n k) lt in
      not_true _ (same _ ∙ there) out

  pub same_next : (a b m n : List ℕ) → AreNext unknown classes a m → AreNext unknown classes b n → ((q : ℕ) → has a q ≡ has b q) → m ≡ n
  same_next a b m n am bn same = same_list m n (am.sizes ∙ sym bn.sizes) (λ k low.
      let inside' : k < length classes = omega (arith, low, am.sizes) in
      elim (cases_lt (next_at m k) (next_at n k)) as (λ _. next_at m k ≡ next_at n k) [
        | inl lt ↦ absurd (next_is a b m n am bn same k inside' lt)
        | inr ge ↦ elim (cases_lt (next_at n k) (next_at m k)) as (λ _. next_at m k ≡ next_at n k) [
          | inl lt ↦ absurd (next_is b a n m bn am (λ q. sym (same q)) k inside' lt)
          | inr le ↦ omega (arith, ge, le)
        ]
      ])

  -- where the next ones are the same, so are those that are placed
  pub same_unknown : (a b m n : List ℕ) → AreNext unknown classes a m → AreNext unknown classes b n → m ≡ n → (p : ℕ) → IsUnsureChange ops p → has a p ≡ has b p
  same_unknown a b m n am bn is p un =
      let r = class_of p un in
      let j : ℕ = r.1 in
      subst (λ q. has a q ≡ has b q) r.4 (am.placed r.0 j r.2 r.3 ∙ ap (λ ns. ltb j (next_at ns r.0)) is ∙ sym (bn.placed r.0 j r.2 r.3))
