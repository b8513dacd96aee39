-- What one more call does to the parts of a trace.
use Rattle.std.proofs.Common.{◌≡◌, refl, sym, ap, ap₂, ◌∙◌, ℕ, ◌-◌, ◌<◌, ◌≤◌, inl, inr, Bool, true, false, not, ◌&&◌, ◌||◌, [], ◌∷◌, arith}
use Rattle.jh_edn.specs.Edn.{is_empty}
use Rattle.std.specs.Prelude.{◌==◌, nat_le, filter}
use Rattle.std.proofs.lemmas.Bool.{eq-eqb, ne_eqb, eqb-true, cond-true, cond-false, and_parts, and_from, or_cases, or_right, or_left, cases_Bool, leb-true, leb-false}
use Rattle.jh_gen.specs.Trace.{Path, Trace, trace_under}
use Rattle.jh_gen.specs.Scope.{Scope, is_in_scope}

pub under_same : (i : ℕ) (p : Path) (t : Trace) → trace_under i ((i ∷ p) ∷ t) ≡ p ∷ trace_under i t
under_same i p t = cond-true (i == i) (p ∷ trace_under i t) (trace_under i t) (eq-eqb i i refl)

pub under_other : (i j : ℕ) (p : Path) (t : Trace) → (j ≡ i → ⊥) → trace_under i ((j ∷ p) ∷ t) ≡ trace_under i t
under_other i j p t ne = cond-false (j == i) (p ∷ trace_under i t) (trace_under i t) (ne_eqb j i ne)

pub some_in : (S : Scope) (x : ℕ) → is_in_scope S x ≡ true → is_empty S ≡ false
some_in [] x h = absurd cc
some_in (y ∷ S) x h = refl

-- each thread stands once in the list
abbrev pub is_distinct : Scope → Bool
is_distinct [] = true
is_distinct (x ∷ xs) = not (is_in_scope xs x) && is_distinct xs

pub in_filter : (p : ℕ → Bool) (S : Scope) (x : ℕ) → is_in_scope (filter p S) x ≡ true → is_in_scope S x ≡ true
in_filter p [] x h = h
in_filter p (y ∷ S) x h =
    elim (cases_Bool (p y)) [
      | inl hit ↦ elim (or_cases (y == x) (is_in_scope (filter p S) x) (sym (ap (λ l. is_in_scope l x) (cond-true (p y) (y ∷ filter p S) (filter p S) hit)) ∙ h)) [
        | inl here ↦ or_left (y == x) (is_in_scope S x) here
        | inr there ↦ or_right (y == x) (is_in_scope S x) (in_filter p S x there)
      ]
      | inr miss ↦ or_right (y == x) (is_in_scope S x) (in_filter p S x (sym (ap (λ l. is_in_scope l x) (cond-false (p y) (y ∷ filter p S) (filter p S) miss)) ∙ h))
    ]

not_in_filter : (p : ℕ → Bool) (S : Scope) (x : ℕ) → not (is_in_scope S x) ≡ true → not (is_in_scope (filter p S) x) ≡ true
not_in_filter p S x h =
    elim (cases_Bool (is_in_scope (filter p S) x)) [
      | inl hit ↦ absurd (let e : is_in_scope S x ≡ true = in_filter p S x hit in let f = ap not e in cc)
      | inr miss ↦ ap not miss
    ]

pub distinct_filter : (p : ℕ → Bool) (S : Scope) → is_distinct S ≡ true → is_distinct (filter p S) ≡ true
distinct_filter p [] h = h
distinct_filter p (y ∷ S) h =
    let parts = and_parts (not (is_in_scope S y)) (is_distinct S) h in
    elim (cases_Bool (p y)) [
      | inl hit ↦ ap is_distinct (cond-true (p y) (y ∷ filter p S) (filter p S) hit) ∙ and_from _ _ (not_in_filter p S y parts.0) (distinct_filter p S parts.1)
      | inr miss ↦ ap is_distinct (cond-false (p y) (y ∷ filter p S) (filter p S) miss) ∙ distinct_filter p S parts.1
    ]

-- a thread in the scope that passes the test is in the part that passes
pub filter_in : (p : ℕ → Bool) (S : Scope) (x : ℕ) → is_in_scope S x ≡ true → p x ≡ true → is_in_scope (filter p S) x ≡ true
filter_in p [] x h hit = h
filter_in p (y ∷ S) x h hit =
    elim (or_cases (y == x) (is_in_scope S x) h) [
      | inl here ↦
          let same : y ≡ x = eqb-true y x here in
          ap (λ l. is_in_scope l x) (cond-true (p y) (y ∷ filter p S) (filter p S) (ap p same ∙ hit)) ∙ or_left (y == x) _ here
      | inr there ↦ elim (cases_Bool (p y)) [
        | inl py ↦ ap (λ l. is_in_scope l x) (cond-true (p y) (y ∷ filter p S) (filter p S) py) ∙ or_right (y == x) _ (filter_in p S x there hit)
        | inr py ↦ ap (λ l. is_in_scope l x) (cond-false (p y) (y ∷ filter p S) (filter p S) py) ∙ filter_in p S x there hit
      ]
    ]

-- what fails the test isn't
pub filter_out : (p : ℕ → Bool) (S : Scope) (x : ℕ) → p x ≡ false → is_in_scope (filter p S) x ≡ false
filter_out p [] x miss = refl
filter_out p (y ∷ S) x miss =
    elim (cases_Bool (p y)) [
      | inl py ↦ ap (λ l. is_in_scope l x) (cond-true (p y) (y ∷ filter p S) (filter p S) py)
          ∙ ap₂ (λ a b. a || b) (ne_eqb y x (λ e. let f = ap p e in cc)) (filter_out p S x miss)
      | inr py ↦ ap (λ l. is_in_scope l x) (cond-false (p y) (y ∷ filter p S) (filter p S) py) ∙ filter_out p S x miss
    ]

pub sub_zero : (n m : ℕ) → ((n - m) == 0) ≡ nat_le n m
sub_zero n m =
    elim (cases_Bool (nat_le n m)) [
      | inl hit ↦ let le : n ≤ m = leb-true n m hit in eq-eqb (n - m) 0 (omega arith) ∙ sym hit
      | inr miss ↦ let lt : m < n = leb-false n m miss in ne_eqb (n - m) 0 (omega arith) ∙ sym miss
    ]
