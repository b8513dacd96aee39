-- Sums of amounts by place.
use Rattle.std.proofs.Common.{◌≡◌, ℕ, zero, suc, ◌+◌, ◌<◌, Bool, true, false, cond, ◌&&◌, nat_lt, List, [], ◌∷◌, ◌++◌, length, take, get_or, set, refl, sym, ap, ◌∙◌, arith}
use Rattle.std.specs.Prelude.{Some, None}
use Rattle.std.specs.List.{sum, sum_by, filter}
use Rattle.std.proofs.lemmas.Bool.{lt-ltb, le-ltb}
use Rattle.std.proofs.lemmas.Bool.Decides.{nat_tests}
use Rattle.std.proofs.lemmas.List.Elements.{filter-append}
use Rattle.std.proofs.lemmas.List.Sums.{sum_by-cons, sum_by-append}
use Rattle.jh_ops.specs.Operation.{Operation}
use Rattle.jh_ops.specs.declared.pairs.Pair.{Pair}
use Rattle.jh_check.specs.CounterResults.{end_place, amount, is_surely_added, may_be_added}
use Rattle.jh_check.specs.CounterInside.{increase_of, increase_before, bound_before}
use Rattle.jh_check.specs.declared.totals.Bound.{Bound}
use Rattle.jh_check.specs.declared.totals.Bound.TheVariants.{Lower, Upper}

sum-cons : (x : ℕ) (xs : List ℕ) → sum (x ∷ xs) ≡ x + sum xs
sum-cons x xs = sum_by-cons (λ n. n) x xs

-- the sum before a place, where so much more stands at another
pub sum_put : (xs : List ℕ) (at d a place : ℕ) → at < length xs → sum (take place (set xs at (get_or xs at d + a))) ≡ sum (take place xs) + cond (nat_lt at place) a 0
sum_put [] at d a place less = absurd (omega arith)
sum_put (x ∷ xs) zero d a zero less = ap (λ b. 0 + cond b a 0) (sym (le-ltb 0 0 (omega arith)))
sum_put (x ∷ xs) zero d a (suc place) less =
    let more : x + a + sum (take place xs) ≡ x + sum (take place xs) + a = omega arith in
    sum-cons (x + a) (take place xs) ∙ more ∙ ap (λ n. n + a) (sym (sum-cons x (take place xs)))
    ∙ ap (λ b. sum (x ∷ take place xs) + cond b a 0) (sym (lt-ltb 0 (suc place) (omega arith)))
sum_put (x ∷ xs) (suc at) d a zero less = ap (λ b. 0 + cond b a 0) (sym (le-ltb (suc at) 0 (omega arith)))
sum_put (x ∷ xs) (suc at) d a (suc place) less =
    let other : x + (sum (take place xs) + cond (nat_lt at place) a 0) ≡ x + sum (take place xs) + cond (nat_lt at place) a 0 = omega arith in
    let same : nat_lt at place ≡ nat_lt (suc at) (suc place) = grind (arith, nat_tests) in
    sum-cons x (take place (set xs at (get_or xs at d + a))) ∙ ap (λ n. x + n) (sum_put xs at d a place (omega arith)) ∙ other
    ∙ ap (λ n. n + cond (nat_lt at place) a 0) (sym (sum-cons x (take place xs)))
    ∙ ap (λ b. sum (x ∷ take place xs) + cond b a 0) same

pub sum_whole : (xs : List ℕ) (at d a : ℕ) → at < length xs → sum (set xs at (get_or xs at d + a)) ≡ sum xs + a
sum_whole [] at d a less = absurd (omega arith)
sum_whole (x ∷ xs) zero d a less =
    let more : x + a + sum xs ≡ x + sum xs + a = omega arith in
    sum-cons (x + a) xs ∙ more ∙ ap (λ n. n + a) (sym (sum-cons x xs))
sum_whole (x ∷ xs) (suc at) d a less =
    let other : x + (sum xs + a) ≡ x + sum xs + a = omega arith in
    sum-cons x (set xs at (get_or xs at d + a)) ∙ ap (λ n. x + n) (sum_whole xs at d a (omega arith)) ∙ other ∙ ap (λ n. n + a) (sym (sum-cons x xs))

-- the sum of those that pass two tests, with one more that may pass
sum_more : (f : Pair → ℕ) (p q : Pair → Bool) (pairs : List Pair) (pair : Pair)
    → sum_by f (filter (λ c. p c && q c) (pairs ++ pair ∷ [])) ≡ sum_by f (filter (λ c. p c && q c) pairs) + cond (p pair) (cond (q pair) (f pair) 0) 0
sum_more f p q pairs pair =
    let both = λ (c : Pair). p c && q c in
    ap (sum_by f) (filter-append both pairs (pair ∷ [])) ∙ sum_by-append f (filter both pairs) (filter both (pair ∷ []))
    ∙ ap (λ n. sum_by f (filter both pairs) + n) (one (p pair) (q pair)) where
      one : (b c : Bool) → sum_by f (cond (b && c) (pair ∷ []) []) ≡ cond b (cond c (f pair) 0) 0
      one true true = omega arith
      one true false = refl
      one false c = refl

pub bound_more : (side : Bound) (history : List Operation) (pairs : List Pair) (pair : Pair) (place : ℕ)
    → bound_before side history (pairs ++ pair ∷ []) place ≡ bound_before side history pairs place + increase_before place (increase_of side history pair)
bound_more Lower history pairs pair place =
    sum_more (amount history) (is_surely_added history) (λ c. nat_lt (end_place c) place) pairs pair
    ∙ ap (λ n. bound_before Lower history pairs place + n) (one (is_surely_added history pair)) where
      one : (b : Bool) → cond b (cond (nat_lt (end_place pair) place) (amount history pair) 0) 0 ≡ increase_before place (cond b (Some (record { place = end_place pair; amount = amount history pair })) None)
      one true = refl
      one false = refl
bound_more Upper history pairs pair place =
    sum_more (amount history) (may_be_added history) (λ c. nat_lt c.invoke place) pairs pair
    ∙ ap (λ n. bound_before Upper history pairs place + n) (one (may_be_added history pair)) where
      one : (b : Bool) → cond b (cond (nat_lt pair.invoke place) (amount history pair) 0) 0 ≡ increase_before place (cond b (Some (record { place = pair.invoke; amount = amount history pair })) None)
      one true = refl
      one false = refl
