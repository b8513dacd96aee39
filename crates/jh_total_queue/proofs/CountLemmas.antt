-- How often a value is among values that ascend, by the two ends of where it stands.
use Rattle.std.proofs.Common.{◌≡◌, ℕ, zero, suc, ◌+◌, ◌-◌, ◌≤◌, ◌<◌, Bool, true, false, cond, List, [], ◌∷◌, length, get_or, refl, ap, ◌∙◌, arith}
use Rattle.std.specs.List.Sorted.{IsPartitionPoint}
use Rattle.std.specs.Ordering.{is_eq, is_le, is_lt}
use Rattle.std.specs.declared.cmp.Ordering.{Ordering}
use Rattle.std.specs.declared.cmp.Ordering.TheVariants.{Less, Equal, Greater}
use Rattle.jh_edn.specs.Edn.{Edn}
use Rattle.jh_edn.specs.Order.{edn_cmp}
use Rattle.jh_edn.specs.View.{view, views}
use Rattle.jh_edn.specs.declared.value.Value.{Value}
use Rattle.jh_check.specs.Distinct.{is_same, count_of}
use Rattle.jh_check.proofs.DistinctLemmas.{same_back, count_cons}

-- ---- it stands between the two

between : (x : Edn) (vs : List Value) (i j : ℕ) → j ≤ length vs
    → ((k : ℕ) (d : Value) → k < i → is_same x (view (get_or vs k d)) ≡ false)
    → ((k : ℕ) (d : Value) → i ≤ k → k < j → is_same x (view (get_or vs k d)) ≡ true)
    → ((k : ℕ) (d : Value) → j ≤ k → k < length vs → is_same x (view (get_or vs k d)) ≡ false)
    → count_of (views vs) x ≡ j - i
between x [] i j short low mid high = omega arith
between x (v ∷ vs) zero zero short low mid high =
    let here : count_of (views (v ∷ vs)) x ≡ 0 + count_of (views vs) x = count_cons x (view v) (views vs) ∙ ap (λ b. cond b 1 0 + count_of (views vs) x) (high 0 v (omega arith) (omega arith)) in
    let rest : count_of (views vs) x ≡ 0 - 0 = between x vs 0 0 (omega arith) (λ k d less. absurd (omega arith)) (λ k d le less. absurd (omega arith)) (λ k d le less. high (suc k) d (omega arith) (omega arith)) in
    omega (arith, here, rest)
between x (v ∷ vs) zero (suc j) short low mid high =
    let here : count_of (views (v ∷ vs)) x ≡ 1 + count_of (views vs) x = count_cons x (view v) (views vs) ∙ ap (λ b. cond b 1 0 + count_of (views vs) x) (mid 0 v (omega arith) (omega arith)) in
    let rest : count_of (views vs) x ≡ j - 0 = between x vs 0 j (omega arith) (λ k d less. absurd (omega arith)) (λ k d le less. mid (suc k) d (omega arith) (omega arith)) (λ k d le less. high (suc k) d (omega arith) (omega arith)) in
    omega (arith, here, rest)
between x (v ∷ vs) (suc i) zero short low mid high =
    let here : count_of (views (v ∷ vs)) x ≡ 0 + count_of (views vs) x = count_cons x (view v) (views vs) ∙ ap (λ b. cond b 1 0 + count_of (views vs) x) (low 0 v (omega arith)) in
    let rest : count_of (views vs) x ≡ 0 - i = between x vs i 0 (omega arith) (λ k d less. low (suc k) d (omega arith)) (λ k d le less. absurd (omega arith)) (λ k d le less. high (suc k) d (omega arith) (omega arith)) in
    omega (arith, here, rest)
between x (v ∷ vs) (suc i) (suc j) short low mid high =
    let here : count_of (views (v ∷ vs)) x ≡ 0 + count_of (views vs) x = count_cons x (view v) (views vs) ∙ ap (λ b. cond b 1 0 + count_of (views vs) x) (low 0 v (omega arith)) in
    let rest : count_of (views vs) x ≡ j - i = between x vs i j (omega arith) (λ k d less. low (suc k) d (omega arith)) (λ k d le less. mid (suc k) d (omega arith) (omega arith)) (λ k d le less. high (suc k) d (omega arith) (omega arith)) in
    omega (arith, here, rest)

below_apart : (o : Ordering) → is_lt o ≡ true → is_eq o ≡ false
below_apart Less h = refl
below_apart Equal h = absurd cc
below_apart Greater h = refl

tied_same : (o : Ordering) → is_lt o ≡ false → is_le o ≡ true → is_eq o ≡ true
tied_same Less h k = absurd cc
tied_same Equal h k = refl
tied_same Greater h k = absurd cc

above_apart : (o : Ordering) → is_le o ≡ false → is_eq o ≡ false
above_apart Less h = absurd cc
above_apart Equal h = absurd cc
above_apart Greater h = refl

pub count_by_ends : (x : Edn) (vs : List Value) (i j : ℕ) → i ≤ length vs → j ≤ length vs
    → IsPartitionPoint (λ v. is_lt (edn_cmp (view v) x) ≡ true) (λ v. is_lt (edn_cmp (view v) x) ≡ false) vs i
    → IsPartitionPoint (λ v. is_le (edn_cmp (view v) x) ≡ true) (λ v. is_le (edn_cmp (view v) x) ≡ false) vs j
    → count_of (views vs) x ≡ j - i
count_by_ends x vs i j le short below within =
    let same : (k : ℕ) (d : Value) → is_same x (view (get_or vs k d)) ≡ is_eq (edn_cmp (view (get_or vs k d)) x) = λ k d. same_back x (view (get_or vs k d)) in
    between x vs i j short
    (λ k d less. same k d ∙ below_apart _ (below.0 k d (omega arith) less))
    (λ k d low less. same k d ∙ tied_same _ (below.1 k d low (omega arith)) (within.0 k d (omega arith) less))
    (λ k d low less. same k d ∙ above_apart _ (within.1 k d low less))
