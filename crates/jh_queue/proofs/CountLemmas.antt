-- How many passages are of a value and up to a place, by two ends among passages that are in order, and whatever the order.
use Rattle.std.proofs.Common.{◌≡◌, ℕ, zero, suc, ◌+◌, ◌-◌, ◌<◌, ◌≤◌, Bool, true, false, cond, ◌&&◌, nat_lt, nat_le, List, [], ◌∷◌, length, get_or, refl, sym, ap, ◌∙◌, arith}
use Rattle.std.specs.Prelude.{◌==◌, IsPermutation}
use Rattle.std.specs.List.{count_by}
use Rattle.std.specs.List.Sorted.{IsPartitionPoint}
use Rattle.std.specs.Ordering.{is_eq, is_le, is_lt, nat_cmp, ordering_then}
use Rattle.std.specs.declared.cmp.Ordering.{Ordering}
use Rattle.std.specs.declared.cmp.Ordering.TheVariants.{Less, Equal, Greater}
use Rattle.std.proofs.lemmas.Bool.Decides.{nat_tests}
use Rattle.std.proofs.lemmas.List.Sums.{sum_by-cons}
use Rattle.std.proofs.lemmas.List.Sorted.{sum_by-IsPermutation, IsPermutation-map}
use Rattle.jh_edn.specs.Edn.{Edn}
use Rattle.jh_edn.specs.Order.{edn_cmp}
use Rattle.jh_edn.specs.View.{view}
use Rattle.jh_check.specs.Distinct.{is_same}
use Rattle.jh_check.proofs.DistinctLemmas.{same_back}
use Rattle.jh_queue.specs.Queue.{Passage, enqueues_before, dequeues_upto, finds_none}
use Rattle.jh_queue.specs.QueueInside.{cmp_to, passage, passages}
use Rattle.jh_queue.specs.declared.passages.ValueAt.{ValueAt}

pub count_cons : {X : Type 0} (q : X → Bool) (x : X) (xs : List X) → count_by q (x ∷ xs) ≡ cond (q x) 1 0 + count_by q xs
count_cons q x xs = sum_by-cons (λ y. cond (q y) 1 0) x xs

count_ends : {X : Type 0} (q : X → Bool) (xs : List X) (i : ℕ) → i ≤ length xs
    → ((k : ℕ) (d : X) → k < i → q (get_or xs k d) ≡ true)
    → ((k : ℕ) (d : X) → i ≤ k → k < length xs → q (get_or xs k d) ≡ false)
    → count_by q xs ≡ i
count_ends q [] i le low high = omega arith
count_ends q (x ∷ xs) zero le low high =
    let here : count_by q (x ∷ xs) ≡ 0 + count_by q xs = count_cons q x xs ∙ ap (λ b. cond b 1 0 + count_by q xs) (high 0 x (omega arith) (omega arith)) in
    let rest : count_by q xs ≡ 0 = count_ends q xs 0 (omega arith) (λ k d less. absurd (omega arith)) (λ k d up less. high (suc k) d (omega arith) (omega arith)) in
    omega (arith, here, rest)
count_ends q (x ∷ xs) (suc i) le low high =
    let here : count_by q (x ∷ xs) ≡ 1 + count_by q xs = count_cons q x xs ∙ ap (λ b. cond b 1 0 + count_by q xs) (low 0 x (omega arith)) in
    let rest : count_by q xs ≡ i = count_ends q xs i (omega arith) (λ k d less. low (suc k) d (omega arith)) (λ k d up less. high (suc k) d (omega arith) (omega arith)) in
    omega (arith, here, rest)

count_point : {X : Type 0} (q : X → Bool) (xs : List X) (i : ℕ) → i ≤ length xs → IsPartitionPoint (λ y. q y ≡ true) (λ y. q y ≡ false) xs i → count_by q xs ≡ i
count_point q xs i le point = count_ends q xs i le (λ k d less. point.0 k d (omega arith) less) (λ k d up less. point.1 k d up less)

-- ---- by value, and then by place

-- a test of the order of places, which passes what is below and not what is above
module _ (p : Ordering → Bool) (low : p Less ≡ true) (high : p Greater ≡ false) (x : Edn) (place : ℕ) where
  abbrev wanted : Passage → Bool
  wanted m = is_same x m.value && p (nat_cmp m.place place)

  one : (o n : Ordering) → cond (p (ordering_then o n)) 1 0 ≡ cond (is_lt o) 1 0 + cond (is_eq o && p n) 1 0
  one Less n = ap (λ b. cond b 1 0) low
  one Equal n = omega arith
  one Greater n = ap (λ b. cond b 1 0) high

  two_counts : (held : List ValueAt) → count_by (λ v. p (cmp_to x place (passage v))) held ≡ count_by (λ (v : ValueAt). is_lt (edn_cmp (view v.value) x)) held + count_by wanted (passages held)
  two_counts [] = refl
  two_counts (v ∷ held) =
      let o = edn_cmp (view v.value) x in
      let n = nat_cmp v.place place in
      let same : is_same x (view v.value) ≡ is_eq o = same_back x (view v.value) in
      let here : cond (p (ordering_then o n)) 1 0 ≡ cond (is_lt o) 1 0 + cond (wanted (passage v)) 1 0 = one o n ∙ ap (λ b. cond (is_lt o) 1 0 + cond (b && p n) 1 0) (sym same) in
      omega (arith, here, two_counts held, count_cons (λ v. p (cmp_to x place (passage v))) v held, count_cons (λ (v : ValueAt). is_lt (edn_cmp (view v.value) x)) v held, count_cons wanted (passage v) (passages held))

  pub between : (held : List ValueAt) (i j : ℕ) → i ≤ length held → j ≤ length held
      → IsPartitionPoint (λ (v : ValueAt). is_lt (edn_cmp (view v.value) x) ≡ true) (λ (v : ValueAt). is_lt (edn_cmp (view v.value) x) ≡ false) held i
      → IsPartitionPoint (λ v. p (cmp_to x place (passage v)) ≡ true) (λ v. p (cmp_to x place (passage v)) ≡ false) held j
      → j - i ≡ count_by wanted (passages held)
  between held i j le short below within =
      omega (arith, two_counts held, count_point (λ (v : ValueAt). is_lt (edn_cmp (view v.value) x)) held i le below, count_point (λ v. p (cmp_to x place (passage v))) held j short within)

lt_is : (a b : ℕ) → is_lt (nat_cmp a b) ≡ nat_lt a b
lt_is a b = by (nat_lt a b) (a == b) where
  by : (l e : Bool) → is_lt (cond l Less (cond e Equal Greater)) ≡ l
  by true e = refl
  by false true = refl
  by false false = refl

le_is : (a b : ℕ) → is_le (nat_cmp a b) ≡ nat_le a b
le_is a b = grind (arith, nat_tests)

pub enqueues_before_is : (x : Edn) (place : ℕ) (xs : List Passage) → count_by (λ m. is_same x m.value && is_lt (nat_cmp m.place place)) xs ≡ enqueues_before xs x place
enqueues_before_is x place xs = λ i. count_by (λ m. is_same x m.value && lt_is m.place place i) xs

pub dequeues_upto_is : (x : Edn) (place : ℕ) (xs : List Passage) → count_by (λ m. is_same x m.value && is_le (nat_cmp m.place place)) xs ≡ dequeues_upto xs x place
dequeues_upto_is x place xs = λ i. count_by (λ m. is_same x m.value && le_is m.place place i) xs

-- ---- whatever the order

pub none_alike : (ins ins' outs outs' : List Passage) → IsPermutation ins ins' → IsPermutation outs outs' → (out : Passage) → finds_none ins' outs' out ≡ finds_none ins outs out
none_alike ins ins' outs outs' p q out =
    (λ i. nat_lt
    (sum_by-IsPermutation (λ m. cond (is_same out.value m.value && nat_lt m.place out.place) 1 0) ins ins' p i)
    (sum_by-IsPermutation (λ m. cond (is_same out.value m.value && nat_le m.place out.place) 1 0) outs outs' q i))

pub passages_permuted : (held sorted : List ValueAt) → IsPermutation held sorted → IsPermutation (passages held) (passages sorted)
passages_permuted held sorted p = IsPermutation-map passage held sorted p
