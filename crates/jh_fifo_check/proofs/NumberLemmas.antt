-- The numbers of values: how many of some values are below one.
use Rattle.std.proofs.Common.{◌≡◌, ℕ, zero, suc, ◌+◌, ◌≤◌, ◌<◌, Bool, true, false, cond, List, [], ◌∷◌, length, get_or, refl, sym, ap, ◌∙◌, arith}
use Rattle.std.specs.List.{count_by}
use Rattle.std.specs.List.Sorted.{IsPartitionPoint}
use Rattle.std.specs.Prelude.{Contains}
use Rattle.std.specs.Ordering.{is_eq, is_lt, ordering_reverse}
use Rattle.std.specs.declared.cmp.Ordering.{Ordering}
use Rattle.std.specs.declared.cmp.Ordering.TheVariants.{Less, Equal, Greater}
use Rattle.std.proofs.lemmas.List.Sums.{sum_by-cons}
use Rattle.jh_edn.specs.Edn.{Edn}
use Rattle.jh_edn.specs.Order.{edn_cmp, is_below}
use Rattle.jh_edn.specs.View.{view, views}
use Rattle.jh_edn.specs.declared.value.Value.{Value}
use Rattle.jh_edn.proofs.CitedLemmas.{edn_total}
use Rattle.jh_check.specs.Distinct.{is_same}
use Rattle.jh_fifo_check.specs.FifoHistories.{value_number}

number_cons : (x y : Edn) (ys : List Edn) → value_number (y ∷ ys) x ≡ cond (is_below y x) 1 0 + value_number ys x
number_cons x y ys = sum_by-cons (λ z. cond (is_below z x) 1 0) y ys

-- among values that are parted by it
pub number_by_end : (x : Edn) (vs : List Value) (k : ℕ) → k ≤ length vs
    → IsPartitionPoint (λ v. is_lt (edn_cmp (view v) x) ≡ true) (λ v. is_lt (edn_cmp (view v) x) ≡ false) vs k
    → value_number (views vs) x ≡ k
number_by_end x [] k le at = omega (arith, le)
number_by_end x (v ∷ vs) zero le at =
    let here = number_cons x (view v) (views vs) ∙ ap (λ b. cond b 1 0 + value_number (views vs) x) (at.1 0 v (omega arith) (omega arith)) in
    let rest = number_by_end x vs 0 (omega arith) ((λ i d low less. absurd (omega (arith, less))), (λ i d low less. at.1 (suc i) d (omega arith) (omega (arith, less)))) in
    omega (arith, here, rest)
number_by_end x (v ∷ vs) (suc k) le at =
    let here = number_cons x (view v) (views vs) ∙ ap (λ b. cond b 1 0 + value_number (views vs) x) (at.0 0 v (omega arith) (omega arith)) in
    let rest = number_by_end x vs k (omega (arith, le)) ((λ i d low less. at.0 (suc i) d (omega arith) (omega (arith, less))), (λ i d low less. at.1 (suc i) d (omega (arith, low)) (omega (arith, less)))) in
    omega (arith, here, rest)

-- ---- equal values

is_less : (o : Ordering) → is_lt o ≡ true → o ≡ Less
is_less Less h = refl
is_less Equal h = absurd cc
is_less Greater h = absurd cc

is_equal : (o : Ordering) → is_eq o ≡ true → o ≡ Equal
is_equal Less h = absurd cc
is_equal Equal h = refl
is_equal Greater h = absurd cc

turned : (o p : Ordering) → o ≡ ordering_reverse p → is_lt o ≡ true → p ≡ Greater
turned o Less e h = absurd (let bad : is_lt o ≡ false = ap is_lt e in cc)
turned o Equal e h = absurd (let bad : is_lt o ≡ false = ap is_lt e in cc)
turned o Greater e h = refl

unturned : (o p : Ordering) → o ≡ ordering_reverse p → p ≡ Greater → o ≡ Less
unturned o p e h = e ∙ ap ordering_reverse h

-- what is below one of two equal values is below the other
along : (x y z : Edn) → edn_cmp x y ≡ Equal → is_below z x ≡ is_below z y
along x y z e =
    let back : edn_cmp z x ≡ ordering_reverse (edn_cmp x z) = edn_total.antisymm z x in
    let same : edn_cmp x z ≡ edn_cmp y z = edn_total.congr x y z e in
    let there : ordering_reverse (edn_cmp y z) ≡ edn_cmp z y = sym (edn_total.antisymm z y) in
    ap is_lt (back ∙ ap ordering_reverse same ∙ there)

pub alike : (values : List Edn) (x y : Edn) → is_same x y ≡ true → value_number values x ≡ value_number values y
alike [] x y h = refl
alike (z ∷ zs) x y h =
    number_cons x z zs
    ∙ (λ i. cond (along x y z (is_equal (edn_cmp x y) h) i) 1 0 + alike zs x y h i)
    ∙ sym (number_cons y z zs)

-- ---- values that are not equal

never_below_itself : (x : Edn) → is_below x x ≡ false
never_below_itself x = go (edn_cmp x x) (edn_total.antisymm x x) where
  go : (o : Ordering) → o ≡ ordering_reverse o → is_lt o ≡ false
  go Less e = absurd (let bad : true ≡ false = ap is_lt e in cc)
  go Equal e = refl
  go Greater e = refl

below_both : (x y z : Edn) → is_below x y ≡ true → is_below z x ≡ true → is_below z y ≡ true
below_both x y z h k = ap is_lt (edn_total.trans z x y (is_less (edn_cmp z x) k) (is_less (edn_cmp x y) h))

at_most : (a b : Bool) → (a ≡ true → b ≡ true) → cond {A = ℕ} a 1 0 ≤ cond b 1 0
at_most true true h = omega arith
at_most true false h = absurd (let bad : false ≡ true = h refl in cc)
at_most false true h = omega arith
at_most false false h = omega arith

no_more : (values : List Edn) (x y : Edn) → is_below x y ≡ true → value_number values x ≤ value_number values y
no_more [] x y h = omega arith
no_more (z ∷ zs) x y h =
    omega (arith, number_cons x z zs, number_cons y z zs, at_most (is_below z x) (is_below z y) (below_both x y z h), no_more zs x y h)

fewer_at : (values : List Edn) (x y : Edn) (k : ℕ) → k < length values → get_or values k x ≡ x → is_below x y ≡ true → value_number values x < value_number values y
fewer_at [] x y k low at h = absurd (omega (arith, low))
fewer_at (z ∷ zs) x y zero low at h =
    let here : is_below z x ≡ false = ap (λ w. is_below w x) at ∙ never_below_itself x in
    let there : is_below z y ≡ true = ap (λ w. is_below w y) at ∙ h in
    let one = number_cons x z zs ∙ ap (λ b. cond b 1 0 + value_number zs x) here in
    let other = number_cons y z zs ∙ ap (λ b. cond b 1 0 + value_number zs y) there in
    omega (arith, one, other, no_more zs x y h)
fewer_at (z ∷ zs) x y (suc k) low at h =
    omega (arith, number_cons x z zs, number_cons y z zs, at_most (is_below z x) (is_below z y) (below_both x y z h), fewer_at zs x y k (omega (arith, low)) at h)

pub told : (values : List Edn) (x y : Edn) → Contains values x → Contains values y → value_number values x ≡ value_number values y → is_same x y ≡ true
told values x y a b same = go (edn_cmp x y) refl where
  go : (o : Ordering) → edn_cmp x y ≡ o → is_eq (edn_cmp x y) ≡ true
  go Less e = absurd (omega (arith, same, fewer_at values x y a.0 a.1 a.2 (ap is_lt e)))
  go Equal e = ap is_eq e
  go Greater e = absurd (omega (arith, same, fewer_at values y x b.0 b.1 b.2 (ap is_lt (unturned (edn_cmp y x) (edn_cmp x y) (edn_total.antisymm y x) e))))
