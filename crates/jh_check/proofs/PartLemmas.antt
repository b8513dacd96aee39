-- Values that ascend, parted by a test of the order: what is below a value comes first.
use Rattle.std.proofs.Common.{◌≡◌, ℕ, zero, suc, ◌+◌, ◌≤◌, ◌<◌, Bool, false, List, [], ◌∷◌, length, get_or, ltb, refl, sym, ◌∙◌, arith}
use Rattle.std.specs.List.Sorted.{IsNonDecreasingBy, IsPartitionedBy, IsSortedBy}
use Rattle.std.specs.Ordering.{is_le, is_lt, ordering_index}
use Rattle.std.specs.declared.cmp.Ordering.{Ordering}
use Rattle.std.specs.declared.cmp.Ordering.TheVariants.{Less, Equal, Greater}
use Rattle.std.proofs.lemmas.List.Sorted.{searchable_from_sorted, IsPartitionedBy-ltb}
use Rattle.jh_edn.specs.Edn.{Edn}
use Rattle.jh_edn.specs.Order.{edn_cmp}
use Rattle.jh_edn.specs.View.{view, views}
use Rattle.jh_edn.specs.declared.value.Value.{Value}
use Rattle.jh_edn.proofs.CitedLemmas.{edn_total, held_below}
use Rattle.jh_check.specs.Distinct.{Ascends}

neighbours : (vs : List Value) → Ascends (views vs) → (k : ℕ) (d : Value) → k + 1 < length vs → held_below (get_or vs (k + 1) d) (get_or vs k d) ≡ false
neighbours [] a k d less = absurd (omega arith)
neighbours (v ∷ []) a k d less = absurd (omega arith)
neighbours (v ∷ w ∷ vs) a zero d less = a.0.0
neighbours (v ∷ w ∷ vs) a (suc k) d less = let e : suc k + 1 ≡ suc (k + 1) = omega arith in rw e (neighbours (w ∷ vs) a.1 k d (omega arith))

sorted_held : (vs : List Value) → Ascends (views vs) → IsSortedBy held_below vs
sorted_held vs a = λ k d low less. neighbours vs a k d less

abbrev rank : Edn → Value → ℕ
rank x v = ordering_index (edn_cmp (view v) x)

ranked : (x : Edn) (vs : List Value) → Ascends (views vs) → IsNonDecreasingBy (rank x) vs
ranked x vs a = searchable_from_sorted edn_total view vs x (sorted_held vs a)

-- a test of the order that passes up to a rank
parted : (p : Ordering → Bool) (t : ℕ) → ((o : Ordering) → p o ≡ ltb (ordering_index o) t) → (x : Edn) (vs : List Value) → Ascends (views vs) → IsPartitionedBy (λ v. p (edn_cmp (view v) x)) vs
parted p t is x vs a = λ i j d le less h.
    is (edn_cmp (view (get_or vs i d)) x)
    ∙ IsPartitionedBy-ltb (rank x) vs t (ranked x vs a) i j d le less (sym (is (edn_cmp (view (get_or vs j d)) x)) ∙ h)

below_rank : (o : Ordering) → is_lt o ≡ ltb (ordering_index o) 1
below_rank Less = refl
below_rank Equal = refl
below_rank Greater = refl

within_rank : (o : Ordering) → is_le o ≡ ltb (ordering_index o) 2
within_rank Less = refl
within_rank Equal = refl
within_rank Greater = refl

pub parted_below : (x : Edn) (vs : List Value) → Ascends (views vs) → IsPartitionedBy (λ v. is_lt (edn_cmp (view v) x)) vs
parted_below x vs a = parted is_lt 1 below_rank x vs a

pub parted_within : (x : Edn) (vs : List Value) → Ascends (views vs) → IsPartitionedBy (λ v. is_le (edn_cmp (view v) x)) vs
parted_within x vs a = parted is_le 2 within_rank x vs a
