-- The order of passages, and what it parts.
use Rattle.std.proofs.Common.{◌≡◌, ℕ, Bool, false, List, get_or, ltb, refl, sym, ◌∙◌}
use Rattle.std.specs.Cmp.{IsTotalOrder}
use Rattle.std.specs.List.Sorted.{IsNonDecreasingBy, IsPartitionedBy, IsSortedBy}
use Rattle.std.specs.Ordering.{is_le, is_lt, ordering_index, ordering_then}
use Rattle.std.specs.declared.cmp.Ordering.{Ordering}
use Rattle.std.specs.declared.cmp.Ordering.TheVariants.{Less, Equal, Greater}
use Rattle.std.proofs.lemmas.Cmp.{on_total, then_total, nat_cmp_total}
use Rattle.std.proofs.lemmas.List.Sorted.{searchable_from_sorted, IsPartitionedBy-ltb}
use Rattle.jh_edn.specs.Edn.{Edn}
use Rattle.jh_edn.specs.Order.{edn_cmp}
use Rattle.jh_edn.specs.View.{view}
use Rattle.jh_edn.proofs.CitedLemmas.{edn_total}
use Rattle.jh_queue.specs.Queue.{Passage}
use Rattle.jh_queue.specs.QueueInside.{ArePassagesInOrder, cmp_to, passage, passage_cmp}
use Rattle.jh_queue.specs.declared.passages.ValueAt.{ValueAt}

pub passage_total : IsTotalOrder passage_cmp
passage_total = then_total (on_total (λ (m : Passage). m.value) edn_total) (on_total (λ (m : Passage). m.place) nat_cmp_total)

pub below_rank : (o : Ordering) → is_lt o ≡ ltb (ordering_index o) 1
below_rank Less = refl
below_rank Equal = refl
below_rank Greater = refl

pub within_rank : (o : Ordering) → is_le o ≡ ltb (ordering_index o) 2
within_rank Less = refl
within_rank Equal = refl
within_rank Greater = refl

-- a test of the order that passes up to a rank parts the passages
parted : (p : Ordering → Bool) (t : ℕ) → ((o : Ordering) → p o ≡ ltb (ordering_index o) t) → (x : Edn) (place : ℕ) (held : List ValueAt) → ArePassagesInOrder held
    → IsPartitionedBy (λ v. p (cmp_to x place (passage v))) held
parted p t is x place held up = λ i j d le less h.
    let key : Passage = record { value = x; place = place } in
    let rises : IsNonDecreasingBy (λ v. ordering_index (passage_cmp (passage v) key)) held = searchable_from_sorted passage_total passage held key up in
    is (cmp_to x place (passage (get_or held i d)))
    ∙ IsPartitionedBy-ltb (λ v. ordering_index (passage_cmp (passage v) key)) held t rises i j d le less (sym (is (cmp_to x place (passage (get_or held j d)))) ∙ h)

pub parted_before : (x : Edn) (place : ℕ) (held : List ValueAt) → ArePassagesInOrder held → IsPartitionedBy (λ v. is_lt (cmp_to x place (passage v))) held
parted_before x place held up = parted is_lt 1 below_rank x place held up

pub parted_upto : (x : Edn) (place : ℕ) (held : List ValueAt) → ArePassagesInOrder held → IsPartitionedBy (λ v. is_le (cmp_to x place (passage v))) held
parted_upto x place held up = parted is_le 2 within_rank x place held up

-- what is in order is so by value alone
not_less : (o r : Ordering) → is_lt (ordering_then o r) ≡ false → is_lt o ≡ false
not_less Less r h = absurd cc
not_less Equal r h = refl
not_less Greater r h = refl

pub parted_value : (x : Edn) (held : List ValueAt) → ArePassagesInOrder held → IsPartitionedBy (λ v. is_lt (edn_cmp (view v.value) x)) held
parted_value x held up = λ i j d le less h.
    let by_value : IsSortedBy (λ (a : ValueAt) (b : ValueAt). is_lt (edn_cmp (view a.value) (view b.value))) held = λ k e low high. not_less _ _ (up k e low high) in
    let rises : IsNonDecreasingBy (λ (v : ValueAt). ordering_index (edn_cmp (view v.value) x)) held = searchable_from_sorted edn_total (λ (v : ValueAt). view v.value) held x by_value in
    below_rank (edn_cmp (view (get_or held i d).value) x)
    ∙ IsPartitionedBy-ltb (λ (v : ValueAt). ordering_index (edn_cmp (view v.value) x)) held 1 rises i j d le less (sym (below_rank (edn_cmp (view (get_or held j d).value) x)) ∙ h)
