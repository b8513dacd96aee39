-- Comparing values, element by element and pair by pair.
use Rattle.std.proofs.Common.{◌≡◌, ℕ, zero, suc, ◌≤◌, ◌<◌, ◌⊎◌, inl, inr, List, [], ◌∷◌, length, drop, get_or, refl, sym, ◌∙◌, arith, nat_cmp}
use Rattle.std.proofs.lemmas.Grind.{common_steps}
use Rattle.std.specs.declared.cmp.Ordering.{Ordering}
use Rattle.std.specs.declared.cmp.Ordering.TheVariants.{Less, Equal, Greater}
use Rattle.jh_edn.specs.Edn.{items_of, members_of, size_of, size_list, size_pairs}
use Rattle.jh_edn.specs.View.{view, views, view_pairs}
use Rattle.jh_edn.specs.Order.{items_cmp, members_cmp}
use Rattle.jh_edn.specs.declared.value.Value.{Value}

-- ---- what is within is smaller

pub item_smaller : (vs : List Value) (i : ℕ) (d : Value) → i < length vs → size_of (view (get_or vs i d)) < size_list (views vs)
item_smaller [] i d h = absurd (omega arith)
item_smaller (v ∷ vs) zero d h = omega arith
item_smaller (v ∷ vs) (suc i) d h = omega (arith, item_smaller vs i d (omega arith))

pub pair_smaller : (ps : List (Value × Value)) (i : ℕ) (d : Value × Value) → i < length ps
    → (size_of (view (get_or ps i d).0) < size_pairs (view_pairs ps)) × (size_of (view (get_or ps i d).1) < size_pairs (view_pairs ps))
pair_smaller [] i d h = absurd (omega arith)
pair_smaller (p ∷ ps) zero d h = (omega arith, omega arith)
pair_smaller (p ∷ ps) (suc i) d h = let below = pair_smaller ps i d (omega arith) in (omega (arith, below.0), omega (arith, below.1))

-- ---- where one of the two ends

cmp_same : (n : ℕ) → nat_cmp n n ≡ Equal
cmp_same n = grind (arith, common_steps)

cmp_less : (m n : ℕ) → m < n → nat_cmp m n ≡ Less
cmp_less m n h = grind (arith, common_steps)

cmp_more : (m n : ℕ) → n < m → nat_cmp m n ≡ Greater
cmp_more m n h = grind (arith, common_steps)

one_more : (m n : ℕ) → nat_cmp (suc m) (suc n) ≡ nat_cmp m n
one_more m n = grind (arith, common_steps)

module _ {X : Type 0} (cmp : List X → List X → Ordering) (none : cmp [] [] ≡ Equal) (shorter : (y : X) (ys : List X) → cmp [] (y ∷ ys) ≡ Less) (longer : (x : X) (xs : List X) → cmp (x ∷ xs) [] ≡ Greater) where
  at_end : (xs ys : List X) (at : ℕ) → at ≤ length xs → at ≤ length ys → (length xs ≤ at) ⊎ (length ys ≤ at) → cmp (drop at xs) (drop at ys) ≡ nat_cmp (length xs) (length ys)
  at_end [] [] zero h k e = none ∙ sym (cmp_same 0)
  at_end [] (y ∷ ys) zero h k e = shorter y ys ∙ sym (cmp_less 0 (suc (length ys)) (omega arith))
  at_end (x ∷ xs) [] zero h k e = longer x xs ∙ sym (cmp_more (suc (length xs)) 0 (omega arith))
  at_end (x ∷ xs) (y ∷ ys) zero h k (inl e) = absurd (omega arith)
  at_end (x ∷ xs) (y ∷ ys) zero h k (inr e) = absurd (omega arith)
  at_end [] ys (suc at) h k e = absurd (omega arith)
  at_end (x ∷ xs) [] (suc at) h k e = absurd (omega arith)
  at_end (x ∷ xs) (y ∷ ys) (suc at) h k (inl e) = at_end xs ys at (omega arith) (omega arith) (inl (omega arith)) ∙ sym (one_more (length xs) (length ys))
  at_end (x ∷ xs) (y ∷ ys) (suc at) h k (inr e) = at_end xs ys at (omega arith) (omega arith) (inr (omega arith)) ∙ sym (one_more (length xs) (length ys))

pub items_end : (xs ys : List Value) (at : ℕ) → at ≤ length xs → at ≤ length ys → (length xs ≤ at) ⊎ (length ys ≤ at) → items_cmp (items_of (views (drop at xs))) (items_of (views (drop at ys))) ≡ nat_cmp (length xs) (length ys)
items_end = at_end (λ xs ys. items_cmp (items_of (views xs)) (items_of (views ys))) refl (λ y ys. refl) (λ x xs. refl)

pub pairs_end : (ps qs : List (Value × Value)) (at : ℕ) → at ≤ length ps → at ≤ length qs → (length ps ≤ at) ⊎ (length qs ≤ at) → members_cmp (members_of (view_pairs (drop at ps))) (members_of (view_pairs (drop at qs))) ≡ nat_cmp (length ps) (length qs)
pairs_end = at_end (λ ps qs. members_cmp (members_of (view_pairs ps)) (members_of (view_pairs qs))) refl (λ q qs. refl) (λ p ps. refl)
