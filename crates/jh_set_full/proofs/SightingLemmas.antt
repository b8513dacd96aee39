-- Sightings of an element: where they stand, and by which operations.
use Rattle.std.proofs.Common.{◌≡◌, ℕ, zero, suc, ◌+◌, ◌-◌, ◌≤◌, ◌<◌, Bool, true, false, cond, not, ◌||◌, List, [], ◌∷◌, ◌++◌, length, take, drop, get_or, ltb, map, refl, sym, ap, ◌∙◌, arith, inl, inr}
use Rattle.std.specs.Prelude.{Option, Some, None, max, unwrap_or, ◌⊎◌}
use Rattle.std.specs.List.{filter}
use Rattle.std.specs.List.Sorted.{IsNonDecreasingBy, IsPartitionedBy, IsPartitionPoint}
use Rattle.std.specs.Ordering.{is_eq, is_le, is_lt, ordering_index}
use Rattle.std.specs.declared.cmp.Ordering.{Ordering}
use Rattle.std.specs.declared.cmp.Ordering.TheVariants.{Less, Equal, Greater}
use Rattle.std.proofs.lemmas.List.{map-append, take_more}
use Rattle.std.proofs.lemmas.List.Concat.{flat_map-append}
use Rattle.std.proofs.lemmas.List.Elements.{filter-append}
use Rattle.std.proofs.lemmas.List.Sorted.{searchable_from_sorted, IsPartitionedBy-ltb}
use Rattle.jh_edn.specs.Edn.{Edn}
use Rattle.jh_edn.specs.Order.{edn_cmp, in_order, is_below, put_in_order}
use Rattle.jh_edn.specs.View.{view}
use Rattle.jh_edn.proofs.CitedLemmas.{edn_total}
use Rattle.jh_ops.specs.Operation.{Operation}
use Rattle.jh_ops.specs.declared.pairs.Pair.{Pair}
use Rattle.jh_check.specs.Distinct.{count_of, distinct_values, has_same_value, is_same, set_of}
use Rattle.jh_check.proofs.DistinctLemmas.{same_back, same_along, others, count_cons}
use Rattle.jh_check.proofs.SearchLemmas.{among_in_order, count_in_order}
use Rattle.jh_set_full.specs.SetFull.{greatest_of, later_of}
use Rattle.jh_set_full.specs.Inside.{Seen, seen, sees, seen_below, counted_by, seen_pair, seen_times, counted_in, counted_in_order, shown_in, sightings_by, sightings_of, AreByElement}
use Rattle.jh_set_full.specs.declared.sightings.Side.{Side}
use Rattle.jh_set_full.specs.declared.sightings.Sighting.{Sighting}

-- ---- one element's, in order or in any

is_equal : (o : Ordering) → is_eq o ≡ true → o ≡ Equal
is_equal Less h = absurd cc
is_equal Equal h = refl
is_equal Greater h = absurd cc

clash : (x y z : Edn) → is_below y z ≡ true → is_same x y ≡ true → is_same x z ≡ true → ⊥
clash x y z below first second =
    let along : edn_cmp x z ≡ edn_cmp y z = edn_total.congr x y z (is_equal (edn_cmp x y) first) in
    let tied : edn_cmp y z ≡ Equal = sym along ∙ is_equal (edn_cmp x z) second in
    let bad : true ≡ false = sym below ∙ ap is_lt tied in cc

swap : (u t : Seen) (r : List Seen) (a b : Bool) → (a ≡ true → b ≡ true → ⊥) → cond a (u ∷ cond b (t ∷ r) r) (cond b (t ∷ r) r) ≡ cond b (t ∷ cond a (u ∷ r) r) (cond a (u ∷ r) r)
swap u t r true true never = absurd (never refl refl)
swap u t r true false never = refl
swap u t r false b never = refl

seen_put : (x : Edn) (t : Seen) (us : List Seen) → filter (sees x) (put_in_order seen_below t us) ≡ filter (sees x) (t ∷ us)
seen_put x t [] = refl
seen_put x t (u ∷ us) =
    elim (seen_below u t) as (λ b. seen_below u t ≡ b → filter (sees x) (cond b (u ∷ put_in_order seen_below t us) (t ∷ u ∷ us)) ≡ filter (sees x) (t ∷ u ∷ us)) [
      | true ↦ λ is. ap (λ w. cond (sees x u) (u ∷ w) w) (seen_put x t us) ∙ swap u t (filter (sees x) us) (sees x u) (sees x t) (clash x u.0 t.0 is)
      | false ↦ λ is. refl
    ] refl

pub seen_in_order : (x : Edn) (ts : List Seen) → filter (sees x) (in_order seen_below ts) ≡ filter (sees x) ts
seen_in_order x [] = refl
seen_in_order x (t ∷ ts) = seen_put x t (in_order seen_below ts) ∙ ap (λ w. cond (sees x t) (t ∷ w) w) (seen_in_order x ts)

pub filter_mapped : {A B : Type 0} (p : B → Bool) (f : A → B) (xs : List A) → map f (filter (λ x. p (f x)) xs) ≡ filter p (map f xs)
filter_mapped p f [] = refl
filter_mapped p f (x ∷ xs) =
    elim (p (f x)) as (λ b. map f (cond b (x ∷ filter (λ y. p (f y)) xs) (filter (λ y. p (f y)) xs)) ≡ cond b (f x ∷ filter p (map f xs)) (filter p (map f xs))) [
      | true ↦ ap (λ w. f x ∷ w) (filter_mapped p f xs)
      | false ↦ filter_mapped p f xs
    ]

-- ---- by which operations

none_left : (x y : Edn) (entry : Edn → Seen) → ((z : Edn) → (entry z).0 ≡ z) → is_same x y ≡ true → (zs : List Edn) → filter (sees x) (map entry (others y zs)) ≡ []
none_left x y entry named same [] = refl
none_left x y entry named same (z ∷ zs) =
    elim (is_same y z) as (λ b. is_same y z ≡ b → filter (sees x) (map entry (cond (not b) (z ∷ others y zs) (others y zs))) ≡ []) [
      | true ↦ λ is. none_left x y entry named same zs
      | false ↦ λ is.
          let other : sees x (entry z) ≡ false = ap (is_same x) (named z) ∙ same_along x y z same ∙ is in
          rw other (none_left x y entry named same zs)
    ] refl

same_left : (x y : Edn) (entry : Edn → Seen) → ((z : Edn) → (entry z).0 ≡ z) → is_same x y ≡ false → (zs : List Edn) → filter (sees x) (map entry (others y zs)) ≡ filter (sees x) (map entry zs)
same_left x y entry named apart [] = refl
same_left x y entry named apart (z ∷ zs) =
    elim (is_same y z) as (λ b. is_same y z ≡ b → filter (sees x) (map entry (cond (not b) (z ∷ others y zs) (others y zs))) ≡ filter (sees x) (map entry (z ∷ zs))) [
      | true ↦ λ is.
          let other : sees x (entry z) ≡ false = ap (is_same x) (named z) ∙ same_back x z ∙ sym (same_along y z x is) ∙ same_back y x ∙ apart in
          rw other (same_left x y entry named apart zs)
      | false ↦ λ is. ap (λ w. cond (sees x (entry z)) (entry z ∷ w) w) (same_left x y entry named apart zs)
    ] refl

-- of elements that are there once each, one at most is this one
once : {B : Type 0} (f : Seen → B) (b : B) (x : Edn) (entry : Edn → Seen) → ((z : Edn) → (entry z).0 ≡ z) → ((z : Edn) → is_same x z ≡ true → f (entry z) ≡ b)
    → (ys : List Edn) → map f (filter (sees x) (map entry (distinct_values ys))) ≡ cond (has_same_value ys x) (b ∷ []) []
once f b x entry named same [] = refl
once f b x entry named same (y ∷ ys) =
    let rest = map entry (others y (distinct_values ys)) in
    ap (λ t. map f (cond t (entry y ∷ filter (sees x) rest) (filter (sees x) rest))) (ap (is_same x) (named y))
    ∙ elim (is_same x y) as (λ t. is_same x y ≡ t → map f (cond t (entry y ∷ filter (sees x) rest) (filter (sees x) rest)) ≡ cond (t || has_same_value ys x) (b ∷ []) []) [
      | true ↦ λ is. (λ i. same y is i ∷ map f (none_left x y entry named is (distinct_values ys) i))
      | false ↦ λ is. ap (map f) (same_left x y entry named is (distinct_values ys)) ∙ once f b x entry named same ys
    ] refl

count_same : (x y : Edn) → is_same x y ≡ true → (zs : List Edn) → count_of zs y ≡ count_of zs x
count_same x y same [] = refl
count_same x y same (z ∷ zs) =
    count_cons y z zs ∙ (λ i. cond (sym (same_along x y z same) i) 1 0 + count_same x y same zs i) ∙ sym (count_cons x z zs)

split : {B : Type 0} (t : Bool) (b : B) (bs : List B) → cond t (b ∷ []) [] ++ bs ≡ cond t (b ∷ bs) bs
split true b bs = refl
split false b bs = refl

module _ (side : Side) (history : List Operation) (x : Edn) where
  abbrev pub holds : Pair → Bool
  holds p = has_same_value (shown_in side history p) x

  pub entries_of : {B : Type 0} (f : Seen → B) (b : Pair → B) → ((p : Pair) (z : Edn) → is_same x z ≡ true → f (counted_by p (z, count_of (shown_in side history p) z)) ≡ b p)
      → (ps : List Pair) → map f (filter (sees x) (sightings_of side history ps)) ≡ map b (filter holds ps)
  entries_of f b same [] = refl
  entries_of {B} f b same (p ∷ ps) =
      ap (map f) (filter-append (sees x) (sightings_by side history p) (sightings_of side history ps))
      ∙ map-append f (filter (sees x) (sightings_by side history p)) (filter (sees x) (sightings_of side history ps))
      ∙ (λ i. one i ++ entries_of f b same ps i)
      ∙ split (holds p) (b p) (map b (filter holds ps))
      ∙ sym (inside (holds p)) where
        xs : List Edn
        xs = shown_in side history p

        entry : Edn → Seen
        entry z = counted_by p (z, count_of xs z)

        twice : (zs : List Edn) → map (counted_by p) (map (λ z. (z, count_of xs z)) zs) ≡ map entry zs
        twice [] = refl
        twice (z ∷ zs) = ap (λ w. entry z ∷ w) (twice zs)

        one : map f (filter (sees x) (sightings_by side history p)) ≡ cond (holds p) (b p ∷ []) []
        one =
            ap (λ w. map f (filter (sees x) w)) (twice (set_of xs))
            ∙ once f (b p) x entry (λ z. refl) (same p) (in_order is_below xs)
            ∙ ap (λ t. cond t (b p ∷ []) []) (among_in_order x xs)

        inside : (t : Bool) → map b (cond t (p ∷ filter holds ps) (filter holds ps)) ≡ cond t (b p ∷ map b (filter holds ps)) (map b (filter holds ps))
        inside true = refl
        inside false = refl

  unmapped : (ps : List Pair) → map (λ p. p) ps ≡ ps
  unmapped [] = refl
  unmapped (p ∷ ps) = ap (λ w. p ∷ w) (unmapped ps)

  pub pairs_are : (ps : List Pair) → map seen_pair (filter (sees x) (sightings_of side history ps)) ≡ filter holds ps
  pairs_are ps = entries_of seen_pair (λ p. p) (λ p z e. refl) ps ∙ unmapped (filter holds ps)

  times_are : (ps : List Pair) → map seen_times (filter (sees x) (sightings_of side history ps)) ≡ map (λ p. count_of (shown_in side history p) x) (filter holds ps)
  times_are ps = entries_of seen_times (λ p. count_of (shown_in side history p) x) (λ p z e. count_same x z e (shown_in side history p)) ps

  none_count : (zs : List Edn) → has_same_value zs x ≡ false → count_of zs x ≡ 0
  none_count [] h = refl
  none_count (z ∷ zs) h = count_cons x z zs ∙ both (is_same x z) h (none_count zs) where
    both : (t : Bool) → (t || has_same_value zs x) ≡ false → (has_same_value zs x ≡ false → count_of zs x ≡ 0) → cond t 1 0 + count_of zs x ≡ 0
    both true k rest = absurd (let bad : true ≡ false = k in cc)
    both false k rest = omega (arith, rest k)

  greater : (n : ℕ) (o : Option ℕ) → unwrap_or (later_of (Some n) o) 0 ≡ max n (unwrap_or o 0)
  greater n None = omega arith
  greater n (Some m) = refl

  most_is : (ps : List Pair) → unwrap_or (greatest_of (map (λ p. count_of (shown_in side history p) x) (filter holds ps))) 0 ≡ unwrap_or (greatest_of (map (λ p. count_of (shown_in side history p) x) ps)) 0
  most_is [] = refl
  most_is (p ∷ ps) =
      elim (holds p) as (λ t. holds p ≡ t → unwrap_or (greatest_of (map count (cond t (p ∷ filter holds ps) (filter holds ps)))) 0 ≡ unwrap_or (greatest_of (map count (p ∷ ps))) 0) [
        | true ↦ λ is. greater (count p) (greatest_of (map count (filter holds ps))) ∙ ap (max (count p)) (most_is ps) ∙ sym (greater (count p) (greatest_of (map count ps)))
        | false ↦ λ is.
            let none : count p ≡ 0 = none_count (shown_in side history p) is in
            most_is ps ∙ omega (arith, none, greater (count p) (greatest_of (map count ps)))
      ] refl where
        count : Pair → ℕ
        count q = count_of (shown_in side history q) x

  pub most_times : (ps : List Pair) → unwrap_or (greatest_of (map seen_times (filter (sees x) (sightings_of side history ps)))) 0 ≡ unwrap_or (greatest_of (map (λ p. count_of (shown_in side history p) x) ps)) 0
  most_times ps = ap (λ w. unwrap_or (greatest_of w) 0) (times_are ps) ∙ most_is ps

-- ---- counted in order or in any

abbrev counted : List Edn → Edn → Edn × ℕ
counted xs z = (z, count_of xs z)

counted_again : (xs ys zs : List Edn) → ((z : Edn) → count_of xs z ≡ count_of ys z) → map (counted xs) zs ≡ map (counted ys) zs
counted_again xs ys [] same = refl
counted_again xs ys (z ∷ zs) same = λ i. (z, same z i) ∷ counted_again xs ys zs same i

pub counted_sorted : (xs : List Edn) → counted_in_order (in_order is_below xs) ≡ counted_in xs
counted_sorted xs = counted_again (in_order is_below xs) xs (set_of xs) (λ z. count_in_order z xs)

pub sightings_more : (side : Side) (history : List Operation) (ps : List Pair) (i : ℕ) (d : Pair) → i < length ps
    → sightings_of side history (take i ps) ++ sightings_by side history (get_or ps i d) ≡ sightings_of side history (take (i + 1) ps)
sightings_more side history ps i d less =
    let p = get_or ps i d in
    ap (λ w. sightings_of side history (take i ps) ++ w) (sym (append_end (sightings_by side history p)))
    ∙ sym (flat_map-append (sightings_by side history) (take i ps) (p ∷ []))
    ∙ ap (sightings_of side history) (sym (take_more ps i d less)) where
      append_end : (ts : List Seen) → ts ++ [] ≡ ts
      append_end [] = refl
      append_end (t ∷ ts) = ap (λ w. t ∷ w) (append_end ts)

-- ---- where they stand

abbrev element_of : Sighting → Edn
element_of s = view s.element

abbrev pub held : Sighting → Sighting → Bool
held a b = is_below (view a.element) (view b.element)

neighbours : (ss : List Sighting) → AreByElement ss → (k : ℕ) (d : Sighting) → k + 1 < length ss → held (get_or ss (k + 1) d) (get_or ss k d) ≡ false
neighbours [] a k d less = absurd (omega arith)
neighbours (s ∷ []) a k d less = absurd (omega arith)
neighbours (s ∷ t ∷ ss) a zero d less = a.0.0
neighbours (s ∷ t ∷ ss) a (suc k) d less = let e : suc k + 1 ≡ suc (k + 1) = omega arith in rw e (neighbours (t ∷ ss) a.1 k d (omega arith))

abbrev rank : Edn → Sighting → ℕ
rank x s = ordering_index (edn_cmp (view s.element) x)

ranked : (x : Edn) (ss : List Sighting) → AreByElement ss → IsNonDecreasingBy (rank x) ss
ranked x ss a = searchable_from_sorted edn_total element_of ss x (λ k d low less. neighbours ss a k d less)

parted : (p : Ordering → Bool) (t : ℕ) → ((o : Ordering) → p o ≡ ltb (ordering_index o) t) → (x : Edn) (ss : List Sighting) → AreByElement ss → IsPartitionedBy (λ s. p (edn_cmp (view s.element) x)) ss
parted p t is x ss a = λ i j d le less h.
    is (edn_cmp (view (get_or ss i d).element) x)
    ∙ IsPartitionedBy-ltb (rank x) ss t (ranked x ss a) i j d le less (sym (is (edn_cmp (view (get_or ss j d).element) x)) ∙ h)

below_rank : (o : Ordering) → is_lt o ≡ ltb (ordering_index o) 1
below_rank Less = refl
below_rank Equal = refl
below_rank Greater = refl

within_rank : (o : Ordering) → is_le o ≡ ltb (ordering_index o) 2
within_rank Less = refl
within_rank Equal = refl
within_rank Greater = refl

pub parted_below : (x : Edn) (ss : List Sighting) → AreByElement ss → IsPartitionedBy (λ s. is_lt (edn_cmp (view s.element) x)) ss
parted_below x ss a = parted is_lt 1 below_rank x ss a

pub parted_within : (x : Edn) (ss : List Sighting) → AreByElement ss → IsPartitionedBy (λ s. is_le (edn_cmp (view s.element) x)) ss
parted_within x ss a = parted is_le 2 within_rank x ss a

segment : {X : Type 0} (p : X → Bool) (xs : List X) (i n : ℕ)
    → ((k : ℕ) (d : X) → k < i → k < length xs → p (get_or xs k d) ≡ false)
    → ((k : ℕ) (d : X) → i ≤ k → k < i + n → k < length xs → p (get_or xs k d) ≡ true)
    → ((k : ℕ) (d : X) → i + n ≤ k → k < length xs → p (get_or xs k d) ≡ false)
    → filter p xs ≡ take n (drop i xs)
segment p [] zero zero low mid high = refl
segment p [] zero (suc n) low mid high = refl
segment p [] (suc i) zero low mid high = refl
segment p [] (suc i) (suc n) low mid high = refl
segment p (x ∷ xs) zero zero low mid high =
    rw (high 0 x (omega arith) (omega arith)) (segment p xs zero zero (λ k d l m. absurd (omega arith)) (λ k d l m s. absurd (omega arith)) (λ k d l m. high (suc k) d (omega arith) (omega arith)))
segment p (x ∷ xs) zero (suc n) low mid high =
    rw (mid 0 x (omega arith) (omega arith) (omega arith)) (ap (λ w. x ∷ w) (segment p xs zero n (λ k d l m. absurd (omega arith)) (λ k d l m s. mid (suc k) d (omega arith) (omega arith) (omega arith)) (λ k d l m. high (suc k) d (omega arith) (omega arith))))
segment p (x ∷ xs) (suc i) n low mid high =
    rw (low 0 x (omega arith) (omega arith)) (segment p xs i n (λ k d l m. low (suc k) d (omega arith) (omega arith)) (λ k d l m s. mid (suc k) d (omega arith) (omega arith) (omega arith)) (λ k d l m. high (suc k) d (omega arith) (omega arith)))

below_apart : (o : Ordering) → is_lt o ≡ true → is_eq o ≡ false
below_apart Less h = refl
below_apart Equal h = absurd cc
below_apart Greater h = refl

tied_same : (o : Ordering) → is_lt o ≡ false → is_le o ≡ true → is_eq o ≡ true
tied_same Less h k = absurd cc
tied_same Equal h k = refl
tied_same Greater h k = absurd cc

above_apart : (o : Ordering) → is_le o ≡ false → is_eq o ≡ false
above_apart Less h = absurd cc
above_apart Equal h = absurd cc
above_apart Greater h = refl

not_both : (o : Ordering) → is_lt o ≡ true → is_le o ≡ false → ⊥
not_both Less h k = cc
not_both Equal h k = cc
not_both Greater h k = cc

module _ (x : Edn) (ss : List Sighting) (i j : ℕ) (le : i ≤ length ss) (short : j ≤ length ss)
    (below : IsPartitionPoint (λ s. is_lt (edn_cmp (view s.element) x) ≡ true) (λ s. is_lt (edn_cmp (view s.element) x) ≡ false) ss i)
    (within : IsPartitionPoint (λ s. is_le (edn_cmp (view s.element) x) ≡ true) (λ s. is_le (edn_cmp (view s.element) x) ≡ false) ss j) where
  side_by : (a b : ℕ) → (b < a) ⊎ (a ≤ b)
  side_by zero b = inr (omega arith)
  side_by (suc a) zero = inl (omega arith)
  side_by (suc a) (suc b) = elim (side_by a b) [ inl h ↦ inl (omega (arith, h)) | inr h ↦ inr (omega (arith, h)) ]

  at_end : (d : Sighting) → j < i → ⊥
  at_end d less = not_both _ (below.0 j d (omega (arith, le, less)) less) (within.1 j d (omega arith) (omega (arith, le, less)))

  pub ends_ordered : i ≤ j
  ends_ordered = elim (side_by i j) [ inl h ↦ absurd (some ss (omega (arith, le, h)) (λ d. at_end d h)) | inr h ↦ h ] where
    some : (ts : List Sighting) → 0 < length ts → ((d : Sighting) → ⊥) → ⊥
    some [] less never = absurd (omega (arith, less))
    some (t ∷ ts) less never = never t

  pub part_is : filter (λ s. sees x (seen s)) ss ≡ take (j - i) (drop i ss)
  part_is =
      let same : (k : ℕ) (d : Sighting) → is_same x (view (get_or ss k d).element) ≡ is_eq (edn_cmp (view (get_or ss k d).element) x) = λ k d. same_back x (view (get_or ss k d).element) in
      segment (λ s. sees x (seen s)) ss i (j - i)
      (λ k d less there. same k d ∙ below_apart _ (below.0 k d (omega arith) less))
      (λ k d low less there. same k d ∙ tied_same _ (below.1 k d low (omega arith)) (within.0 k d (omega arith) (omega (arith, less, ends_ordered))))
      (λ k d low there. same k d ∙ above_apart _ (within.1 k d (omega (arith, low, ends_ordered)) there))
