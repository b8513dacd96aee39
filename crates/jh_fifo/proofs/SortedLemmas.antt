-- Keys with their indexes, sorted.
use Rattle.std.proofs.Common.{◌≡◌, ℕ, zero, suc, ◌+◌, ◌<◌, ◌≤◌, true, false, eqb, List, [], ◌∷◌, ◌++◌, length, get_or, map, refl, sym, ap, subst, ◌∙◌, inl, inr, arith}
use Rattle.std.specs.List.{All}
use Rattle.std.specs.List.Sorted.{IsPermutation, IsSorted}
use Rattle.std.specs.Ordering.{nat_cmp, is_lt, ordering_then}
use Rattle.std.proofs.lemmas.Bool.{false≢true, or_right, cases_lt}
use Rattle.std.proofs.lemmas.Bool.Decides.{nat_tests}
use Rattle.std.proofs.lemmas.List.{map-append}
use Rattle.std.proofs.lemmas.List.Elements.{All-nil, All-push}
use Rattle.std.proofs.lemmas.List.Sorted.{All-permutation, IsPermutation-map, IsNonDecreasingBy-from_all_adjacent, list_any-IsPermutation}
use Rattle.std.proofs.lemmas.Map.Keys.{IsDistinct-IsPermutation}
use Rattle.jh_fifo.specs.Order.{has_place, HasNoPlaceTwice}
use Rattle.jh_fifo.specs.Sorted.{key_entry_at, AreSortedKeys}
use Rattle.jh_fifo.proofs.ListLemmas.{has_left, has_right, has_head, has_cons, head_once, tail_once, none_twice, once_push}

abbrev pub seconds : List (ℕ × ℕ) → List ℕ
seconds xs = map (λ x. x.1) xs

-- The keys below a bound, with their indexes.
pub record AreEntries (keys : List ℕ) (bound : ℕ) (entries : List (ℕ × ℕ)) : Type 0 where
  pub each : All (λ e. (e.1 < bound) × (e.0 ≡ get_or keys e.1 0)) entries
  pub whole : (index : ℕ) → index < bound → has_place (seconds entries) index ≡ true
  pub distinct : HasNoPlaceTwice (seconds entries)

index_of : (xs : List (ℕ × ℕ)) (i : ℕ) → has_place (seconds xs) i ≡ true → (k : ℕ) × (k < length xs) × ((key_entry_at xs k).1 ≡ i)
index_of [] i h = absurd (false≢true h)
index_of (x ∷ xs) i h = elim (has_cons x.1 (seconds xs) i h) as (λ _. (k : ℕ) × (k < length (x ∷ xs)) × ((key_entry_at (x ∷ xs) k).1 ≡ i)) [
  | inl e ↦ (0, omega arith, e)
  | inr there ↦ let r = index_of xs i there in (suc r.0, omega (arith, r.1), r.2)
]

-- the key of an item
pub key_at : {X : Type 0} (g : X → ℕ) (d : X) (xs : List X) (m : ℕ) → m < length xs → get_or (map g xs) m 0 ≡ g (get_or xs m d)
key_at g d [] m low = absurd (omega (arith, low))
key_at g d (x ∷ xs) zero low = refl
key_at g d (x ∷ xs) (suc m) low = key_at g d xs m (omega (arith, low))

pub length_map : {X : Type 0} (g : X → ℕ) (xs : List X) → length (map g xs) ≡ length xs
length_map g [] = refl
length_map g (x ∷ xs) = ap (λ n. suc n) (length_map g xs)

-- an entry's index stands among the indexes
index_has : (xs : List (ℕ × ℕ)) (k : ℕ) → k < length xs → has_place (seconds xs) (key_entry_at xs k).1 ≡ true
index_has [] k low = absurd (omega (arith, low))
index_has (x ∷ xs) zero low = has_head x.1 (seconds xs)
index_has (x ∷ xs) (suc k) low = or_right (eqb x.1 (key_entry_at xs k).1) _ (index_has xs k (omega (arith, low)))

are_apart : (xs : List (ℕ × ℕ)) → HasNoPlaceTwice (seconds xs) → (i j : ℕ) → i < j → j < length xs → (key_entry_at xs i).1 ≡ (key_entry_at xs j).1 → ⊥
are_apart [] once i j lt low same = omega (arith, low)
are_apart (x ∷ xs) once i zero lt low same = omega (arith, lt)
are_apart (x ∷ xs) once zero (suc j) lt low same = head_once x.1 (seconds xs) once (subst (λ y. has_place (seconds xs) y ≡ true) (sym same) (index_has xs j (omega (arith, low))))
are_apart (x ∷ xs) once (suc i) (suc j) lt low same = are_apart xs (tail_once x.1 (seconds xs) once) i j (omega (arith, lt)) (omega (arith, low)) same

flips : (x y : ℕ) → eqb x y ≡ eqb y x
flips x y = grind (arith, nat_tests)

index_below : (P : ℕ × ℕ → Type 0) (n : ℕ) (xs : List (ℕ × ℕ)) → All (λ e. (e.1 < n) × P e) xs → has_place (seconds xs) n ≡ true → ⊥
index_below P n xs all h = let r = index_of xs n h in let a = (all r.0 (0, 0) r.1).0 in absurd (omega (arith, a, r.2))

not_below : (a b : ℕ × ℕ) → is_lt (ordering_then (nat_cmp b.0 a.0) (nat_cmp b.1 a.1)) ≡ false → a.0 ≤ b.0
not_below a b h = grind (arith, nat_tests)

module _ (keys : List ℕ) where
  pub entries_none : AreEntries keys 0 []
  entries_none = record {
    each = All-nil (λ e. (e.1 < 0) × (e.0 ≡ get_or keys e.1 0));
    whole = λ i low. absurd (omega (arith, low));
    distinct = none_twice;
  }

  pub entries_push : (n key : ℕ) (xs : List (ℕ × ℕ)) → key ≡ get_or keys n 0 → AreEntries keys n xs → AreEntries keys (n + 1) (xs ++ (key, n) ∷ [])
  entries_push n key xs is so = record {
    each = All-push (λ e. (e.1 < n + 1) × (e.0 ≡ get_or keys e.1 0)) xs (key, n) (λ k d lt. let r = so.each k d lt in (omega (arith, r.0), r.1)) (omega arith, is);
    whole = λ i low. subst (λ zs. has_place zs i ≡ true) (sym (map-append (λ (x : ℕ × ℕ). x.1) xs ((key, n) ∷ []))) (elim (cases_lt i n) as (λ _. has_place (seconds xs ++ n ∷ []) i ≡ true) [
      | inl lt ↦ has_left (seconds xs) (n ∷ []) i (so.whole i lt)
      | inr ge ↦ (let same : n ≡ i = omega (arith, low, ge) in has_right (seconds xs) (n ∷ []) i (subst (λ z. has_place (n ∷ []) z ≡ true) same (has_head n [])))
    ]);
    distinct = subst HasNoPlaceTwice (sym (map-append (λ (x : ℕ × ℕ). x.1) xs ((key, n) ∷ []))) (once_push (seconds xs) n so.distinct (index_below (λ e. e.0 ≡ get_or keys e.1 0) n xs so.each));
  }

  pub entries_sorted : (xs ys : List (ℕ × ℕ)) → IsPermutation xs ys → IsSorted (λ x y. ordering_then (nat_cmp x.0 y.0) (nat_cmp x.1 y.1)) ys → AreEntries keys (length keys) xs → AreSortedKeys keys ys
  entries_sorted xs ys moves rises so = record {
    each = λ k low. All-permutation (λ e. (e.1 < length keys) × (e.0 ≡ get_or keys e.1 0)) xs ys moves so.each k (0, 0) low;
    whole = λ i low. index_of ys i (sym (list_any-IsPermutation (λ y. eqb y i) (seconds xs) (seconds ys) (IsPermutation-map (λ x. x.1) xs ys moves)) ∙ so.whole i low);
    rise = λ i j le low. IsNonDecreasingBy-from_all_adjacent (λ x. x.0) ys (λ k d lt. not_below (get_or ys k d) (get_or ys (k + 1) d) (rises k d (omega arith) lt)) i j (0, 0) le low;
    apart = are_apart ys (IsDistinct-IsPermutation eqb flips (seconds xs) (seconds ys) (IsPermutation-map (λ x. x.1) xs ys moves) so.distinct);
  }
