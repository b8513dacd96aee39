-- Numbers, sorted by keys, and what is picked from them.
use Rattle.std.proofs.Common.{◌≡◌, ℕ, suc, ◌+◌, ◌<◌, ◌≤◌, true, eqb, List, [], ◌∷◌, ◌++◌, length, get_or, refl, sym, subst, ◌∙◌, inl, inr, arith, false}
use Rattle.std.specs.List.{All}
use Rattle.std.specs.List.Sorted.{IsPermutation, IsSorted}
use Rattle.std.specs.Ordering.{nat_cmp, is_lt, ordering_then}
use Rattle.std.proofs.lemmas.Bool.{false≢true, cases_lt}
use Rattle.std.proofs.lemmas.Bool.Decides.{nat_tests}
use Rattle.std.proofs.lemmas.List.{map-append}
use Rattle.std.proofs.lemmas.List.Elements.{All-nil, All-push, All-head, All-tail}
use Rattle.std.proofs.lemmas.List.Sorted.{All-permutation, IsPermutation-map, IsNonDecreasingBy-from_all_adjacent, list_any-IsPermutation}
use Rattle.std.proofs.lemmas.Map.Keys.{IsDistinct-IsPermutation}
use Rattle.jh_linear.specs.declared.register.RegOp.{RegOp}
use Rattle.jh_linear.specs.Order.{has, StandBefore, HasNoneTwice}
use Rattle.jh_unique.specs.Sorted.{seconds_of, AreKeyedNumbers, RiseInKeys, AreSortedOut, HasInvocation, IsTurnOfOps, ArePicked}
use Rattle.jh_unique.proofs.ListLemmas.{none_twice, has_left, has_right, has_cases, has_head, has_cons, one_is, once_push, once_if, before_itself, before_push, before_left, before_across}
use Rattle.jh_unique.proofs.StepLemmas.{flips}

pub entry_has : (P : ℕ × ℕ → Type 0) (xs : List (ℕ × ℕ)) → All P xs → (c : ℕ) → has (seconds_of xs) c ≡ true → (k : ℕ) × P (k, c) × (j : ℕ) × (j < length xs) × ((get_or xs j (0, 0)).0 ≡ k)
entry_has P [] all c h = absurd (false≢true h)
entry_has P (x ∷ xs) all c h = elim (has_cons x.1 (seconds_of xs) c h) as (λ _. (k : ℕ) × P (k, c) × (j : ℕ) × (j < length (x ∷ xs)) × ((get_or (x ∷ xs) j (0, 0)).0 ≡ k)) [
  | inl e ↦ (x.0, subst (λ z. P (x.0, z)) e (All-head P x xs all), 0, omega arith, refl)
  | inr there ↦ let r = entry_has P xs (All-tail P x xs all) c there in (r.0, r.1, suc r.2, omega (arith, r.3), r.4)
]

pub entry_before : (P : ℕ × ℕ → Type 0) (xs : List (ℕ × ℕ)) → All P xs → RiseInKeys xs → (c d : ℕ) → StandBefore (seconds_of xs) c d → (k : ℕ) × (l : ℕ) × P (k, c) × P (l, d) × (k ≤ l)
entry_before P [] all rise c d h = absurd h
entry_before P (x ∷ xs) all rise c d h = elim h as (λ _. (k : ℕ) × (l : ℕ) × P (k, c) × P (l, d) × (k ≤ l)) [
  | inl now ↦
      let r = entry_has P xs (All-tail P x xs all) d now.1 in
      let le : x.0 ≤ (get_or xs r.2 (0, 0)).0 = rise 0 (suc r.2) (0, 0) (omega arith) (omega (arith, r.3)) in
      (x.0, r.0, subst (λ z. P (x.0, z)) now.0 (All-head P x xs all), r.1, subst (λ n. x.0 ≤ n) r.4 le)
  | inr later ↦ entry_before P xs (All-tail P x xs all) (λ i j e le lt. rise (suc i) (suc j) e (omega (arith, le)) (omega (arith, lt))) c d later
]

module _ (IsKeyOf : ℕ → ℕ → Type 0) (from : ℕ) where
  abbrev Each : ℕ → ℕ × ℕ → Type 0
  Each n x = (from ≤ x.1) × (x.1 < n) × IsKeyOf x.1 x.0

  pub keyed_none : AreKeyedNumbers IsKeyOf from from []
  keyed_none = record {
    each = All-nil (Each from);
    whole = λ c above low. absurd (omega (arith, above, low));
    distinct = none_twice;
  }

  wider : (n : ℕ) (xs : List (ℕ × ℕ)) → All (Each n) xs → All (Each (n + 1)) xs
  wider n xs h = λ k d lt. let r = h k d lt in (r.0, omega (arith, r.1), r.2)

  pub keyed_push : (n key : ℕ) (xs : List (ℕ × ℕ)) → from ≤ n → IsKeyOf n key → AreKeyedNumbers IsKeyOf from n xs → AreKeyedNumbers IsKeyOf from (n + 1) (xs ++ (key, n) ∷ [])
  keyed_push n key xs above is_key so =
      let is : seconds_of (xs ++ (key, n) ∷ []) ≡ seconds_of xs ++ n ∷ [] = map-append (λ (x : ℕ × ℕ). x.1) xs ((key, n) ∷ []) in
      record {
        each = All-push (Each (n + 1)) xs (key, n) (wider n xs so.each) (above, omega arith, is_key);
        whole = λ c high low. subst (λ zs. has zs c ≡ true) (sym is) (elim (cases_lt c n) as (λ _. has (seconds_of xs ++ n ∷ []) c ≡ true) [
          | inl lt ↦ has_left (seconds_of xs) (n ∷ []) c (so.whole c high lt)
          | inr ge ↦ (let same : n ≡ c = omega (arith, low, ge) in has_right (seconds_of xs) (n ∷ []) c (subst (λ z. has (n ∷ []) z ≡ true) same (has_head n [])))
        ]);
        distinct = subst HasNoneTwice (sym is) (once_push (seconds_of xs) n so.distinct (λ h. let r = entry_has (Each n) xs so.each n h in absurd (omega (arith, r.1.1))));
      }

  pub keyed_moved : (n : ℕ) (xs ys : List (ℕ × ℕ)) → IsPermutation xs ys → AreKeyedNumbers IsKeyOf from n xs → AreKeyedNumbers IsKeyOf from n ys
  keyed_moved n xs ys moved so =
      let seconds_moved = IsPermutation-map (λ x. x.1) xs ys moved in
      record {
        each = All-permutation (Each n) xs ys moved so.each;
        whole = λ c above low. sym (list_any-IsPermutation (λ y. eqb y c) (seconds_of xs) (seconds_of ys) seconds_moved) ∙ so.whole c above low;
        distinct = IsDistinct-IsPermutation eqb flips (seconds_of xs) (seconds_of ys) seconds_moved so.distinct;
      }

not_below : (a b : ℕ × ℕ) → is_lt (ordering_then (nat_cmp b.0 a.0) (nat_cmp b.1 a.1)) ≡ false → a.0 ≤ b.0
not_below a b h = grind (arith, nat_tests)

pub they_rise : (xs : List (ℕ × ℕ)) → IsSorted (λ x y. ordering_then (nat_cmp x.0 y.0) (nat_cmp x.1 y.1)) xs → RiseInKeys xs
they_rise xs sorted = IsNonDecreasingBy-from_all_adjacent (λ x. x.0) xs (λ k d lt. not_below (get_or xs k d) (get_or xs (k + 1) d) (sorted k d (omega arith) lt))

-- all operations, by their invocations
pub turn_sorted : (ops : List RegOp) (entries : List (ℕ × ℕ)) (turn : List ℕ) → AreKeyedNumbers (HasInvocation ops) 0 (length ops) entries → AreSortedOut entries turn → IsTurnOfOps ops turn
turn_sorted ops entries turn are out =
    let xs = out.0 in
    let so : AreKeyedNumbers (HasInvocation ops) 0 (length ops) xs = keyed_moved (HasInvocation ops) 0 (length ops) entries xs out.1 are in
    let sorted : IsTurnOfOps ops (seconds_of xs) = record {
      distinct = so.distinct;
      low = λ p h. (entry_has (Each (HasInvocation ops) 0 (length ops)) xs so.each p h).1.1;
      whole = λ p lt. so.whole p (omega arith) lt;
      rise = λ p q h. (let r = entry_before (Each (HasInvocation ops) 0 (length ops)) xs so.each out.2 p q h in omega (arith, r.2.2, r.3.2, r.4));
    } in
    subst (IsTurnOfOps ops) (sym out.3) sorted

module _ (IsKind : ℕ → Type 0) where
  pub picked_none : ArePicked IsKind [] []
  picked_none = record { each = λ p h. absurd (false≢true h); whole = λ p h is. absurd (false≢true h); in_turn = λ p q h. absurd h }

  pub picked_skip : (turn numbers : List ℕ) (x : ℕ) → ArePicked IsKind turn numbers → (IsKind x → ⊥) → ArePicked IsKind (turn ++ x ∷ []) numbers
  picked_skip turn numbers x so none = record {
    each = λ p h. let e = so.each p h in (has_left turn (x ∷ []) p e.0, e.1);
    whole = λ p h is. elim (has_cases turn (x ∷ []) p h) as (λ _. has numbers p ≡ true) [ inl old ↦ so.whole p old is | inr here ↦ absurd (none (subst IsKind (sym (one_is x p here)) is)) ];
    in_turn = λ p q h. before_left turn (x ∷ []) p q (so.in_turn p q h);
  }

  pub picked_push : (turn numbers : List ℕ) (x : ℕ) → ArePicked IsKind turn numbers → IsKind x → ArePicked IsKind (turn ++ x ∷ []) (numbers ++ x ∷ [])
  picked_push turn numbers x so is_x = record {
    each = λ p h. elim (has_cases numbers (x ∷ []) p h) as (λ _. (has (turn ++ x ∷ []) p ≡ true) × IsKind p) [
      | inl old ↦ (let e = so.each p old in (has_left turn (x ∷ []) p e.0, e.1))
      | inr here ↦ (has_right turn (x ∷ []) p here, subst IsKind (one_is x p here) is_x)
    ];
    whole = λ p h is. elim (has_cases turn (x ∷ []) p h) as (λ _. has (numbers ++ x ∷ []) p ≡ true) [ inl old ↦ has_left numbers (x ∷ []) p (so.whole p old is) | inr here ↦ has_right numbers (x ∷ []) p here ];
    in_turn = λ p q h. elim (before_push numbers x p q h) as (λ _. StandBefore (turn ++ x ∷ []) p q) [
      | inl old ↦ before_left turn (x ∷ []) p q (so.in_turn p q old)
      | inr new ↦ before_across turn (x ∷ []) p q (so.each p new.0).0 (subst (λ z. has (x ∷ []) z ≡ true) new.1 (has_head x []))
    ];
  }

  pub picked_once : (turn numbers : List ℕ) → HasNoneTwice turn → ArePicked IsKind turn numbers → HasNoneTwice numbers
  picked_once turn numbers once so = once_if numbers (λ a h. before_itself turn a once (so.in_turn a a h))
