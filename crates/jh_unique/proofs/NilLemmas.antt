-- Reads of nil, merged into an order.
use Rattle.std.proofs.Common.{◌≡◌, ℕ, zero, suc, ◌+◌, ◌<◌, ◌≤◌, ℤ, true, Option, List, [], ◌∷◌, ◌++◌, length, take, drop, get_or, refl, sym, ap, subst, ◌∙◌, inl, inr, arith}
use Rattle.std.specs.Prelude.{◌⊎◌}
use Rattle.std.proofs.lemmas.Bool.{false≢true, cases_lt, cases_eq}
use Rattle.std.proofs.lemmas.List.{get_or-take, drop_more, length-take}
use Rattle.jh_linear.specs.declared.register.RegOp.{RegOp}
use Rattle.jh_linear.specs.Order.{op_at, IsDone, EndAfterInvoked, IsOrder, has, StandBefore}
use Rattle.jh_unique.specs.Clusters.{IsPart, ReadsNil}
use Rattle.jh_unique.specs.Nils.{IsNilRead, IsTurnOfRead, IsMergedSoFar}
use Rattle.jh_unique.specs.Sorted.{IsTurnOfOps, ArePicked}
use Rattle.jh_unique.proofs.ListLemmas.{has_cases, has_cons, has_middle, one_is, append_nil_right, middle_shift, place_of, place_has, twice_at}
use Rattle.jh_unique.proofs.SortedLemmas.{picked_once}
use Rattle.jh_unique.proofs.PartLemmas.{more_part, has_more, has_less, possible_there, done_possible, whole_part}

before_at : (xs : List ℕ) (i j : ℕ) → i < j → j < length xs → StandBefore xs (get_or xs i 0) (get_or xs j 0)
before_at [] i j lt low = absurd (omega (arith, low))
before_at (x ∷ xs) i zero lt low = absurd (omega (arith, lt))
before_at (x ∷ xs) zero (suc j) lt low = inl (refl, place_has xs j (omega (arith, low)))
before_at (x ∷ xs) (suc i) (suc j) lt low = inr (before_at xs i j (omega (arith, lt)) (omega (arith, low)))

module _ (ops : List RegOp) (r : ℕ) where
  late_from : (order : List ℕ) (at : ℕ) → (at < length order → (op_at ops r).invoked < (op_at ops (get_or order at 0)).invoked) → (y : ℕ) → has (drop at order) y ≡ true
      → (b : ℕ) × ((op_at ops r).invoked < (op_at ops b).invoked) × ((b ≡ y) ⊎ StandBefore (drop at order) b y)
  late_from [] zero late y h = absurd (false≢true h)
  late_from [] (suc at) late y h = absurd (false≢true h)
  late_from (x ∷ xs) zero late y h = (x, late (omega arith), elim (has_cons x xs y h) as (λ _. (x ≡ y) ⊎ StandBefore (x ∷ xs) x y) [ inl e ↦ inl e | inr there ↦ inr (inl (refl, there)) ])
  late_from (x ∷ xs) (suc at) late y h = late_from xs at (λ low. late (omega (arith, low))) y h

module _ (ops : List RegOp) (initial : Option ℤ) (ends : EndAfterInvoked ops) (turn : List ℕ) (is_turn : IsTurnOfOps ops turn) (order nils : List ℕ) (picked : ArePicked (IsNilRead ops) turn nils)
    (none : (p : ℕ) → has order p ≡ true → ReadsNil ops p → ⊥) where
  pub merged_start : IsPart ops initial order → IsMergedSoFar ops initial order nils 0 0 []
  merged_start part = record {
    at_low = omega arith;
    next_low = omega arith;
    part = part;
    early = λ p i h le lt. absurd (false≢true h);
    kept = λ p h. h;
    taken = λ i lt. absurd (omega (arith, lt));
    only = λ p h. inl h;
  }

  nil_at : (i : ℕ) → i < length nils → IsNilRead ops (get_or nils i 0)
  nil_at i low = (picked.each (get_or nils i 0) (place_has nils i low)).1

  nils_rise : (i j : ℕ) → i ≤ j → j < length nils → (op_at ops (get_or nils i 0)).invoked ≤ (op_at ops (get_or nils j 0)).invoked
  nils_rise i j le low = elim (cases_eq i j) as (λ _. (op_at ops (get_or nils i 0)).invoked ≤ (op_at ops (get_or nils j 0)).invoked) [
    | inl same ↦ subst (λ k. (op_at ops (get_or nils i 0)).invoked ≤ (op_at ops (get_or nils k 0)).invoked) same (omega arith)
    | inr differ ↦ is_turn.rise (get_or nils i 0) (get_or nils j 0) (picked.in_turn (get_or nils i 0) (get_or nils j 0) (before_at nils i j (omega (arith, le, differ)) low))
  ]

  module _ (at next : ℕ) (all : List ℕ) (so : IsMergedSoFar ops initial order nils at next all) where
    pub merged_read : IsTurnOfRead ops order at nils next → IsMergedSoFar ops initial order nils at (next + 1) (all ++ get_or nils next 0 ∷ [])
    merged_read takes =
        let r = get_or nils next 0 in
        let is_nil = nil_at next takes.0 in
        let rest = drop at order in
        let shift : all ++ r ∷ rest ≡ (all ++ r ∷ []) ++ rest = middle_shift all rest r in
        let new : has (all ++ rest) r ≡ true → ⊥ = λ h. elim (so.only r h) as (λ _. ⊥) [
          | inl old ↦ none r old is_nil.1
          | inr earlier ↦
              let inside : earlier.0 < length (take next nils) = omega (arith, length-take next nils, takes.0, earlier.1) in
              let there : has (take next nils) r ≡ true = subst (λ z. has (take next nils) z ≡ true) (get_or-take next nils earlier.0 0 earlier.1 ∙ earlier.2) (place_has (take next nils) earlier.0 inside) in
              twice_at nils next takes.0 there (picked_once (IsNilRead ops) turn nils is_turn.distinct picked)
        ] in
        let late : at < length order → (op_at ops r).invoked < (op_at ops (get_or order at 0)).invoked = λ low. elim takes.1 as (λ _. (op_at ops r).invoked < (op_at ops (get_or order at 0)).invoked) [ inl past ↦ absurd (omega (arith, low, past)) | inr lt ↦ lt ] in
        let part' = more_part ops r initial ends is_nil.1 is_nil.0 (all ++ rest) new so.part all rest refl (λ x h. so.early x next h (omega arith) takes.0) (late_from ops r order at late) in
        record {
          at_low = so.at_low;
          next_low = omega (arith, takes.0);
          part = subst (IsPart ops initial) shift part';
          early = λ p i h le lt. elim (has_cases all (r ∷ []) p h) as (λ _. (op_at ops p).invoked ≤ (op_at ops (get_or nils i 0)).invoked) [
            | inl old ↦ so.early p i old (omega (arith, le)) lt
            | inr here ↦ subst (λ z. (op_at ops z).invoked ≤ (op_at ops (get_or nils i 0)).invoked) (one_is r p here) (nils_rise next i (omega (arith, le)) lt)
          ];
          kept = λ p h. subst (λ xs. has xs p ≡ true) shift (has_more ops r all rest p (so.kept p h));
          taken = λ i lt. subst (λ xs. has xs (get_or nils i 0) ≡ true) shift (elim (cases_eq i next) as (λ _. has (all ++ r ∷ rest) (get_or nils i 0) ≡ true) [
            | inl same ↦ subst (λ k. has (all ++ r ∷ rest) (get_or nils k 0) ≡ true) (sym same) (has_middle all rest r)
            | inr differ ↦ has_more ops r all rest (get_or nils i 0) (so.taken i (omega (arith, lt, differ)))
          ]);
          only = λ p h. elim (has_less ops r all rest p (subst (λ xs. has xs p ≡ true) (sym shift) h)) as (λ _. (has order p ≡ true) ⊎ ((i : ℕ) × (i < next + 1) × (get_or nils i 0 ≡ p))) [
            | inl here ↦ inr (next, omega arith, here)
            | inr old ↦ elim (so.only p old) as (λ _. (has order p ≡ true) ⊎ ((i : ℕ) × (i < next + 1) × (get_or nils i 0 ≡ p))) [
              | inl was ↦ inl was
              | inr earlier ↦ inr (earlier.0, omega (arith, earlier.1), earlier.2)
            ]
          ];
        }

    pub merged_order : at < length order → (IsTurnOfRead ops order at nils next → ⊥) → IsMergedSoFar ops initial order nils (at + 1) next (all ++ get_or order at 0 ∷ [])
    merged_order low not_read =
        let x = get_or order at 0 in
        let same : all ++ drop at order ≡ (all ++ x ∷ []) ++ drop (at + 1) order = ap (λ ys. all ++ ys) (drop_more order at 0 low) ∙ middle_shift all (drop (at + 1) order) x in
        record {
          at_low = omega (arith, low);
          next_low = so.next_low;
          part = subst (IsPart ops initial) same so.part;
          early = λ p i h le lt. elim (has_cases all (x ∷ []) p h) as (λ _. (op_at ops p).invoked ≤ (op_at ops (get_or nils i 0)).invoked) [
            | inl old ↦ so.early p i old le lt
            | inr here ↦ subst (λ z. (op_at ops z).invoked ≤ (op_at ops (get_or nils i 0)).invoked) (one_is x p here) (elim (cases_lt (op_at ops (get_or nils next 0)).invoked (op_at ops x).invoked) as (λ _. (op_at ops x).invoked ≤ (op_at ops (get_or nils i 0)).invoked) [
              | inl less ↦ absurd (not_read (omega (arith, le, lt), inr less))
              | inr high ↦ (let rises = nils_rise next i le lt in omega (arith, high, rises))
            ])
          ];
          kept = λ p h. subst (λ xs. has xs p ≡ true) same (so.kept p h);
          taken = λ i lt. subst (λ xs. has xs (get_or nils i 0) ≡ true) same (so.taken i lt);
          only = λ p h. so.only p (subst (λ xs. has xs p ≡ true) (sym same) h);
        }

    drop_past : (xs : List ℕ) (n : ℕ) → length xs ≤ n → drop n xs ≡ []
    drop_past [] zero le = refl
    drop_past [] (suc n) le = refl
    drop_past (x ∷ xs) zero le = absurd (omega (arith, le))
    drop_past (x ∷ xs) (suc n) le = drop_past xs n (omega (arith, le))

    pub merged_end : length order ≤ at → length nils ≤ next → ((p : ℕ) → IsDone ops p → (has order p ≡ true) ⊎ ReadsNil ops p) → IsOrder ops initial all
    merged_end past read whole =
        let is : all ++ drop at order ≡ all = ap (λ ys. all ++ ys) (drop_past order at past) ∙ append_nil_right all in
        whole_part ops initial all (subst (IsPart ops initial) is so.part) (λ p done. subst (λ xs. has xs p ≡ true) is (elim (whole p done) as (λ _. has (all ++ drop at order) p ≡ true) [
          | inl there ↦ so.kept p there
          | inr nil ↦
              let in_nils : has nils p ≡ true = picked.whole p (is_turn.whole p (possible_there ops p (done_possible ops p done))) (done, nil) in
              let r = place_of nils p in_nils in
              subst (λ z. has (all ++ drop at order) z ≡ true) r.2 (so.taken r.0 (omega (arith, r.1, read)))
        ]))
