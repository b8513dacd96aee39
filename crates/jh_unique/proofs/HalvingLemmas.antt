-- The first completion with which there is no order any more, found by halving.
use Rattle.std.proofs.Common.{◌≡◌, ℕ, ◌+◌, ◌-◌, ◌^◌, ◌<◌, ◌≤◌, ℤ, true, false, eqb, Option, List, [], ◌∷◌, ◌++◌, length, get_or, refl, sym, ap, subst, ◌∙◌, inl, inr, arith}
use Rattle.std.specs.List.Sorted.{IsPermutation, IsSorted}
use Rattle.std.specs.Ordering.{nat_cmp, is_lt}
use Rattle.std.proofs.lemmas.Bool.{cases_lt, false≢true}
use Rattle.std.proofs.lemmas.Bool.Decides.{nat_tests}
use Rattle.std.proofs.lemmas.List.Sorted.{IsNonDecreasingBy-from_all_adjacent, list_any-IsPermutation}
use Rattle.jh_linear.specs.declared.register.RegOp.{RegOp}
use Rattle.jh_linear.specs.declared.verdict.Stuck.{Stuck}
use Rattle.jh_linear.specs.Order.{op_at, has, IsDone, IsOrder, IsPartialOrder, IsLegalFrom, EndAfterInvoked}
use Rattle.jh_linear.specs.Stuck.{IsStuck, behind_all, op_end, ops_before}
use Rattle.jh_linear.specs.Verdict.{HaveNoOrder}
use Rattle.jh_unique.specs.declared.verdict.UniqueVerdict.{UniqueVerdict}
use Rattle.jh_unique.specs.declared.verdict.UniqueVerdict.TheVariants.{Valid, Invalid, Repeated, WritesInitial}
use Rattle.jh_unique.specs.Cuts.{AreSortedEnds, IsHalved}
use Rattle.jh_unique.specs.Judged.{IsUniqueVerdict}
use Rattle.jh_unique.specs.Unique.{WriteOnce}
use Rattle.jh_unique.proofs.CutLemmas.{cut_runs, cut_earlier, cut_later, cut_behind, empty_order, empty_cut}
use Rattle.jh_unique.proofs.ListLemmas.{has_left, has_right, has_cases, has_head, one_is, place_of, place_has}
use Rattle.jh_unique.proofs.PartLemmas.{possible_there, done_possible}

-- where each value is written once, what is no order is none
pub none_of : (ops : List RegOp) (initial : Option ℤ) (verdict : UniqueVerdict) → WriteOnce ops initial → IsUniqueVerdict ops initial verdict → ((order : List ℕ) → verdict ≡ Valid order → ⊥) → HaveNoOrder ops initial
none_of ops initial (Valid order) once right other = absurd (other order refl)
none_of ops initial (Invalid reason) once right other = right.2
none_of ops initial (Repeated first second) once right other = absurd (right.0 (once.apart right.1.0 first second right.1.1 right.1.2))
none_of ops initial (WritesInitial number) once right other = absurd (once.fresh right.0 number right.1 right.2)

-- the ends of the first so many operations
pub record AreEndsBelow (ops : List RegOp) (bound : ℕ) (ends : List ℕ) : Type 0 where
  pub each : (end : ℕ) → has ends end ≡ true → (number : ℕ) × IsDone ops number × (op_end (op_at ops number) ≡ end)
  pub whole : (number : ℕ) → number < bound → IsDone ops number → has ends (op_end (op_at ops number)) ≡ true
  pub bounded : (number : ℕ) → number < bound → IsDone ops number → (op_at ops number).invoked ≤ op_end (op_at ops number)
  pub small : (end : ℕ) → has ends end ≡ true → end ≤ behind_all

module _ (ops : List RegOp) where
  pub ends_none : AreEndsBelow ops 0 []
  ends_none = record { each = λ e h. absurd (false≢true h); whole = λ p lt. absurd (omega (arith, lt)); bounded = λ p lt. absurd (omega (arith, lt)); small = λ e h. absurd (false≢true h) }

  pub ends_skip : (n : ℕ) (xs : List ℕ) → (IsDone ops n → ⊥) → AreEndsBelow ops n xs → AreEndsBelow ops (n + 1) xs
  ends_skip n xs not so = record {
    each = so.each;
    whole = λ p lt done. elim (cases_lt p n) as (λ _. has xs (op_end (op_at ops p)) ≡ true) [ inl low ↦ so.whole p low done | inr ge ↦ (let same : p ≡ n = omega (arith, lt, ge) in absurd (not (subst (IsDone ops) same done))) ];
    bounded = λ p lt done. elim (cases_lt p n) as (λ _. (op_at ops p).invoked ≤ op_end (op_at ops p)) [ inl low ↦ so.bounded p low done | inr ge ↦ (let same : p ≡ n = omega (arith, lt, ge) in absurd (not (subst (IsDone ops) same done))) ];
    small = so.small;
  }

  pub ends_push : (n end : ℕ) (xs : List ℕ) → IsDone ops n → end ≡ op_end (op_at ops n) → (op_at ops n).invoked ≤ end → end ≤ behind_all → AreEndsBelow ops n xs → AreEndsBelow ops (n + 1) (xs ++ end ∷ [])
  ends_push n end xs is_done is later high so = record {
    each = λ e h. elim (has_cases xs (end ∷ []) e h) as (λ _. (number : ℕ) × IsDone ops number × (op_end (op_at ops number) ≡ e)) [ inl old ↦ so.each e old | inr new ↦ (n, is_done, sym is ∙ one_is end e new) ];
    whole = λ p lt done. elim (cases_lt p n) as (λ _. has (xs ++ end ∷ []) (op_end (op_at ops p)) ≡ true) [
      | inl low ↦ has_left xs (end ∷ []) (op_end (op_at ops p)) (so.whole p low done)
      | inr ge ↦
          let same : n ≡ p = omega (arith, lt, ge) in
          has_right xs (end ∷ []) (op_end (op_at ops p)) (subst (λ e. has (end ∷ []) e ≡ true) (is ∙ ap (λ q. op_end (op_at ops q)) same) (has_head end []))
    ];
    bounded = λ p lt done. elim (cases_lt p n) as (λ _. (op_at ops p).invoked ≤ op_end (op_at ops p)) [
      | inl low ↦ so.bounded p low done
      | inr ge ↦ (let same : n ≡ p = omega (arith, lt, ge) in subst (λ q. (op_at ops q).invoked ≤ op_end (op_at ops q)) same (omega (arith, is, later)))
    ];
    small = λ e h. elim (has_cases xs (end ∷ []) e h) as (λ _. e ≤ behind_all) [ inl old ↦ so.small e old | inr new ↦ subst (λ z. z ≤ behind_all) (one_is end e new) high ];
  }

  not_below : (a b : ℕ) → is_lt (nat_cmp b a) ≡ false → a ≤ b
  not_below a b h = grind (arith, nat_tests)

  pub ends_sorted : (n : ℕ) (xs ys : List ℕ) → length ops ≤ n → IsPermutation xs ys → IsSorted nat_cmp ys → AreEndsBelow ops n xs → AreSortedEnds ops ys
  ends_sorted n xs ys long moved sorted so =
      let low : (p : ℕ) → IsDone ops p → p < n = λ p done. (let lt = possible_there ops p (done_possible ops p done) in omega (arith, lt, long)) in
      let same : (e : ℕ) → has xs e ≡ has ys e = λ e. list_any-IsPermutation (λ y. eqb y e) xs ys moved in
      record {
        each = λ e h. so.each e (same e ∙ h);
        whole = λ p done. sym (same (op_end (op_at ops p))) ∙ so.whole p (low p done) done;
        bounded = λ p done. so.bounded p (low p done) done;
        small = λ e h. so.small e (same e ∙ h);
        rise = λ i j le lt. IsNonDecreasingBy-from_all_adjacent (λ x. x) ys (λ k d high. not_below (get_or ys k d) (get_or ys (k + 1) d) (sorted k d (omega arith) high)) i j 0 le lt;
      }

module _ (ops : List RegOp) (after : EndAfterInvoked ops) (initial : Option ℤ) (ends : List ℕ) (are : AreSortedEnds ops ends) where
  abbrev end_at : ℕ → ℕ
  end_at k = get_or ends k 0

  index_of : (p : ℕ) → IsDone ops p → (k : ℕ) × (k < length ends) × (end_at k ≡ op_end (op_at ops p))
  index_of p done = place_of ends (op_end (op_at ops p)) (are.whole p done)

  pub some_end : HaveNoOrder ops initial → 0 < length ends
  some_end none = elim (cases_lt 0 (length ends)) as (λ _. 0 < length ends) [
    | inl lt ↦ lt
    | inr ge ↦ absurd (none [] (empty_order ops initial (λ p done. let r = index_of p done in omega (arith, r.1, ge))))
  ]

  pub halved_start : HaveNoOrder ops initial → (high : ℕ) → high + 1 ≡ length ends → IsHalved ops initial ends 0 high []
  halved_start none high last = record {
    between = omega arith;
    inside = omega (arith, last);
    before = empty_cut ops initial (end_at 0) (λ p done. let r = index_of p done in let le = are.rise 0 r.0 (omega arith) r.1 in omega (arith, le, r.2));
    behind = λ order is. none order (cut_behind ops after initial (end_at high + 1) 0 order is (λ p done.
        let r = index_of p done in
        let le = are.rise r.0 high (omega (arith, r.1, last)) (omega (arith, last)) in
        let low = are.bounded p done in
        (omega (arith, low, le, r.2), omega (arith, le, r.2))));
  }

  module _ (low high middle : ℕ) (order : List ℕ) (so : IsHalved ops initial ends low high order) (above : low < middle) (below : middle ≤ high) where
    pub halved_low : (found : List ℕ) → IsOrder (ops_before ops (end_at middle)) initial found → IsHalved ops initial ends middle high found
    halved_low found is = record { between = below; inside = so.inside; before = is; behind = so.behind }

    pub halved_high : HaveNoOrder (ops_before ops (end_at middle)) initial → (next : ℕ) → next + 1 ≡ middle → IsHalved ops initial ends low next order
    halved_high none next is = record {
      between = omega (arith, above, is);
      inside = (let room = so.inside in omega (arith, room, below, is));
      before = so.before;
      behind = let room = so.inside in let small : end_at middle ≤ 2 ^ 64 - 1 = are.small (end_at middle) (place_has ends middle (omega (arith, room, below))) in λ o right. elim (cases_lt (end_at middle) (end_at next + 1)) as (λ _. ⊥) [
        | inl lt ↦ (let r = cut_earlier ops after initial (end_at next + 1) (end_at middle) o right (omega (arith, lt)) small in none r.0 r.1)
        | inr ge ↦ none o (cut_later ops after initial (end_at next + 1) (end_at middle) o right ge small (λ p done over early.
            let k = index_of p done in
            let room = so.inside in
            elim (cases_lt k.0 middle) as (λ _. ⊥) [
              | inl lt ↦ (let le = are.rise k.0 next (omega (arith, lt, is)) (omega (arith, room, below, is)) in omega (arith, le, k.2, over))
              | inr le ↦ (let rises = are.rise middle k.0 le k.1 in omega (arith, rises, k.2, early))
            ]))
      ];
    }

  pub halved_end : (low : ℕ) (order : List ℕ) → IsHalved ops initial ends low low order → (stuck : Stuck) → stuck.end ≡ end_at low → stuck.order ≡ order → ((last : Option ℤ) → IsLegalFrom ops initial order last → stuck.value ≡ last) → IsStuck ops initial stuck
  halved_end low order so stuck end_is order_is value_is =
      let small : end_at low ≤ 2 ^ 64 - 1 = are.small (end_at low) (place_has ends low so.inside) in
      let c = are.each (end_at low) (place_has ends low so.inside) in
      let value : stuck.value ≡ so.before.last = value_is so.before.last (cut_runs ops (end_at low) order initial so.before.last so.before.partial.runs) in
      record {
        completion = (c.0, c.1, c.2 ∙ sym end_is);
        before = subst (λ e. IsPartialOrder (ops_before ops e) initial stuck.order stuck.value) (sym end_is)
            (subst (λ o. IsPartialOrder (ops_before ops (end_at low)) initial o stuck.value) (sym order_is) (subst (λ v. IsPartialOrder (ops_before ops (end_at low)) initial order v) (sym value) so.before.partial));
        whole = λ p done. subst (λ o. has o p ≡ true) (sym order_is) (so.before.whole p (subst (λ e. IsDone (ops_before ops e) p) end_is done));
        behind = λ o is. so.behind o (subst (λ e. IsOrder (ops_before ops (e + 1)) initial o) end_is is);
        least = λ n le. cut_earlier ops after initial (end_at low) n order so.before (omega (arith, le, end_is)) (omega (arith, le, end_is, small));
      }
