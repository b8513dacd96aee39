-- What a configuration knows of an order, and how it changes when one more operation is placed.
use Rattle.std.proofs.Common.{◌≡◌, ℕ, ◌+◌, ◌-◌, ◌^◌, ◌<◌, ◌≤◌, true, false, not, cond, eqb, Some, None, List, [], ◌∷◌, ◌++◌, length, take, drop, get_or, unwrap_or, refl, sym, ap, subst, ◌∙◌, inl, inr, arith}
use Rattle.std.specs.List.{IsDistinct, remove}
use Rattle.std.proofs.lemmas.Bool.{false≢true, cases_lt}
use Rattle.std.proofs.lemmas.Map.Keys.{IsDistinct-from_apart, apart_from_distinct}
use Rattle.std.proofs.lemmas.List.{drop-take, take-append-drop, take-take, get_or_past, get_or-take, length-take}
use Rattle.std.proofs.lemmas.List.Elements.{filter-append}
use Rattle.jh_linear.specs.declared.register.RegOp.{RegOp}
use Rattle.jh_linear.specs.declared.sorted_ops.Stage.{Stage}
use Rattle.jh_linear.specs.Order.{no_op, op_at, IsPossible, IsDone, Precedes, EndsBefore, has, EndAfterInvoked}
use Rattle.jh_linear.specs.declared.register.Outcome.{Outcome}
use Rattle.jh_linear.specs.declared.register.Outcome.TheVariants.{Done, Failed, Unsure}
use Rattle.jh_linear.specs.declared.register.RegCall.{RegCall}
use Rattle.jh_linear.specs.SearchInside.{is_unsure_change, IsUnsureChange, MayComeNext, stage_at, arrivals_by, AreDoneSorted, numbers_without, IsAt, invocation_at, end_at, arrivals_after}
use Rattle.jh_linear.proofs.NumberSetLemmas.{has_append, has_kept, has_push_cases, has_here, place_of, has_without, in_without, apart_halves, has_taken, has_dropped, without_none, without_push, not_true, true_if, false_if, or_left, or_right, eqb_self, same_tests}

-- nothing is before itself
pub not_before_itself : (ops : List RegOp) → EndAfterInvoked ops → (p : ℕ) → Precedes ops p p → ⊥
not_before_itself ops ends p h =
    elim (op_at ops p).ended as (λ e. (op_at ops p).ended ≡ e → EndsBefore e (op_at ops p).invoked → ⊥) [
      | None ↦ λ _ k. k
      | Some end ↦ λ is k. omega (arith, ends p end is)
    ] refl h.1

pub done_possible : (ops : List RegOp) (p : ℕ) → IsDone ops p → IsPossible ops p
done_possible ops p done failed = let both = sym done ∙ failed in cc

unknown_unsure : (outcome : Outcome) (call : RegCall) → is_unsure_change outcome call ≡ true → outcome ≡ Unsure
unknown_unsure Failed call h = absurd (false≢true h)
unknown_unsure Done call h = absurd (false≢true h)
unknown_unsure Unsure call h = refl

pub unknown_is : (ops : List RegOp) (p : ℕ) → IsUnsureChange ops p → (op_at ops p).outcome ≡ Unsure
unknown_is ops p h = unknown_unsure (op_at ops p).outcome (op_at ops p).call h

pub unknown_possible : (ops : List RegOp) (p : ℕ) → IsUnsureChange ops p → IsPossible ops p
unknown_possible ops p h failed = let both = sym (unknown_is ops p h) ∙ failed in cc

pub unknown_not_done : (ops : List RegOp) (p : ℕ) → IsUnsureChange ops p → IsDone ops p → ⊥
unknown_not_done ops p h done = let both = sym (unknown_is ops p h) ∙ done in cc

-- past the end of the list all have failed
past_failed : (ops : List RegOp) (p : ℕ) → length ops ≤ p → (op_at ops p).outcome ≡ Failed
past_failed ops p le = let past : op_at ops p ≡ no_op = get_or_past ops p no_op le in ap (λ o. o.outcome) past

pub possible_there : (ops : List RegOp) (p : ℕ) → IsPossible ops p → p < length ops
possible_there ops p possible =
    elim (cases_lt p (length ops)) as (λ _. p < length ops) [
      | inl lt ↦ lt
      | inr le ↦ absurd (possible (past_failed ops p le))
    ]

pub done_there : (ops : List RegOp) (p : ℕ) → IsDone ops p → p < length ops
done_there ops p done = possible_there ops p (done_possible ops p done)

pub distinct_take : (n : ℕ) (xs : List ℕ) → IsDistinct eqb xs → IsDistinct eqb (take n xs)
distinct_take n xs d = IsDistinct-from_apart eqb (take n xs) (λ i j e lt inside.
    let short : length (take n xs) ≤ length xs = omega (arith, length-take {A = ℕ}) in
    let low : j < n = omega (arith, length-take {A = ℕ}) in
    rw (get_or-take n xs i e (omega arith), get_or-take n xs j e low) (apart_from_distinct eqb xs i j e d lt (omega arith)))

pub removed : (order all pending : List ℕ) (i : ℕ) → pending ≡ numbers_without order all → IsDistinct eqb all → i < length pending → remove pending i ≡ numbers_without (order ++ get_or pending i 0 ∷ []) all
removed order all pending i is d inside =
    let Claim : List ℕ → Type 0 = λ xs. i < length xs → remove xs i ≡ numbers_without (order ++ get_or xs i 0 ∷ []) all in
    subst Claim (sym is) (λ lt. sym (without_push order all i d lt)) inside

pub taken_on : (xs : List ℕ) (n m : ℕ) → n ≤ m → take m xs ≡ take n xs ++ take (m - n) (drop n xs)
taken_on xs n m le =
    let k : ℕ = m - n in
    let is : m ≡ n + k = omega arith in
    ap (λ j. take j xs) is ∙ sym (take-append-drop n (take (n + k) xs)) ∙ rw (take-take n (n + k) xs (omega arith), drop-take n k xs) refl

-- an operation that comes before another ends before that one is invoked
pub end_before : (ops : List RegOp) (a b : ℕ) → Precedes ops a b → end_at ops a < invocation_at ops b
end_before ops a b h = elim (op_at ops a).ended as (λ e. EndsBefore e (op_at ops b).invoked → unwrap_or e (2 ^ 64 - 1) < (op_at ops b).invoked) [
  | None ↦ λ k. absurd k
  | Some e ↦ λ k. k
] h.1

without_same : (a b xs : List ℕ) → ((q : ℕ) → has xs q ≡ true → has a q ≡ has b q) → numbers_without a xs ≡ numbers_without b xs
without_same a b [] same = refl
without_same a b (x ∷ xs) same =
    let rest = without_same a b xs (λ q h. same q (or_right (eqb x q) _ h)) in
    rw (same x (or_left (eqb x x) _ (eqb_self x))) (elim (has b x) as (λ v. cond (not v) (x ∷ numbers_without a xs) (numbers_without a xs) ≡ cond (not v) (x ∷ numbers_without b xs) (numbers_without b xs)) [
      | true ↦ rest
      | false ↦ ap (λ ys. x ∷ ys) rest
    ])

-- where an order has none of the list, a longer one leaves out what is not the new number
pub without_other : (order xs : List ℕ) (p : ℕ) → has xs p ≡ false → numbers_without (order ++ p ∷ []) xs ≡ numbers_without order xs
without_other order xs p out = without_same (order ++ p ∷ []) order xs (λ q there. same_tests (has (order ++ p ∷ []) q) (has order q)
    (λ h. elim (has_push_cases order p q h) as (λ _. has order q ≡ true) [
      | inl old ↦ old
      | inr is ↦ absurd (not_true _ there (subst (λ x. has xs x ≡ false) is out))
    ])
    (λ h. has_kept order p q h))

module _ (ops : List RegOp) (arrivals : List ℕ) (stages : List Stage) (sorted : AreDoneSorted ops arrivals stages) where
  abbrev End : ℕ → ℕ
  End k = end_at ops (stage_at stages k).number

  -- what is possible, not placed and invoked before the end of the stage may come next
  pub may_come : (order : List ℕ) (stage : ℕ) (pending : List ℕ) (p : ℕ) → IsAt arrivals stages order stage pending → stage < length stages → IsPossible ops p → has order p ≡ false → invocation_at ops p ≤ End stage → MayComeNext ops order p
  may_come order stage pending p known lt possible fresh early = record {
    there = possible_there ops p possible;
    possible = possible;
    fresh = fresh;
    ready = λ first before. let r = sorted.needs stage first p lt early before in subst (λ q. has order q ≡ true) r.2 (known.passed r.0 r.1);
  }

  pub arrival_done : (p : ℕ) → has arrivals p ≡ true → IsDone ops p
  arrival_done p h = let r = place_of arrivals p h in subst (IsDone ops) r.2 (sorted.happened r.0 0 r.1)

  pub not_arrival : (p : ℕ) → (IsDone ops p → ⊥) → has arrivals p ≡ false
  not_arrival p out = false_if _ (λ h. out (arrival_done p h))

  -- what is pending happened, is not placed and was invoked before the end of the stage
  pub of_pending : (order : List ℕ) (stage : ℕ) (pending : List ℕ) (p : ℕ) → IsAt arrivals stages order stage pending → stage < length stages → has pending p ≡ true → IsDone ops p × (has order p ≡ false) × (invocation_at ops p ≤ End stage)
  of_pending order stage pending p known lt h =
      let both = in_without order (arrivals_by arrivals stages stage) p (subst (λ xs. has xs p ≡ true) (known.pending_is lt) h) in
      (arrival_done p (has_taken arrivals _ p both.0), both.1, sorted.in_time stage p lt both.0)

  pub may_follow : (order : List ℕ) (stage : ℕ) (pending : List ℕ) (p : ℕ) → IsAt arrivals stages order stage pending → stage < length stages → has pending p ≡ true → MayComeNext ops order p
  may_follow order stage pending p known lt h =
      let r = of_pending order stage pending p known lt h in
      may_come order stage pending p known lt (done_possible ops p r.0) r.1 r.2

  -- what happened and may come next is pending
  pub is_pending : (order : List ℕ) (stage : ℕ) (pending : List ℕ) (p : ℕ) → IsAt arrivals stages order stage pending → (lt : stage < length stages) → has order (stage_at stages stage).number ≡ false → IsDone ops p → MayComeNext ops order p → has pending p ≡ true
  is_pending order stage pending p known lt waits done may =
      let here : has (arrivals_by arrivals stages stage) p ≡ true = sorted.enough stage p lt done (λ before. not_true _ (may.ready _ before) waits) in
      subst (λ xs. has xs p ≡ true) (sym (known.pending_is lt)) (has_without order _ p here may.fresh)

  -- the first stage
  pub at_first : (n : ℕ) → (0 < length stages → n ≡ (stage_at stages 0).arrived) → IsAt arrivals stages [] 0 (take n arrivals)
  at_first n is = record {
    passed = λ k lt. absurd (omega arith);
    pending_is = λ lt. ap (λ m. take m arrivals) (is lt) ∙ sym (without_none [] _ (λ q _. refl));
    arrived = λ lt p h _. absurd (false≢true h);
  }

  -- one of the pending numbers is placed, and the stage is not passed yet
  pub at_placed : (order : List ℕ) (stage : ℕ) (pending : List ℕ) (i : ℕ) → IsAt arrivals stages order stage pending → stage < length stages → i < length pending → IsAt arrivals stages (order ++ get_or pending i 0 ∷ []) stage (remove pending i)
  at_placed order stage pending i known lt inside =
      let p : ℕ = get_or pending i 0 in
      let all : List ℕ = arrivals_by arrivals stages stage in
      record {
        passed = λ k below. has_kept order p _ (known.passed k below);
        pending_is = λ _. removed order all pending i (known.pending_is lt) (distinct_take _ arrivals sorted.distinct) inside;
        arrived = λ _ q h in'. elim (has_push_cases order p q h) as (λ _. has all q ≡ true) [
          | inl e ↦ known.arrived lt q e in'
          | inr e ↦ subst (λ x. has all x ≡ true) e (in_without order all p (subst (λ xs. has xs p ≡ true) (known.pending_is lt) (has_here pending i inside))).0
        ];
      }

  -- something that is no arrival is placed
  pub at_other : (order : List ℕ) (stage : ℕ) (pending : List ℕ) (p : ℕ) → IsAt arrivals stages order stage pending → has arrivals p ≡ false → IsAt arrivals stages (order ++ p ∷ []) stage pending
  at_other order stage pending p known out = record {
    passed = λ k below. has_kept order p _ (known.passed k below);
    pending_is = λ lt. known.pending_is lt ∙ sym (without_other order (arrivals_by arrivals stages stage) p (false_if _ (λ h. not_true _ (has_taken arrivals _ p h) out)));
    arrived = λ lt q h in'. elim (has_push_cases order p q h) as (λ _. has (arrivals_by arrivals stages stage) q ≡ true) [
      | inl e ↦ known.arrived lt q e in'
      | inr e ↦ absurd (not_true _ in' (subst (λ x. has arrivals x ≡ false) e out))
    ];
  }

  -- a stage whose number is not pending is passed
  pub is_placed : EndAfterInvoked ops → (order : List ℕ) (stage : ℕ) (pending : List ℕ) → IsAt arrivals stages order stage pending → (lt : stage < length stages) → has pending (stage_at stages stage).number ≡ false → has order (stage_at stages stage).number ≡ true
  is_placed ends order stage pending known lt h =
      let p : ℕ = (stage_at stages stage).number in
      let here : has (arrivals_by arrivals stages stage) p ≡ true = sorted.enough stage p lt (sorted.are_done stage lt) (not_before_itself ops ends p) in
      true_if _ (λ no. not_true _ (subst (λ xs. has xs p ≡ true) (sym (known.pending_is lt)) (has_without order _ p here no)) h)

  -- the next stage, which is the last or brings what is coming
  pub at_next : (order : List ℕ) (stage : ℕ) (pending next : List ℕ) → IsAt arrivals stages order stage pending → stage < length stages → has order (stage_at stages stage).number ≡ true → (stage + 1 < length stages → next ≡ pending ++ arrivals_after arrivals stages stage) → IsAt arrivals stages order (stage + 1) next
  at_next order stage pending next known lt here more =
      let now : List ℕ = arrivals_by arrivals stages stage in
      let coming : List ℕ = arrivals_after arrivals stages stage in
      record {
        passed = λ k below. elim (cases_lt k stage) as (λ _. has order (stage_at stages k).number ≡ true) [
          | inl before ↦ known.passed k before
          | inr after ↦ let same : stage ≡ k = omega arith in subst (λ n. has order (stage_at stages n).number ≡ true) same here
        ];
        pending_is = λ room.
            let whole = taken_on arrivals (stage_at stages stage).arrived (stage_at stages (stage + 1)).arrived (sorted.rises stage room) in
            more room
            ∙ ap (λ xs. xs ++ coming) (known.pending_is lt)
            ∙ ap (λ xs. numbers_without order now ++ xs) (sym (without_none order coming (λ q h. false_if _ (λ placed.
            let late = has_taken _ _ q h in
            apart_halves arrivals _ q sorted.distinct (known.arrived lt q placed (has_dropped arrivals _ q late)) late))))
            ∙ sym (filter-append (λ p. not (has order p)) now coming)
            ∙ ap (numbers_without order) (sym whole);
        arrived = λ room q h in'.
            let whole = taken_on arrivals (stage_at stages stage).arrived (stage_at stages (stage + 1)).arrived (sorted.rises stage room) in
            subst (λ xs. has xs q ≡ true) (sym whole) (has_append now coming q ∙ or_left _ _ (known.arrived lt q h in'));
      }
