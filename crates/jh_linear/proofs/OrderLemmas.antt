-- The parts of an order, as they are looked at without memory.
use Rattle.std.proofs.Common.{◌≡◌, ℕ, zero, suc, ◌+◌, ◌-◌, ◌<◌, ◌≤◌, true, false, cond, eqb, Option, Some, None, List, [], ◌∷◌, length, get_or, drop, filter, refl, sym, ap, subst, ◌∙◌, inl, inr, arith, max, eq-eqb, ne_eqb, add-one}
use Rattle.std.specs.Prelude.{◌||◌}
use Rattle.std.specs.List.{IsDistinct, AllByRecursion}
use Rattle.std.specs.Set.{is_member}
use Rattle.std.proofs.lemmas.Bool.{false≢true, eqb-true, cases_lt}
use Rattle.std.proofs.lemmas.List.{get_or-drop, length-drop, get_or_default}
use Rattle.std.proofs.lemmas.Cmp.{nat_eq_equiv}
use Rattle.std.proofs.lemmas.Map.Keys.{IsDistinct-from_apart, apart_from_distinct, IsDistinct-cons}
use Rattle.std.proofs.lemmas.Map.Made.{length-le_from_is_member}
use Rattle.jh_linear.specs.declared.register.Outcome.{Outcome}
use Rattle.jh_linear.specs.declared.register.Outcome.TheVariants.{Done, Failed, Unsure}
use Rattle.jh_linear.specs.declared.register.RegOp.{RegOp}
use Rattle.jh_linear.specs.Order.{op_at, IsDone, Precedes, EndsBefore, has, StandBefore, HasNoneTwice, HasAllDone, KeepsPrecedence, EndAfterInvoked}
use Rattle.jh_linear.specs.CheckingInside.{IsNoneLate, is_outcome_done, is_op_done, done_numbers_below}
use Rattle.jh_linear.proofs.NumberSetLemmas.{eqb_self, or_left, or_right, or_cases, not_true, true_if, false_if, same_tests, has_here, place_of, has_filter, passes_filter, distinct_filter}
use Rattle.jh_linear.proofs.StageLemmas.{not_before_itself, done_there}

pub ends_later : (end : Option ℕ) (a b : ℕ) → EndsBefore end a → a ≤ b → EndsBefore end b
ends_later None a b h le = h
ends_later (Some end) a b h le = omega (arith, h, le)

pub not_at_zero : (end : Option ℕ) → EndsBefore end 0 → ⊥
not_at_zero None h = h
not_at_zero (Some end) h = absurd (omega (arith, h))

-- One more number, of an operation that is not over at the latest invocation so far.
module _ (ops : List RegOp) (order : List ℕ) (n latest : ℕ) where
  abbrev Invoked : ℕ → ℕ
  Invoked i = (op_at ops (get_or order i 0)).invoked

  pub none_more : (op : RegOp) → op ≡ op_at ops (get_or order n 0) → ((op.outcome ≡ Done) × EndsBefore op.ended latest → ⊥) → ((i : ℕ) → i < n → Invoked i ≤ latest)
      → ((i j : ℕ) → i < j → j < n → Precedes ops (get_or order j 0) (get_or order i 0) → ⊥) → (i j : ℕ) → i < j → j < n + 1 → Precedes ops (get_or order j 0) (get_or order i 0) → ⊥
  none_more op is open'' high so_far i j before low late =
      elim (cases_lt j n) as (λ _. ⊥) [
        | inl lt ↦ so_far i j before lt late
        | inr ge ↦
            let at : j ≡ n = omega (arith, low, ge) in
            let here : op_at ops (get_or order j 0) ≡ op = ap (λ k. op_at ops (get_or order k 0)) at ∙ sym is in
            let ended : EndsBefore op.ended (Invoked i) = subst (λ o. EndsBefore o.ended (Invoked i)) here late.1 in
            open'' (sym (ap (λ o. o.outcome) here) ∙ late.0, ends_later op.ended (Invoked i) latest ended (high i (omega (arith, before, at))))
      ]

  pub high_more : (next : ℕ) (op : RegOp) → op ≡ op_at ops (get_or order n 0) → next ≡ max latest op.invoked → ((i : ℕ) → i < n → Invoked i ≤ latest) → (i : ℕ) → i < n + 1 → Invoked i ≤ next
  high_more next op is most high i low =
      elim (cases_lt i n) as (λ _. Invoked i ≤ next) [
        | inl lt ↦ omega (arith, most, high i lt)
        | inr ge ↦
            let at : i ≡ n = omega (arith, low, ge) in
            let here : Invoked i ≡ op.invoked = ap Invoked at ∙ sym (ap (λ o. o.invoked) is) in
            omega (arith, most, here)
      ]

  pub some_more : (next : ℕ) (op : RegOp) → op ≡ op_at ops (get_or order n 0) → next ≡ max latest op.invoked → (0 < latest → (i : ℕ) × (i < n) × (Invoked i ≡ latest)) → 0 < next → (i : ℕ) × (i < n + 1) × (Invoked i ≡ next)
  some_more next op is most some pos =
      elim (cases_lt latest op.invoked) as (λ _. (i : ℕ) × (i < n + 1) × (Invoked i ≡ next)) [
        | inl lt ↦ let same : op.invoked ≡ next = omega (arith, most, lt) in (n, omega arith, sym (ap (λ o. o.invoked) is) ∙ same)
        | inr ge ↦ let same : latest ≡ next = omega (arith, most, ge) in let r = some (omega (arith, same, pos)) in (r.0, omega (arith, r.1), r.2 ∙ same)
      ]

pub before_if : (ops : List RegOp) (a b : ℕ) (x y : RegOp) → x ≡ op_at ops a → y ≡ op_at ops b → (x.outcome ≡ Done) × EndsBefore x.ended y.invoked → Precedes ops a b
before_if ops a b x y e f h = (sym (ap (λ o. o.outcome) e) ∙ h.0, subst (λ o. EndsBefore (op_at ops a).ended o.invoked) f (subst (λ o. EndsBefore o.ended y.invoked) e h.1))

pub each_more : (xs : List ℕ) (p n : ℕ) → ((i : ℕ) → i < n → get_or xs i 0 ≡ p → ⊥) → (get_or xs n 0 ≡ p → ⊥) → (i : ℕ) → i < n + 1 → get_or xs i 0 ≡ p → ⊥
each_more xs p n below here i low is =
    elim (cases_lt i n) as (λ _. ⊥) [
      | inl lt ↦ below i lt is
      | inr ge ↦ let at : n ≡ i = omega (arith, low, ge) in here (ap (λ k. get_or xs k 0) at ∙ is)
    ]

-- What stands behind a number, where all stand apart.

behind_at : (order : List ℕ) (i j : ℕ) → i < j → j < length order → has (drop (i + 1) order) (get_or order j 0) ≡ true
behind_at order i j before low =
    let k : ℕ = j - (i + 1) in
    let inside : k < length (drop (i + 1) order) = omega (arith, length-drop (i + 1) order, before, low) in
    let at : i + 1 + k ≡ j = omega (arith, before) in
    subst (λ p. has (drop (i + 1) order) p ≡ true) (get_or-drop (i + 1) order k 0 ∙ ap (λ n. get_or order n 0) at) (has_here (drop (i + 1) order) k inside)

pub apart_if : (order : List ℕ) → ((k : ℕ) → k < length order → has (drop (k + 1) order) (get_or order k 0) ≡ false) → HasNoneTwice order
apart_if order none = IsDistinct-from_apart eqb order (λ i j d before low.
    let first : i < length order = omega (arith, before, low) in
    ne_eqb _ _ (λ same.
    let is : get_or order j 0 ≡ get_or order i 0 = get_or_default order j 0 d low ∙ sym same ∙ get_or_default order i d 0 first in
    not_true _ (subst (λ p. has (drop (i + 1) order) p ≡ true) is (behind_at order i j before low)) (none i first)))

pub not_apart : (order : List ℕ) (k : ℕ) → k < length order → has (drop (k + 1) order) (get_or order k 0) ≡ true → HasNoneTwice order → ⊥
not_apart order k low again apart =
    let r = place_of (drop (k + 1) order) (get_or order k 0) again in
    let j : ℕ = k + 1 + r.0 in
    let inside : j < length order = omega (arith, r.1, length-drop (k + 1) order) in
    let is : get_or order j 0 ≡ get_or order k 0 = sym (get_or-drop (k + 1) order r.0 0) ∙ r.2 in
    not_true _ (eq-eqb _ _ (sym is)) (apart_from_distinct eqb order k j 0 apart (omega arith) inside)

same_place : (order : List ℕ) (i j : ℕ) → HasNoneTwice order → i < length order → j < length order → get_or order i 0 ≡ get_or order j 0 → i ≡ j
same_place order i j apart il jl is =
    elim (cases_lt i j) as (λ _. i ≡ j) [
      | inl lt ↦ absurd (not_true _ (eq-eqb _ _ is) (apart_from_distinct eqb order i j 0 apart lt jl))
      | inr ge ↦ elim (cases_lt j i) as (λ _. i ≡ j) [
        | inl lt ↦ absurd (not_true _ (eq-eqb _ _ (sym is)) (apart_from_distinct eqb order j i 0 apart lt il))
        | inr le ↦ omega (arith, ge, le)
      ]
    ]

-- Precedence, by indexes.

stand_at : (order : List ℕ) (i j : ℕ) → i < j → j < length order → StandBefore order (get_or order i 0) (get_or order j 0)
stand_at [] i j before low = absurd (omega (arith, low))
stand_at (x ∷ order) i zero before low = absurd (omega (arith, before))
stand_at (x ∷ order) zero (suc j) before low = inl (refl, has_here order j (omega (arith, low)))
stand_at (x ∷ order) (suc i) (suc j) before low = inr (stand_at order i j (omega (arith, before)) (omega (arith, low)))

stand_indexes : (order : List ℕ) (a b : ℕ) → StandBefore order a b → (i : ℕ) × (j : ℕ) × (i < j) × (j < length order) × (get_or order i 0 ≡ a) × (get_or order j 0 ≡ b)
stand_indexes [] a b h = absurd h
stand_indexes (x ∷ order) a b h = elim h as (λ _. (i : ℕ) × (j : ℕ) × (i < j) × (j < length (x ∷ order)) × (get_or (x ∷ order) i 0 ≡ a) × (get_or (x ∷ order) j 0 ≡ b)) [
  | inl here ↦ let r = place_of order b here.1 in (0, suc r.0, omega arith, omega (arith, r.1), here.0, r.2)
  | inr there ↦ let r = stand_indexes order a b there in (suc r.0, suc r.1, omega (arith, r.2), omega (arith, r.3), r.4, r.5)
]

shifted : (order : List ℕ) (k n : ℕ) → get_or (get_or order k 0 ∷ drop (k + 1) order) n 0 ≡ get_or order (k + n) 0
shifted order k zero = ap (λ m. get_or order m 0) (let e : k ≡ k + 0 = omega arith in e)
shifted order k (suc n) = get_or-drop (k + 1) order n 0 ∙ ap (λ m. get_or order m 0) (let e : k + 1 + n ≡ k + suc n = omega arith in e)

module _ (ops : List RegOp) (order : List ℕ) where
  pub late_if : HasNoneTwice order → KeepsPrecedence ops order → IsNoneLate ops order
  late_if apart keeps i j before low is =
      let first : i < length order = omega (arith, before, low) in
      let s = stand_indexes order _ _ (keeps _ _ is (has_here order i first)) in
      let one : s.0 ≡ j = same_place order s.0 j apart (omega (arith, s.2, s.3)) low s.4 in
      let two : s.1 ≡ i = same_place order s.1 i apart s.3 first s.5 in
      absurd (omega (arith, one, two, s.2, before))

  pub keeps_if : EndAfterInvoked ops → HasAllDone ops order → IsNoneLate ops order → KeepsPrecedence ops order
  keeps_if ends whole none a b is there =
      let i = place_of order a (whole a is.0) in
      let j = place_of order b there in
      elim (cases_lt i.0 j.0) as (λ _. StandBefore order a b) [
        | inl before ↦ subst (λ x. StandBefore order x b) i.2 (subst (λ y. StandBefore order (get_or order i.0 0) y) j.2 (stand_at order i.0 j.0 before j.1))
        | inr back ↦ elim (cases_lt j.0 i.0) as (λ _. StandBefore order a b) [
          | inl late ↦ absurd (none j.0 i.0 late i.1 (subst (λ x. Precedes ops x (get_or order j.0 0)) (sym i.2) (subst (λ y. Precedes ops a y) (sym j.2) is)))
          | inr on ↦
              let same : i.0 ≡ j.0 = omega (arith, back, on) in
              let one : b ≡ a = sym j.2 ∙ ap (λ n. get_or order n 0) (sym same) ∙ i.2 in
              absurd (not_before_itself ops ends a (subst (λ y. Precedes ops a y) one is))
        ]
      ]

  -- where none is late, those behind a number are not late either
  pub none_behind : (k : ℕ) → k < length order → IsNoneLate ops order → IsNoneLate ops (get_or order k 0 ∷ drop (k + 1) order)
  none_behind k low none i j before inside is =
      let at : (n : ℕ) → get_or (get_or order k 0 ∷ drop (k + 1) order) n 0 ≡ get_or order (k + n) 0 = shifted order k in
      none (k + i) (k + j) (omega (arith, before)) (omega (arith, inside, length-drop (k + 1) order, low))
      (subst (λ x. Precedes ops x (get_or order (k + i) 0)) (at j) (subst (λ y. Precedes ops (get_or (get_or order k 0 ∷ drop (k + 1) order) j 0) y) (at i) is))

-- a number is not behind another where it would be late
pub not_behind : (ops : List RegOp) (number : ℕ) (behind : List ℕ) (k : ℕ) → k < length behind → IsNoneLate ops (number ∷ behind) → Precedes ops number (get_or behind k 0) → ((i : ℕ) → i < k + 1 → get_or behind i 0 ≡ number → ⊥) → has behind number ≡ false
not_behind ops number behind k low none late so_far = false_if _ (λ there.
    let r = place_of behind number there in
    elim (cases_lt r.0 (k + 1)) as (λ _. ⊥) [
      | inl before ↦ so_far r.0 before r.2
      | inr after ↦ none (suc k) (suc r.0) (omega (arith, after)) (omega (arith, r.1)) (subst (λ x. Precedes ops x (get_or behind k 0)) (sym r.2) late)
    ])

-- What happened, counted.

pub done_test : (outcome : Outcome) → is_outcome_done outcome ≡ true → outcome ≡ Done
done_test Done h = refl
done_test Failed h = absurd (false≢true h)
done_test Unsure h = absurd (false≢true h)

pub is_done_if : (ops : List RegOp) (number : ℕ) → IsDone ops number → is_op_done ops number ≡ true
is_done_if ops number done = ap is_outcome_done done

module _ (ops : List RegOp) where
  pub below_more : (n : ℕ) → done_numbers_below ops (n + 1) ≡ cond (is_op_done ops n) (n ∷ done_numbers_below ops n) (done_numbers_below ops n)
  below_more n = ap (done_numbers_below ops) (add-one n)

  below_all : (n number : ℕ) → number < n → IsDone ops number → has (done_numbers_below ops n) number ≡ true
  below_all zero number low done = absurd (omega (arith, low))
  below_all (suc n) number low done =
      elim (cases_lt number n) as (λ _. has (done_numbers_below ops (suc n)) number ≡ true) [
        | inl lt ↦ elim (is_op_done ops n) as (λ v. has (cond v (n ∷ done_numbers_below ops n) (done_numbers_below ops n)) number ≡ true) [
          | true ↦ or_right (eqb n number) _ (below_all n number lt done)
          | false ↦ below_all n number lt done
        ]
        | inr ge ↦
            let is : n ≡ number = omega (arith, low, ge) in
            let here : is_op_done ops n ≡ true = is_done_if ops n (subst (IsDone ops) (sym is) done) in
            rw here (or_left (eqb n number) _ (eq-eqb n number is))
      ]

  below_each : (n number : ℕ) → has (done_numbers_below ops n) number ≡ true → (number < n) × (is_op_done ops number ≡ true)
  below_each zero number h = absurd (false≢true h)
  below_each (suc n) number h =
      elim (is_op_done ops n) as (λ v. is_op_done ops n ≡ v → has (cond v (n ∷ done_numbers_below ops n) (done_numbers_below ops n)) number ≡ true → (number < suc n) × (is_op_done ops number ≡ true)) [
        | true ↦ λ e k. elim (or_cases (eqb n number) (has (done_numbers_below ops n) number) k) as (λ _. (number < suc n) × (is_op_done ops number ≡ true)) [
          | inl s ↦ let is : n ≡ number = eqb-true n number s in (omega (arith, is), subst (λ x. is_op_done ops x ≡ true) is e)
          | inr s ↦ let r = below_each n number s in (omega (arith, r.0), r.1)
        ]
        | false ↦ λ e k. let r = below_each n number k in (omega (arith, r.0), r.1)
      ] refl h

  apart_from_low : (n : ℕ) (xs : List ℕ) → ((q : ℕ) → has xs q ≡ true → q < n) → AllByRecursion (λ y. eqb n y ≡ false) xs
  apart_from_low n [] low = tt
  apart_from_low n (x ∷ xs) low = (
    ne_eqb n x (λ is. let lt = low x (or_left (eqb x x) (has xs x) (eqb_self x)) in absurd (omega (arith, lt, is))),
    apart_from_low n xs (λ q h. low q (or_right (eqb x q) (has xs q) h)),
  )

  below_apart : (n : ℕ) → IsDistinct eqb (done_numbers_below ops n)
  below_apart zero = IsDistinct-from_apart eqb [] (λ i j d lt inside. absurd (omega (arith, inside)))
  below_apart (suc n) =
      elim (is_op_done ops n) as (λ v. IsDistinct eqb (cond v (n ∷ done_numbers_below ops n) (done_numbers_below ops n))) [
        | true ↦ IsDistinct-cons eqb n (done_numbers_below ops n) (apart_from_low n (done_numbers_below ops n) (λ q h. (below_each n q h).0)) (below_apart n)
        | false ↦ below_apart n
      ]

flips : (x y : ℕ) → eqb x y ≡ eqb y x
flips x y = same_tests (eqb x y) (eqb y x) (λ e. subst (λ z. eqb z x ≡ true) (eqb-true x y e) (eqb_self x)) (λ e. subst (λ z. eqb z y ≡ true) (eqb-true y x e) (eqb_self y))

pub member_is : (xs : List ℕ) (q : ℕ) → is_member eqb xs q ≡ has xs q
member_is [] q = refl
member_is (x ∷ xs) q = ap (λ b. b || is_member eqb xs q) (flips q x) ∙ ap (λ b. eqb x q || b) (member_is xs q)

-- distinct numbers that are all among others are no more than those
pub no_more : (xs ys : List ℕ) → IsDistinct eqb xs → ((q : ℕ) → has xs q ≡ true → has ys q ≡ true) → length xs ≤ length ys
no_more xs ys apart inside = length-le_from_is_member nat_eq_equiv xs ys apart (λ q h. member_is ys q ∙ inside q (sym (member_is xs q) ∙ h))

outside_all : (p : ℕ) (xs : List ℕ) → has xs p ≡ false → AllByRecursion (λ y. eqb p y ≡ false) xs
outside_all p [] h = tt
outside_all p (x ∷ xs) h = (
  ne_eqb p x (λ is. not_true _ (or_left (eqb x p) (has xs p) (eq-eqb x p (sym is))) h),
  outside_all p xs (false_if _ (λ e. not_true _ (or_right (eqb x p) (has xs p) e) h)),
)

module _ (ops : List RegOp) (order : List ℕ) (apart : HasNoneTwice order) where
  abbrev pub done_in : List ℕ
  done_in = filter (is_op_done ops) order

  in_all : (q : ℕ) → is_op_done ops q ≡ true → has (done_numbers_below ops (length ops)) q ≡ true
  in_all q h = let done = done_test _ h in below_all ops (length ops) q (done_there ops q done) done

  pub whole_if : length done_in ≡ length (done_numbers_below ops (length ops)) → HasAllDone ops order
  whole_if same number done = true_if _ (λ out.
      let t = is_done_if ops number done in
      let outside : has done_in number ≡ false = false_if _ (λ h. not_true _ (passes_filter (is_op_done ops) order number h).0 out) in
      let more = no_more (number ∷ done_in) (done_numbers_below ops (length ops)) (IsDistinct-cons eqb number done_in (outside_all number done_in outside) (distinct_filter (is_op_done ops) order apart))
      (λ q h. elim (or_cases (eqb number q) (has done_in q) h) as (λ _. has (done_numbers_below ops (length ops)) q ≡ true) [
        | inl is ↦ in_all q (subst (λ x. is_op_done ops x ≡ true) (eqb-true number q is) t)
        | inr in' ↦ in_all q (passes_filter (is_op_done ops) order q in').1
      ]) in
      absurd (omega (arith, more, same)))

  pub counted_if : HasAllDone ops order → length done_in ≡ length (done_numbers_below ops (length ops))
  counted_if whole =
      let low = no_more done_in (done_numbers_below ops (length ops)) (distinct_filter (is_op_done ops) order apart) (λ q h. in_all q (passes_filter (is_op_done ops) order q h).1) in
      let high = no_more (done_numbers_below ops (length ops)) done_in (below_apart ops (length ops)) (λ q h.
      let t = (below_each ops (length ops) q h).1 in
      has_filter (is_op_done ops) order q (whole q (done_test _ t)) t) in
      omega (arith, low, high)
