-- Histories that are cut, and where a search that came to its end got stuck.
use Rattle.std.proofs.Common.{◌≡◌, ◌≢◌, ℕ, zero, suc, ◌+◌, ◌-◌, ◌^◌, ◌<◌, ◌≤◌, ℤ, Bool, true, false, cond, ltb, Option, Some, None, List, [], ◌∷◌, length, take, get_or, unwrap_or, refl, sym, ap, subst, ◌∙◌, inl, inr, arith}
use Rattle.std.specs.Prelude.{◌&&◌}
use Rattle.std.proofs.lemmas.Bool.{cases_lt, false≢true, lt-ltb, ltb-true}
use Rattle.std.proofs.lemmas.List.{get_or-map, get_or-take, get_or_default, get_or_past, length-map, length-take}
use Rattle.jh_linear.specs.declared.register.Outcome.{Outcome}
use Rattle.jh_linear.specs.declared.register.Outcome.TheVariants.{Done, Failed, Unsure}
use Rattle.jh_linear.specs.declared.register.RegOp.{RegOp}
use Rattle.jh_linear.specs.declared.sorted_ops.Problem.{Problem}
use Rattle.jh_linear.specs.declared.search.Search.{Search}
use Rattle.jh_linear.specs.declared.verdict.Stuck.{Stuck}
use Rattle.jh_linear.specs.CheckingInside.{IsNoneLate, is_outcome_done}
use Rattle.jh_linear.specs.Order.{Allows, HasNoneTwice, EndAfterInvoked, EndsBefore, HasAllDone, Precedes, IsDone, IsOrder, IsPartialOrder, IsPossible, IsLegalFrom, has, no_op, op_at}
use Rattle.jh_linear.specs.SearchInside.{CanReach, IsExhausted, IsProblem, end_at, furthest_order, stage_number, stages_in}
use Rattle.jh_linear.specs.Stuck.{IsStuck, ops_before, op_end, op_in, outcome_before_end, outcome_in}
use Rattle.jh_linear.specs.StuckInside.{IsKnownUntil, is_known, is_known_at}
use Rattle.jh_linear.specs.Verdict.{HaveNoOrder}
use Rattle.jh_linear.proofs.NumberSetLemmas.{has_here, place_of, not_true}
use Rattle.jh_linear.proofs.StageLemmas.{distinct_take, not_before_itself, possible_there}
use Rattle.jh_linear.proofs.OrderLemmas.{keeps_if, late_if}
use Rattle.jh_linear.proofs.PartialLemmas.{follows_of, partial}
use Rattle.jh_linear.proofs.JudgeLemmas.{none_reaches}

-- ---- what a cut history shows of an operation

not_done_before : (outcome : Outcome) → outcome_before_end outcome ≡ Done → ⊥
not_done_before Done h = let bad = h in cc
not_done_before Failed h = let bad = h in cc
not_done_before Unsure h = let bad = h in cc

failed_before : (outcome : Outcome) → outcome ≢ Failed → outcome_before_end outcome ≢ Failed
failed_before Done h k = let bad = k in cc
failed_before Failed h k = h refl
failed_before Unsure h k = let bad = k in cc

kept_failed : (outcome : Outcome) → outcome ≡ Failed → outcome_before_end outcome ≡ Failed
kept_failed outcome is = ap outcome_before_end is

still : (op : RegOp) → op.outcome ≡ Failed → (b : Bool) → cond b op.outcome (outcome_before_end op.outcome) ≡ Failed
still op failed true = failed
still op failed false = kept_failed op.outcome failed

module _ (n : ℕ) (op : RegOp) where
  done_in : outcome_in n op ≡ Done → (op.outcome ≡ Done) × (op.invoked < n) × (op_end op < n)
  done_in h = elim (ltb op.invoked n) as (λ b. ltb op.invoked n ≡ b → cond b (cond (ltb (op_end op) n) op.outcome (outcome_before_end op.outcome)) Failed ≡ Done → (op.outcome ≡ Done) × (op.invoked < n) × (op_end op < n)) [
    | true ↦ λ e k. elim (ltb (op_end op) n) as (λ b. ltb (op_end op) n ≡ b → cond b op.outcome (outcome_before_end op.outcome) ≡ Done → (op.outcome ≡ Done) × (op.invoked < n) × (op_end op < n)) [
      | true ↦ λ f l. (l, ltb-true _ _ e, ltb-true _ _ f)
      | false ↦ λ f l. absurd (not_done_before op.outcome l)
    ] refl k
    | false ↦ λ e k. absurd (let bad = k in cc)
  ] refl h

  to_done : op.outcome ≡ Done → op.invoked < n → op_end op < n → outcome_in n op ≡ Done
  to_done done low end = rw (lt-ltb op.invoked n low) (rw (lt-ltb (op_end op) n end) done)

  possible_in : outcome_in n op ≢ Failed → (op.outcome ≢ Failed) × (op.invoked < n)
  possible_in h = elim (ltb op.invoked n) as (λ b. ltb op.invoked n ≡ b → cond b (cond (ltb (op_end op) n) op.outcome (outcome_before_end op.outcome)) Failed ≢ Failed → (op.outcome ≢ Failed) × (op.invoked < n)) [
    | true ↦ λ e k. (λ failed. k (still op failed (ltb (op_end op) n)), ltb-true _ _ e)
    | false ↦ λ e k. absurd (k refl)
  ] refl h

  to_possible : op.outcome ≢ Failed → op.invoked < n → outcome_in n op ≢ Failed
  to_possible possible low = rw (lt-ltb op.invoked n low) (elim (ltb (op_end op) n) as (λ b. cond b op.outcome (outcome_before_end op.outcome) ≢ Failed) [
    | true ↦ possible
    | false ↦ failed_before op.outcome possible
  ])

outcome_none : (n : ℕ) → outcome_in n no_op ≡ Failed
outcome_none n = elim (ltb 0 n) as (λ b. cond b (cond (ltb (op_end no_op) n) Failed Failed) Failed ≡ Failed) [
  | true ↦ elim (ltb (op_end no_op) n) as (λ b. cond b Failed Failed ≡ Failed) [ true ↦ refl | false ↦ refl ]
  | false ↦ refl
]

module _ (ops : List RegOp) (n : ℕ) where
  cut_at : (p : ℕ) → op_at (ops_before ops n) p ≡ op_in n (op_at ops p)
  cut_at p = elim (cases_lt p (length ops)) as (λ _. op_at (ops_before ops n) p ≡ op_in n (op_at ops p)) [
    | inl lt ↦ get_or-map (op_in n) ops p no_op no_op lt
    | inr le ↦
        get_or_past (ops_before ops n) p no_op (omega (arith, le, length-map ops (op_in n)))
        ∙ sym (ap (op_in n) (get_or_past ops p no_op le) ∙ ap (λ o. record no_op { outcome = o }) (outcome_none n))
  ]

  call_at : (p : ℕ) → (op_at (ops_before ops n) p).call ≡ (op_at ops p).call
  call_at p = ap (λ o. o.call) (cut_at p)

  ended_at : (p : ℕ) → (op_at (ops_before ops n) p).ended ≡ (op_at ops p).ended
  ended_at p = ap (λ o. o.ended) (cut_at p)

  invoked_in : (p : ℕ) → (op_at (ops_before ops n) p).invoked ≡ (op_at ops p).invoked
  invoked_in p = ap (λ o. o.invoked) (cut_at p)

  done_cut : (p : ℕ) → IsDone (ops_before ops n) p → IsDone ops p × ((op_at ops p).invoked < n) × (end_at ops p < n)
  done_cut p done = done_in n (op_at ops p) (sym (ap (λ o. o.outcome) (cut_at p)) ∙ done)

  cut_done : (p : ℕ) → IsDone ops p → (op_at ops p).invoked < n → end_at ops p < n → IsDone (ops_before ops n) p
  cut_done p done low end = ap (λ o. o.outcome) (cut_at p) ∙ to_done n (op_at ops p) done low end

  possible_cut : (p : ℕ) → IsPossible (ops_before ops n) p → IsPossible ops p × ((op_at ops p).invoked < n)
  possible_cut p possible = possible_in n (op_at ops p) (λ failed. possible (ap (λ o. o.outcome) (cut_at p) ∙ failed))

  cut_possible : (p : ℕ) → IsPossible ops p → (op_at ops p).invoked < n → IsPossible (ops_before ops n) p
  cut_possible p possible low failed = to_possible n (op_at ops p) possible low (sym (ap (λ o. o.outcome) (cut_at p)) ∙ failed)

  before_cut : (a b : ℕ) → Precedes (ops_before ops n) a b → Precedes ops a b
  before_cut a b h = ((done_cut a h.0).0, subst (λ i. EndsBefore (op_at ops a).ended i) (invoked_in b) (subst (λ e. EndsBefore e (op_at (ops_before ops n) b).invoked) (ended_at a) h.1))

  ends_in_time : (ended : Option ℕ) (at : ℕ) → EndsBefore ended at → at < n → unwrap_or ended (2 ^ 64 - 1) < n
  ends_in_time None at h lt = absurd h
  ends_in_time (Some e) at h lt = omega (arith, h, lt)

  module _ (ends : EndAfterInvoked ops) where
    cut_before : (a b : ℕ) → Precedes ops a b → (op_at ops b).invoked < n → (op_at ops a).invoked < n → Precedes (ops_before ops n) a b
    cut_before a b h low also = (
      cut_done a h.0 also (ends_in_time (op_at ops a).ended (op_at ops b).invoked h.1 low),
      subst (λ i. EndsBefore (op_at (ops_before ops n) a).ended i) (sym (invoked_in b)) (subst (λ e. EndsBefore e (op_at ops b).invoked) (sym (ended_at a)) h.1),
    )

    ends_cut : EndAfterInvoked (ops_before ops n)
    ends_cut p end is = subst (λ i. i < end) (sym (invoked_in p)) (ends p end (sym (ended_at p) ∙ is))

    invoked_before : (a b : ℕ) → Precedes ops a b → (op_at ops a).invoked < (op_at ops b).invoked
    invoked_before a b h = elim (op_at ops a).ended as (λ e. (op_at ops a).ended ≡ e → EndsBefore e (op_at ops b).invoked → (op_at ops a).invoked < (op_at ops b).invoked) [
      | None ↦ λ _ k. absurd k
      | Some end ↦ λ is k. let first = ends a end is in omega (arith, first, k)
    ] refl h.1

    runs_cut : (order : List ℕ) (v last : Option ℤ) → IsLegalFrom ops v order last → IsLegalFrom (ops_before ops n) v order last
    runs_cut [] v last r = r
    runs_cut (p ∷ order) v last r = (r.0, subst (λ c. Allows c v r.0) (sym (call_at p)) r.1, runs_cut order r.0 last r.2)

    cut_runs : (order : List ℕ) (v last : Option ℤ) → IsLegalFrom (ops_before ops n) v order last → IsLegalFrom ops v order last
    cut_runs [] v last r = r
    cut_runs (p ∷ order) v last r = (r.0, subst (λ c. Allows c v r.0) (call_at p) r.1, cut_runs order r.0 last r.2)

    -- an order of the cut history is a partial order of the whole
    pub partial_of_cut : (initial : Option ℤ) (order : List ℕ) (last : Option ℤ) → IsPartialOrder (ops_before ops n) initial order last → IsPartialOrder ops initial order last
    partial_of_cut initial order last is = record {
      there = λ k d lt. subst (λ m. get_or order k d < m) (length-map ops (op_in n)) (is.there k d lt);
      distinct = is.distinct;
      possible = λ k d lt. (possible_cut _ (is.possible k d lt)).0;
      precedence = λ a b before there.
          let r = place_of order b there in
          let low : (op_at ops b).invoked < n = subst (λ p. (op_at ops p).invoked < n) r.2 (possible_cut _ (is.possible r.0 0 r.1)).1 in
          is.precedence a b (cut_before a b before low (omega (arith, invoked_before a b before, low))) there;
      runs = cut_runs order initial last is.runs;
    }

-- ---- the first part of an order, up to the last that is known

pub runs_front : (ops : List RegOp) (k : ℕ) (order : List ℕ) (v last : Option ℤ) → IsLegalFrom ops v order last → (mid : Option ℤ) × IsLegalFrom ops v (take k order) mid
runs_front ops zero order v last r = (v, refl)
runs_front ops (suc k) [] v last r = (v, refl)
runs_front ops (suc k) (p ∷ order) v last r = let rest = runs_front ops k order r.0 last r.2 in (rest.0, (r.0, r.1, rest.1))

known_done : (op : RegOp) (n : ℕ) → is_known op n ≡ true → (op.outcome ≡ Done) × (op_end op < n)
known_done op n h = elim op.outcome as (λ o. op.outcome ≡ o → (is_outcome_done o && ltb (op_end op) n) ≡ true → (op.outcome ≡ Done) × (op_end op < n)) [
  | Done ↦ λ is k. (is, ltb-true _ _ k)
  | Failed ↦ λ is k. absurd (false≢true k)
  | Unsure ↦ λ is k. absurd (false≢true k)
] refl h

done_known : (op : RegOp) (n : ℕ) → op.outcome ≡ Done → op_end op < n → is_known op n ≡ true
done_known op n done end = rw done (lt-ltb (op_end op) n end)

-- there is such a part for each number
until : (ops : List RegOp) (order : List ℕ) (n k : ℕ) → k ≤ length order → ((i : ℕ) → k ≤ i → i < length order → is_known_at ops order n i ≡ false) → (count : ℕ) × IsKnownUntil ops order n count
until ops order n zero low behind = (0, record { bounded = omega arith; last = λ i is. absurd (omega (arith, is)); behind = behind })
until ops order n (suc k) low behind = elim (is_known_at ops order n k) as (λ b. is_known_at ops order n k ≡ b → (count : ℕ) × IsKnownUntil ops order n count) [
  | true ↦ λ e. (suc k, record { bounded = low; last = λ i is. let here : k ≡ i = omega (arith, is) in subst (λ j. is_known_at ops order n j ≡ true) here e; behind = behind })
  | false ↦ λ e. until ops order n k (omega (arith, low)) (λ i ge lt. elim (cases_lt k i) as (λ _. is_known_at ops order n i ≡ false) [
    | inl more ↦ behind i (omega (arith, more)) lt
    | inr le ↦ let here : k ≡ i = omega (arith, ge, le) in subst (λ j. is_known_at ops order n j ≡ false) here e
  ])
] refl

module _ (ops : List RegOp) (ends : EndAfterInvoked ops) (bounded : (p : ℕ) → IsDone ops p → (op_at ops p).invoked ≤ end_at ops p) (initial : Option ℤ) (order : List ℕ) (last : Option ℤ) (is : IsPartialOrder ops initial order last)
    (n : ℕ) (small : n ≤ 2 ^ 64 - 1) (all : (p : ℕ) → IsDone ops p → end_at ops p < n → has order p ≡ true) (count : ℕ) (known : IsKnownUntil ops order n count) where
  none_late : IsNoneLate ops order
  none_late = late_if ops order is.distinct is.precedence

  ends_small : (ended : Option ℕ) (at : ℕ) → unwrap_or ended (2 ^ 64 - 1) < n → n ≤ at → EndsBefore ended at
  ends_small None at h le = absurd (omega (arith, h, small))
  ends_small (Some e) at h le = omega (arith, h, le)

  -- what stands there is invoked before the history is cut
  invoked_there : (i : ℕ) → i < count → (op_at ops (get_or order i 0)).invoked < n
  invoked_there i lt =
      let j : ℕ = count - 1 in
      let final = known_done (op_at ops (get_or order j 0)) n (known.last j (omega (arith, lt))) in
      elim (cases_lt i j) as (λ _. (op_at ops (get_or order i 0)).invoked < n) [
        | inl before ↦ elim (cases_lt (op_at ops (get_or order i 0)).invoked n) as (λ _. (op_at ops (get_or order i 0)).invoked < n) [
          | inl low ↦ low
          | inr late ↦ absurd (none_late i j before (omega (arith, known.bounded, lt)) (final.0, ends_small (op_at ops (get_or order j 0)).ended _ final.1 late))
        ]
        | inr ge ↦
            let here : j ≡ i = omega (arith, lt, ge) in
            let low = bounded (get_or order j 0) final.0 in
            subst (λ k. (op_at ops (get_or order k 0)).invoked < n) here (omega (arith, low, final.1))
      ]

  pub size : length (take count order) ≡ count
  size = omega (arith, length-take count order, known.bounded)

  at_front : (i : ℕ) → i < count → get_or (take count order) i 0 ≡ get_or order i 0
  at_front i lt = get_or-take count order i 0 lt

  has_front : (p : ℕ) → IsDone ops p → end_at ops p < n → has (take count order) p ≡ true
  has_front p done end =
      let r = place_of order p (all p done end) in
      let known' : is_known_at ops order n r.0 ≡ true = subst (λ q. is_known (op_at ops q) n ≡ true) (sym r.2) (done_known (op_at ops p) n done end) in
      elim (cases_lt r.0 count) as (λ _. has (take count order) p ≡ true) [
        | inl lt ↦ subst (λ q. has (take count order) q ≡ true) (at_front r.0 lt ∙ r.2) (has_here (take count order) r.0 (omega (arith, lt, size)))
        | inr ge ↦ absurd (not_true _ known' (known.behind r.0 ge r.1))
      ]

  pub whole_cut : HasAllDone (ops_before ops n) (take count order)
  whole_cut p done = let d = done_cut ops n p done in has_front p d.0 d.2

  pub partial_cut : (mid : Option ℤ) → IsLegalFrom ops initial (take count order) mid → IsPartialOrder (ops_before ops n) initial (take count order) mid
  partial_cut mid runs =
      let apart : HasNoneTwice (take count order) = distinct_take count order is.distinct in
      let possible : (i : ℕ) (d : ℕ) → i < length (take count order) → IsPossible (ops_before ops n) (get_or (take count order) i d) = λ i d lt.
      let low : i < count = omega (arith, lt, size) in
      let here : get_or (take count order) i d ≡ get_or order i d = get_or-take count order i d low in
      let inside : i < length order = omega (arith, low, known.bounded) in
      let zero' : get_or order i 0 ≡ get_or order i d = get_or_default order i 0 d inside in
      subst (IsPossible (ops_before ops n)) (sym here) (cut_possible ops n _ (is.possible i d inside) (subst (λ p. (op_at ops p).invoked < n) zero' (invoked_there i low))) in
      record {
        there = λ i d lt. possible_there (ops_before ops n) _ (possible i d lt);
        distinct = apart;
        possible = possible;
        precedence = keeps_if (ops_before ops n) (take count order) (ends_cut ops n ends) whole_cut (λ i j before lt late.
            let high : j < count = omega (arith, lt, size) in
            let low : i < count = omega (arith, before, high) in
            none_late i j before (omega (arith, high, known.bounded))
            (subst (λ p. Precedes ops p (get_or order i 0)) (at_front j high) (subst (λ p. Precedes ops (get_or (take count order) j 0) p) (at_front i low) (before_cut ops n _ _ late))));
        runs = runs_cut ops n ends (take count order) initial mid runs;
      }

-- ---- where the search got stuck

module _ (problem : Problem) (stood : IsProblem problem) (search : Search) (done : IsExhausted problem search) where
  abbrev ops : List RegOp
  ops = problem.ops.now

  abbrev stage : ℕ
  stage = search.furthest.stage

  abbrev pub End : ℕ
  End = end_at ops (stage_number problem stage)

  abbrev order : List ℕ
  order = furthest_order search.steps.items search.furthest

  bounded : (p : ℕ) → IsDone ops p → (op_at ops p).invoked ≤ end_at ops p
  bounded p is =
      let r = stood.done.each_done p is in
      let here = stood.done.enough r.0 (stage_number problem r.0) r.1 (stood.done.are_done r.0 r.1) (not_before_itself ops stood.ends (stage_number problem r.0)) in
      subst (λ q. (op_at ops q).invoked ≤ end_at ops q) r.2 (stood.done.in_time r.0 (stage_number problem r.0) r.1 here)

  is_partial : IsPartialOrder ops problem.initial order done.0.begun.far.value
  is_partial = partial ops problem.initial order done.0.begun.far.value done.0.begun.far.follows

  -- what ended before the end of the stage is there
  all_before : (n : ℕ) → n ≤ End → (p : ℕ) → IsDone ops p → end_at ops p < n → has order p ≡ true
  all_before n le p is end =
      let r = stood.done.each_done p is in
      elim (cases_lt r.0 stage) as (λ _. has order p ≡ true) [
        | inl lt ↦ subst (λ q. has order q ≡ true) r.2 (done.0.begun.far.passed r.0 lt)
        | inr ge ↦
            let rise = stood.done.ends_rise stage r.0 ge r.1 in
            let same : end_at ops (stage_number problem r.0) ≡ end_at ops p = ap (end_at ops) r.2 in
            absurd (omega (arith, rise, same, end, le))
      ]

  reach_of : (n : ℕ) (o : List ℕ) (last : Option ℤ) → IsPartialOrder ops problem.initial o last → ((k : ℕ) → k < n → has o (stage_number problem k) ≡ true) → CanReach problem n [] problem.initial
  reach_of n o last is covers = (o, last, follows_of ops problem.initial o last is, covers)

  pub no_order : HaveNoOrder ops problem.initial
  no_order o is = none_reaches problem stood search done (stages_in problem) done.0.begun.far.open' (omega arith)
      (reach_of (stages_in problem) o is.last is.partial (λ k lt. is.whole _ (stood.done.are_done k lt)))

  pub none_behind : (o : List ℕ) → IsOrder (ops_before ops (End + 1)) problem.initial o → ⊥
  none_behind o is = none_reaches problem stood search done (stage + 1) (omega arith) (omega (arith, done.0.begun.far.open'))
      (reach_of (stage + 1) o is.last (partial_of_cut ops (End + 1) stood.ends problem.initial o is.last is.partial) (λ k lt.
      let room : k < stages_in problem = omega (arith, lt, done.0.begun.far.open') in
      let there = stood.done.are_done k room in
      let rise = stood.done.ends_rise k stage (omega (arith, lt)) done.0.begun.far.open' in
      is.whole _ (cut_done ops (End + 1) (stage_number problem k) there (omega (arith, bounded (stage_number problem k) there, rise)) (omega (arith, rise)))))

  pub stuck_is : (stuck : Stuck) (count : ℕ) → IsKnownUntil ops order End count → End ≤ 2 ^ 64 - 1 → stuck.end ≡ End → stuck.order ≡ take count order → ((last : Option ℤ) → IsLegalFrom ops problem.initial (take count order) last → stuck.value ≡ last) → IsStuck ops problem.initial stuck
  stuck_is stuck count known small end_is order_is value_is =
      let mid = runs_front ops count order problem.initial done.0.begun.far.value is_partial.runs in
      let one = partial_cut ops stood.ends bounded problem.initial order done.0.begun.far.value is_partial End small (all_before End (omega arith)) count known mid.0 mid.1 in
      let all = whole_cut ops stood.ends bounded problem.initial order done.0.begun.far.value is_partial End small (all_before End (omega arith)) count known in
      record {
        completion = (stage_number problem stage, stood.done.are_done stage done.0.begun.far.open', sym end_is);
        before = subst (λ e. IsPartialOrder (ops_before ops e) problem.initial stuck.order stuck.value) (sym end_is)
            (subst (λ o. IsPartialOrder (ops_before ops End) problem.initial o stuck.value) (sym order_is) (subst (λ v. IsPartialOrder (ops_before ops End) problem.initial (take count order) v) (sym (value_is mid.0 mid.1)) one));
        whole = subst (λ e. HasAllDone (ops_before ops e) stuck.order) (sym end_is) (subst (λ o. HasAllDone (ops_before ops End) o) (sym order_is) all);
        behind = λ o is. none_behind o (subst (λ e. IsOrder (ops_before ops (e + 1)) problem.initial o) end_is is);
        least = λ n le.
            let low : n ≤ End = omega (arith, le, end_is) in
            let u = until ops order n (length order) (omega arith) (λ i ge lt. absurd (omega (arith, ge, lt))) in
            let m = runs_front ops u.0 order problem.initial done.0.begun.far.value is_partial.runs in (
              take u.0 order,
              record {
                last = m.0;
                partial = partial_cut ops stood.ends bounded problem.initial order done.0.begun.far.value is_partial n (omega (arith, low, small)) (all_before n low) u.0 u.1 m.0 m.1;
                whole = whole_cut ops stood.ends bounded problem.initial order done.0.begun.far.value is_partial n (omega (arith, low, small)) (all_before n low) u.0 u.1;
              },
            );
      }
