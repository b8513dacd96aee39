-- The search at its start and at its end.
use Rattle.std.proofs.Common.{◌≡◌, ℕ, zero, suc, ◌+◌, ◌-◌, ◌*◌, ◌<◌, ◌≤◌, ℤ, true, eqb, Option, Some, List, [], ◌∷◌, ◌++◌, length, slice_get, refl, sym, ap, subst, ◌∙◌, inl, inr, arith}
use Rattle.std.specs.Prelude.{◌⊎◌}
use Rattle.std.specs.List.{list_any}
use Rattle.std.proofs.lemmas.Bool.{false≢true}
use Rattle.std.proofs.lemmas.Map.Steps.{length-le_from_distinct_below}
use Rattle.jh_linear.specs.declared.register.RegOp.{RegOp}
use Rattle.jh_linear.specs.declared.sorted_ops.Problem.{Problem}
use Rattle.jh_linear.specs.declared.config.Config.{Config}
use Rattle.jh_linear.specs.declared.queue.RankedConfig.{RankedConfig}
use Rattle.jh_linear.specs.declared.search.Furthest.{Furthest}
use Rattle.jh_linear.specs.declared.search.Search.{Search}
use Rattle.jh_linear.specs.declared.verdict.Step.{Step}
use Rattle.jh_linear.specs.Order.{has, IsDone, IsOrder}
use Rattle.jh_linear.specs.Reached.{AreReached, order_at, root}
use Rattle.jh_linear.specs.SearchInside.{CanReach, IsExhausted, IsFull, IsFurthest, IsGoneOn, IsSearchKept, IsProblem, IsSearch, IsExpanded, IsWholeOrder, LeadsTo, search_lists, stages_in}
use Rattle.jh_linear.specs.WaitingInside.{IsWith, awaits, expansions_in}
use Rattle.jh_linear.proofs.NumberSetLemmas.{or_cases, or_left, or_right, place_of}
use Rattle.jh_linear.proofs.WaitingLemmas.{awaits_both, awaits_cases, awaits_kept, awaits_own, expansions_both, expansions_more}
use Rattle.jh_linear.proofs.MoveLemmas.{get_cases, nothing_there}
use Rattle.jh_linear.proofs.PartialLemmas.{distinct, one_last, partial, are_there, runs}
use Rattle.jh_linear.proofs.OrderLemmas.{member_is}
use Rattle.jh_linear.proofs.StepLemmas.{order_first}
use Rattle.jh_linear.proofs.GrowthLemmas.{are_alike, below, leads_more}

held : (cs : List Config) (i : ℕ) → i < length cs → (c : Config) × (slice_get cs i ≡ Some c)
held [] i lt = absurd (omega arith)
held (c ∷ cs) zero lt = (c, refl)
held (c ∷ cs) (suc i) lt = held cs i (omega arith)

only_one : (config c : Config) (i : ℕ) → slice_get (config ∷ []) i ≡ Some c → (i ≡ 0) × (config ≡ c)
only_one config c i is = elim (get_cases [] config c i is) as (λ _. (i ≡ 0) × (config ≡ c)) [
  | inl none ↦ absurd (nothing_there i c none)
  | inr here ↦ here
]

-- where nothing happened, the empty order will do
pub empty_order : (ops : List RegOp) (initial : Option ℤ) → ((p : ℕ) → IsDone ops p → ⊥) → IsOrder ops initial []
empty_order ops initial none = record { last = initial; partial = partial ops initial [] initial refl; whole = λ p done. absurd (none p done) }

turned : (xs : List ℕ) (q : ℕ) → list_any (eqb q) xs ≡ true → has xs q ≡ true
turned xs q h = sym (member_is xs q) ∙ h

module _ (problem : Problem) (stood : IsProblem problem) where
  abbrev pub first_far : Furthest
  first_far = record { stage = 0; step = root }

  started : (config : Config) → LeadsTo problem [] config → config.stage < stages_in problem → IsSearch problem (config ∷ []) (root ∷ [])
  started config stands low = record {
    sizes = refl;
    some = omega arith;
    begins = refl;
    earlier = λ i a b. absurd (omega arith);
    stands = λ i c is.
        let r = only_one config c i is in
        subst (λ n. LeadsTo problem (order_at (root ∷ []) n) c) (sym r.0) (subst (λ d. LeadsTo problem [] d) r.1 stands);
    open' = λ i c is. subst (λ d. d.stage < stages_in problem) (only_one config c i is).1 low;
    apart = λ i j a b before ia jb same. absurd (omega (arith, (only_one config b j jb).0, before));
  }

  far_first : (config : Config) → config.stage ≡ 0 → 0 < stages_in problem → IsFurthest problem (config ∷ []) (root ∷ []) first_far
  far_first config zero' some = record {
    named = omega arith;
    open' = some;
    value = problem.initial;
    follows = refl;
    passed = λ k lt. absurd (omega (arith, lt));
    most = λ i c is. omega (arith, zero', ap (λ (d : Config). d.stage) (only_one config c i is).1);
  }

  pub kept_start : (search : Search) (config : Config) (ranked : RankedConfig) → search.configs.keys ≡ config ∷ [] → search.steps.items ≡ root ∷ [] → ranked.at ≡ 0 → IsWith ranked [] search.waiting → search.furthest ≡ first_far → 0 < problem.budget → 0 < stages_in problem
      → LeadsTo problem [] config → config.stage ≡ 0 → config.value ≡ problem.initial → IsSearchKept problem search
  kept_start search config ranked e f at with' h room some stands stage value =
      let low : config.stage < stages_in problem = omega (arith, stage, some) in
      record {
        begun = record {
          known = subst (λ cs. IsSearch problem cs search.steps.items) (sym e) (subst (λ ss. IsSearch problem (config ∷ []) ss) (sym f) (started config stands low));
          far = subst (λ cs. IsFurthest problem cs search.steps.items search.furthest) (sym e) (subst (λ ss. IsFurthest problem (config ∷ []) ss search.furthest) (sym f) (subst (λ x. IsFurthest problem (config ∷ []) (root ∷ []) x) (sym h) (far_first config stage some)));
          few = omega (arith, ap (λ (ss : List Step). length ss) f, room);
        };
        first = (config, subst (λ (cs : List Config). slice_get cs 0 ≡ Some config) (sym e) refl, value);
        inside = λ i there. elim (awaits_cases ranked [] search.waiting with' i there) as (λ _. i < length search.steps.items) [
          | inl none ↦ absurd (false≢true none)
          | inr own ↦ omega (arith, own, at, ap (λ (ss : List Step). length ss) f)
        ];
        gone = λ i c is. inl (subst (λ n. awaits search.waiting n ≡ true) (at ∙ sym (only_one config c i (subst (λ (cs : List Config). slice_get cs i ≡ Some c) e is)).0) (awaits_own ranked [] search.waiting with'));
      }

  -- the search, with these configurations that wait
  abbrev pub waiting_for : Search → List RankedConfig → Search
  waiting_for search waiting = record { configs = search.configs; steps = search.steps; waiting = waiting; furthest = search.furthest }

  -- a configuration was taken from those that wait, and expanded
  module _ (old new : Search) (ranked : RankedConfig) (rest : List RankedConfig) (with' : IsWith ranked rest old.waiting) (kept : IsSearchKept problem old) (taken : IsExpanded problem (waiting_for old rest) new ranked) where
    -- what waited still waits, or was expanded
    still_waits : (i : ℕ) → awaits rest i ≡ true → awaits new.waiting i ≡ true
    still_waits i h = taken.on.waits i (awaits_both taken.again rest i ∙ or_right (awaits taken.again i) (awaits rest i) h)

    again_waits : awaits taken.again ranked.at ≡ true → awaits new.waiting ranked.at ≡ true
    again_waits h = taken.on.waits ranked.at (awaits_both taken.again rest ranked.at ∙ or_left (awaits taken.again ranked.at) (awaits rest ranked.at) h)

    left_inside : (i : ℕ) → awaits (taken.again ++ rest) i ≡ true → i < length old.steps.items
    left_inside i h = elim (or_cases (awaits taken.again i) (awaits rest i) (sym (awaits_both taken.again rest i) ∙ h)) as (λ _. i < length old.steps.items) [
      | inl own ↦ omega (arith, taken.own i own, kept.inside ranked.at (awaits_own ranked rest old.waiting with'))
      | inr other ↦ kept.inside i (awaits_kept ranked rest old.waiting with' i other)
    ]

    abbrev Done : ℕ → Config → Type 0
    Done i c = (awaits new.waiting i ≡ true) ⊎ IsGoneOn problem new.configs.keys new.steps.items new.furthest.stage (order_at new.steps.items i) c.value

    expanded_done : (c : Config) → slice_get old.configs.keys ranked.at ≡ Some c → order_at new.steps.items ranked.at ≡ order_at old.steps.items ranked.at → Done ranked.at c
    expanded_done c is same = elim taken.gone as (λ _. Done ranked.at c) [
      | inl once ↦ inl (again_waits once)
      | inr went ↦ inr (subst (λ o. IsGoneOn problem new.configs.keys new.steps.items new.furthest.stage o c.value) (sym same) (went c is))
    ]

    old_done : (i : ℕ) (c : Config) → slice_get old.configs.keys i ≡ Some c → Done i c
    old_done i c is =
        let same : order_at new.steps.items i ≡ order_at old.steps.items i = taken.on.orders i (below problem stood old.configs.keys old.steps.items kept.begun.known i c is) in
        elim (kept.gone i c is) as (λ _. Done i c) [
          | inl waited ↦ elim (awaits_cases ranked rest old.waiting with' i waited) as (λ _. Done i c) [
            | inl still ↦ inl (still_waits i still)
            | inr here ↦ subst (λ n. slice_get old.configs.keys n ≡ Some c → order_at new.steps.items n ≡ order_at old.steps.items n → Done n c) here (expanded_done c) is same
          ]
          | inr went ↦ inr (subst (λ o. IsGoneOn problem new.configs.keys new.steps.items new.furthest.stage o c.value) (sym same) (λ n past few reach.
              leads_more problem stood (record (search_lists old) { waiting = taken.again ++ rest }) (search_lists new) (length (order_at old.steps.items i)) n kept.begun.known taken.on
              (went n (omega (arith, taken.on.further, past)) few reach)))
        ]

    pub kept_on : IsSearchKept problem new
    kept_on = record {
      begun = record { known = taken.on.known; far = taken.on.far; few = taken.on.few };
      first = (kept.first.0, taken.on.kept 0 kept.first.0 kept.first.1, kept.first.2);
      inside = taken.on.inside left_inside;
      gone = λ i c there. elim (taken.on.fresh i c there) as (λ _. Done i c) [ inl before ↦ old_done i c before | inr waits ↦ inl waits ];
    }

    -- fewer expansions are left, with those of the configurations that may still be entered
    pub fewer_expansions : 2 * (problem.budget - length new.steps.items) + expansions_in new.waiting < 2 * (problem.budget - length old.steps.items) + expansions_in old.waiting
    fewer_expansions = omega (arith, taken.on.balance, taken.on.few, taken.on.longer, taken.fewer, expansions_both taken.again rest, expansions_more ranked rest old.waiting with')

  -- nothing waits, as before
  pub kept_emptied : (old : Search) (left : List RankedConfig) → old.waiting ≡ [] → left ≡ [] → IsSearchKept problem old → IsExhausted problem (waiting_for old left)
  kept_emptied old left none none' kept = (
    record {
      begun = record { known = kept.begun.known; far = kept.begun.far; few = kept.begun.few };
      first = kept.first;
      inside = λ i h. absurd (false≢true (subst (λ ws. awaits ws i ≡ true) none' h));
      gone = λ i c is. elim (kept.gone i c is) as (λ _. (awaits left i ≡ true) ⊎ IsGoneOn problem old.configs.keys old.steps.items old.furthest.stage (order_at old.steps.items i) c.value) [
        | inl waits ↦ absurd (false≢true (subst (λ ws. awaits ws i ≡ true) none waits))
        | inr went ↦ inr went
      ];
    },
    none',
  )

  -- the budget is used up
  pub all_reached : (search : Search) → IsFull problem search → AreReached problem.ops.now problem.initial problem.budget search.steps.items
  all_reached search full =
      let ops : List RegOp = problem.ops.now in
      let initial = problem.initial in
      let steps : List Step = search.steps.items in
      let cs : List Config = full.0.0 in
      let known = full.0.1 in
      let config_at : (i : ℕ) → i < length steps → (c : Config) × (slice_get cs i ≡ Some c) = λ i lt. held cs i (subst (λ n. i < n) (sym known.sizes) lt) in
      record {
        count = full.1;
        begins = λ _. known.begins;
        earlier = known.earlier;
        partial = λ i lt. let c = config_at i lt in (c.0.value, partial ops initial (order_at steps i) c.0.value (known.stands i c.0 c.1).follows);
        apart = λ i j last before high pi pj same.
            let c = config_at i (omega (arith, before, high)) in
            let d = config_at j high in
            let cs' = known.stands i c.0 c.1 in
            let ds' = known.stands j d.0 d.1 in
            let cv = one_last ops (order_at steps i) initial c.0.value last (runs ops [] (order_at steps i) initial c.0.value cs'.follows) pi.runs in
            let dv = one_last ops (order_at steps j) initial d.0.value last (runs ops [] (order_at steps j) initial d.0.value ds'.follows) pj.runs in
            known.apart i j c.0 d.0 before c.1 d.1 (are_alike problem stood (order_at steps i) (order_at steps j) c.0 d.0 cs' ds' (known.open' i c.0 c.1) (known.open' j d.0 d.1) same (cv ∙ sym dv));
      }

  pub is_order : (order : List ℕ) → IsWholeOrder problem order → IsOrder problem.ops.now problem.initial order
  is_order order whole = record { last = whole.0.0; partial = partial problem.ops.now problem.initial order whole.0.0 whole.0.1; whole = whole.1 }

  -- ---- where nothing waits

  module _ (search : Search) (done : IsExhausted problem search) (n : ℕ) (past : search.furthest.stage < n) (few : n ≤ stages_in problem) where
    climb : (fuel i : ℕ) (c : Config) → slice_get search.configs.keys i ≡ Some c → length problem.ops.now < length (order_at search.steps.items i) + fuel → CanReach problem n (order_at search.steps.items i) c.value → ⊥
    climb zero i c is long reach =
        let ops : List RegOp = problem.ops.now in
        let order : List ℕ = order_at search.steps.items i in
        let stands = done.0.begun.known.stands i c is in
        let there = are_there ops [] order problem.initial c.value stands.follows in
        let short = length-le_from_distinct_below order (length ops) (distinct ops [] order problem.initial c.value stands.follows)
        (λ q h. let r = place_of order q (turned order q h) in subst (λ p. p < length ops) r.2 (there r.0 0 r.1)) in
        omega (arith, long, short)
    climb (suc fuel) i c is long reach =
        elim (done.0.gone i c is) as (λ _. ⊥) [
          | inl waits ↦ false≢true (subst (λ w. awaits w i ≡ true) done.1 waits)
          | inr went ↦ let led = went n past few reach in climb fuel led.0 led.1 led.2 (omega (arith, long, led.3)) led.4
        ]

    pub none_reaches : CanReach problem n [] problem.initial → ⊥
    none_reaches reach =
        let first = done.0.first in
        let is : order_at search.steps.items 0 ≡ [] = order_first search.steps.items done.0.begun.known.some in
        climb (length problem.ops.now + 1) 0 first.0 first.1 (omega (arith, ap length is))
        (subst (λ v. CanReach problem n (order_at search.steps.items 0) v) (sym first.2) (subst (λ o. CanReach problem n o problem.initial) (sym is) reach))
