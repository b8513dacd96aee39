-- One more configuration that was reached.
use Rattle.std.proofs.Common.{◌≡◌, ℕ, ◌<◌, ◌≤◌, ℤ, true, false, not, Option, Some, List, [], ◌∷◌, ◌++◌, length, get_or, slice_get, refl, sym, ap, subst, ◌∙◌, inl, inr, arith}
use Rattle.std.specs.Prelude.{◌⊎◌, ◌||◌}
use Rattle.std.proofs.lemmas.Bool.{cases_lt}
use Rattle.std.proofs.lemmas.List.{length_push, get_or_append_left, get_or_push}
use Rattle.std.proofs.lemmas.List.Elements.{filter_agree}
use Rattle.std.proofs.lemmas.Option.{slice_get_within}
use Rattle.jh_linear.specs.declared.sorted_ops.Problem.{Problem}
use Rattle.jh_linear.specs.declared.sorted_ops.Stage.{Stage}
use Rattle.jh_linear.specs.declared.config.Config.{Config}
use Rattle.jh_linear.specs.declared.search.Furthest.{Furthest}
use Rattle.jh_linear.specs.declared.queue.RankedConfig.{RankedConfig}
use Rattle.jh_linear.specs.declared.verdict.Step.{Step}
use Rattle.jh_linear.specs.Order.{has}
use Rattle.jh_linear.specs.Reached.{order_at, root}
use Rattle.jh_linear.specs.SearchInside.{AreSame, CanReach, GoesOnWith, Grows, IsAt, IsFurthest, IsProblem, IsSearch, LeadsOn, LeadsTo, AreNext, SearchLists, arrivals_by, furthest_order, stage_number, stages_in, numbers_without}
use Rattle.jh_linear.specs.WaitingInside.{IsWith, awaits, expansions_in, expansions_left}
use Rattle.jh_linear.proofs.WaitingLemmas.{awaits_cases, awaits_kept, awaits_own, expansions_more}
use Rattle.jh_linear.proofs.NumberSetLemmas.{has_append, has_without, in_without, not_true, same_tests, true_if}
use Rattle.jh_linear.proofs.MoveLemmas.{get_cases, get_kept, get_last}
use Rattle.jh_linear.proofs.NextLemmas.{same_next, same_unknown}
use Rattle.jh_linear.proofs.OrderLemmas.{no_more}
use Rattle.jh_linear.proofs.FollowLemmas.{follows_same}
use Rattle.jh_linear.proofs.PartialLemmas.{distinct}
use Rattle.jh_linear.proofs.StepLemmas.{order_kept, order_new}

pub same_flip : (a b : Config) → AreSame a b → AreSame b a
same_flip a b h = (sym h.0, sym h.1, sym h.2, sym h.3)

-- a copy of a configuration stands for the same orders
pub stands_copy : (problem : Problem) (order : List ℕ) (a b : Config) → AreSame a b → LeadsTo problem order a → LeadsTo problem order b
stands_copy problem order a b same stands = record {
  follows = subst (λ v. GoesOnWith problem.ops.now [] problem.initial order v) same.3 stands.follows;
  searched = stands.searched;
  known = subst (λ p. IsAt problem.sorted.arrivals.items problem.sorted.stages.items order b.stage p) same.1 (subst (λ s. IsAt problem.sorted.arrivals.items problem.sorted.stages.items order s a.happened.items) same.0 stands.known);
  used = subst (λ n. AreNext problem.sorted.unsure_changes.items problem.sorted.classes.items order n) same.2 stands.used;
  low = subst (λ s. s ≤ stages_in problem) same.0 stands.low;
  waits = let Waits : ℕ → Type 0 = λ s. s < stages_in problem → has order (stage_number problem s) ≡ false in subst Waits same.0 stands.waits;
}

-- what can be reached does not hang on how the numbers so far stand
reach_same : (problem : Problem) (n : ℕ) (a b : List ℕ) (v w : Option ℤ) → ((q : ℕ) → has a q ≡ has b q) → v ≡ w → CanReach problem n a v → CanReach problem n b w
reach_same problem n a b v w numbers value reach = (
  reach.0,
  reach.1,
  follows_same problem.ops.now a b reach.0 w reach.1 numbers (subst (λ x. GoesOnWith problem.ops.now a x reach.0 reach.1) value reach.2),
  λ k lt. has_append b reach.0 (stage_number problem k) ∙ ap (λ t. t || has reach.0 (stage_number problem k)) (sym (numbers _)) ∙ sym (has_append a reach.0 (stage_number problem k)) ∙ reach.3 k lt,
)

module _ (problem : Problem) (stood : IsProblem problem) where
  abbrev arrivals : List ℕ
  arrivals = problem.sorted.arrivals.items

  abbrev stages : List Stage
  stages = problem.sorted.stages.items

  -- a number in one of the orders of a configuration is in the other
  placed_too : (a b : List ℕ) (x y : Config) → LeadsTo problem a x → LeadsTo problem b y → AreSame x y → y.stage < stages_in problem → (q : ℕ) → has a q ≡ true → has b q ≡ true
  placed_too a b x y ax by same lt q h =
      let also : x.stage < stages_in problem = omega (arith, same.0, lt) in
      let where' : arrivals_by arrivals stages x.stage ≡ arrivals_by arrivals stages y.stage = ap (λ k. arrivals_by arrivals stages k) same.0 in
      let pending : numbers_without a (arrivals_by arrivals stages x.stage) ≡ numbers_without b (arrivals_by arrivals stages y.stage) = sym (ax.known.pending_is also) ∙ same.1 ∙ by.known.pending_is lt in
      elim (ax.searched q h) as (λ _. has b q ≡ true) [
        | inl done ↦ true_if _ (λ out.
            let here = subst (λ xs. has xs q ≡ true) where' (ax.known.arrived also q h (stood.done.all q done)) in
            let left = has_without b _ q here out in
            not_true _ h (in_without a _ q (subst (λ xs. has xs q ≡ true) (sym pending) left)).1)
        | inr un ↦ sym (same_unknown problem.ops.now problem.sorted.unsure_changes.items problem.sorted.classes.items stood.classes a b x.next.items y.next.items ax.used by.used same.2 q un) ∙ h
      ]

  -- the same configuration stands for the same numbers
  pub same_numbers : (a b : List ℕ) (x y : Config) → LeadsTo problem a x → LeadsTo problem b y → AreSame x y → y.stage < stages_in problem → (q : ℕ) → has a q ≡ has b q
  same_numbers a b x y ax by same lt q =
      same_tests (has a q) (has b q) (placed_too a b x y ax by same lt q) (placed_too b a y x by ax (same_flip x y same) (omega (arith, same.0, lt)) q)

  -- configurations with the same numbers and the same value are the same
  same_stage : (a b : List ℕ) (x y : Config) → LeadsTo problem a x → LeadsTo problem b y → x.stage < stages_in problem → ((q : ℕ) → has a q ≡ has b q) → x.stage < y.stage → ⊥
  same_stage a b x y ax by low same lt = not_true _ (same _ ∙ by.known.passed x.stage lt) (ax.waits low)

  pub are_alike : (a b : List ℕ) (x y : Config) → LeadsTo problem a x → LeadsTo problem b y → x.stage < stages_in problem → y.stage < stages_in problem → ((q : ℕ) → has a q ≡ has b q) → x.value ≡ y.value → AreSame x y
  are_alike a b x y ax by xl yl same value =
      let one : x.stage ≡ y.stage = elim (cases_lt x.stage y.stage) as (λ _. x.stage ≡ y.stage) [
        | inl lt ↦ absurd (same_stage a b x y ax by xl same lt)
        | inr le ↦ elim (cases_lt y.stage x.stage) as (λ _. x.stage ≡ y.stage) [
          | inl lt ↦ absurd (same_stage b a y x by ax yl (λ q. sym (same q)) lt)
          | inr ge ↦ omega (arith, le, ge)
        ]
      ] in (
        one,
        ax.known.pending_is xl
            ∙ filter_agree (λ p. not (has a p)) (λ p. not (has b p)) (λ p. ap not (same p)) (arrivals_by arrivals stages x.stage)
            ∙ ap (λ k. numbers_without b (arrivals_by arrivals stages k)) one
            ∙ sym (by.known.pending_is yl),
        same_next problem.ops.now problem.sorted.unsure_changes.items problem.sorted.classes.items stood.classes a b x.next.items y.next.items ax.used by.used same,
        value,
      )

  -- two orders with the same numbers are as long as each other
  same_length : (a b : List ℕ) (x y : Config) → LeadsTo problem a x → LeadsTo problem b y → ((q : ℕ) → has a q ≡ has b q) → length a ≤ length b
  same_length a b x y ax by same = no_more a b (distinct problem.ops.now [] a problem.initial x.value ax.follows) (λ q h. sym (same q) ∙ h)

  module _ (cs : List Config) (ss : List Step) (search : IsSearch problem cs ss) where
    pub below : (i : ℕ) (c : Config) → slice_get cs i ≡ Some c → i < length ss
    below i c is = subst (λ n. i < n) search.sizes (slice_get_within cs i c is)

    -- a configuration that was known leads on as far as one that is the same
    pub known_leads : (config found : Config) (i size n : ℕ) (order : List ℕ) → LeadsTo problem order config → slice_get cs i ≡ Some found → AreSame config found → size < length order → CanReach problem n order config.value → LeadsOn problem cs ss size n
    known_leads config found i size n order stands is same longer reach =
        let there = search.stands i found is in
        let numbers = same_numbers order (order_at ss i) config found stands there same (search.open' i found is) in
        let long : length order ≤ length (order_at ss i) = same_length order (order_at ss i) config found stands there numbers in
        (i, found, is, omega (arith, longer, long), reach_same problem n order (order_at ss i) config.value found.value numbers same.3 reach)

    pub new_leads : (config : Config) (step : Step) (size n : ℕ) → size < length (order_at ss step.parent ++ step.placed) → CanReach problem n (order_at ss step.parent ++ step.placed) config.value
        → LeadsOn problem (cs ++ config ∷ []) (ss ++ step ∷ []) size n
    new_leads config step size n longer reach =
        let is : order_at (ss ++ step ∷ []) (length ss) ≡ order_at ss step.parent ++ step.placed = order_new ss step search.some in (
          length ss,
          config,
          subst (λ k. slice_get (cs ++ config ∷ []) k ≡ Some config) search.sizes (get_last cs config),
          subst (λ o. size < length o) (sym is) longer,
          subst (λ o. CanReach problem n o config.value) (sym is) reach,
        )

    pub search_push : (config : Config) (step : Step) → step.parent < length ss → LeadsTo problem (order_at ss step.parent ++ step.placed) config → config.stage < stages_in problem
        → ((i : ℕ) (found : Config) → slice_get cs i ≡ Some found → AreSame config found → ⊥)
        → IsSearch problem (cs ++ config ∷ []) (ss ++ step ∷ [])
    search_push config step lt stands room none =
        record {
          sizes = omega (arith, length_push cs config, length_push ss step, search.sizes);
          some = omega (arith, length_push ss step, search.some);
          begins = get_or_append_left ss (step ∷ []) root 0 search.some ∙ search.begins;
          earlier = λ i low high. elim (cases_lt i (length ss)) as (λ _. (get_or (ss ++ step ∷ []) i root).parent < i) [
            | inl old ↦ subst (λ s. s.parent < i) (sym (get_or_append_left ss (step ∷ []) root i old)) (search.earlier i low old)
            | inr new ↦ let is : length ss ≡ i = omega (arith, length_push ss step, high, new) in
                subst (λ s. s.parent < i) (sym (get_or_push ss step root i is)) (subst (λ n. step.parent < n) is lt)
          ];
          stands = λ i c is. elim (get_cases cs config c i is) as (λ _. LeadsTo problem (order_at (ss ++ step ∷ []) i) c) [
            | inl old ↦ subst (λ o. LeadsTo problem o c) (sym (order_kept ss step i (below i c old))) (search.stands i c old)
            | inr new ↦
                let here : LeadsTo problem (order_at (ss ++ step ∷ []) (length ss)) config = subst (λ o. LeadsTo problem o config) (sym (order_new ss step search.some)) stands in
                let at : length ss ≡ i = sym (new.0 ∙ search.sizes) in
                subst (λ n. LeadsTo problem (order_at (ss ++ step ∷ []) n) c) at (subst (λ d. LeadsTo problem (order_at (ss ++ step ∷ []) (length ss)) d) new.1 here)
          ];
          open' = λ i c is. elim (get_cases cs config c i is) as (λ _. c.stage < stages_in problem) [
            | inl old ↦ search.open' i c old
            | inr new ↦ subst (λ d. d.stage < stages_in problem) new.1 room
          ];
          apart = λ i j a b before ia jb same. elim (get_cases cs config b j jb) as (λ _. ⊥) [
            | inl old ↦ elim (get_cases cs config a i ia) as (λ _. ⊥) [
              | inl first ↦ search.apart i j a b before first old same
              | inr last ↦ let high = slice_get_within cs j b old in absurd (omega (arith, high, last.0, before))
            ]
            | inr new ↦ elim (get_cases cs config a i ia) as (λ _. ⊥) [
              | inl first ↦ none i a first (same_flip a config (subst (λ d. AreSame a d) (sym new.1) same))
              | inr last ↦ absurd (omega (arith, last.0, new.0, before))
            ]
          ];
        }

    -- the furthest order stays so, where a configuration that is not further comes
    pub far_push : (furthest : Furthest) (config : Config) (step : Step) → IsFurthest problem cs ss furthest → config.stage ≤ furthest.stage → IsFurthest problem (cs ++ config ∷ []) (ss ++ step ∷ []) furthest
    far_push furthest config step far low =
        let same : furthest_order (ss ++ step ∷ []) furthest ≡ furthest_order ss furthest = ap (λ o. o ++ furthest.step.placed) (order_kept ss step furthest.step.parent far.named) in
        record {
          named = omega (arith, far.named, length_push ss step);
          open' = far.open';
          value = far.value;
          follows = subst (λ o. GoesOnWith problem.ops.now [] problem.initial o far.value) (sym same) far.follows;
          passed = λ k lt. subst (λ o. has o (stage_number problem k) ≡ true) (sym same) (far.passed k lt);
          most = λ i c is. elim (get_cases cs config c i is) as (λ _. c.stage ≤ furthest.stage) [
            | inl old ↦ far.most i c old
            | inr new ↦ subst (λ d. d.stage ≤ furthest.stage) new.1 low
          ];
        }

  -- a further order was noted
  pub grows_far : (old : SearchLists) (furthest : Furthest) → IsSearch problem old.configs old.steps → IsFurthest problem old.configs old.steps furthest → length old.steps ≤ problem.budget → old.furthest.stage ≤ furthest.stage → Grows problem old (record old { furthest = furthest })
  grows_far old furthest known far few further = record {
    known = known;
    far = far;
    few = few;
    longer = omega arith;
    further = further;
    orders = λ i lt. refl;
    kept = λ i c is. is;
    fresh = λ i c is. inl is;
    waits = λ i h. h;
    inside = λ g i h. g i h;
    balance = refl;
  }

  pub grows_none : (old : SearchLists) → IsSearch problem old.configs old.steps → IsFurthest problem old.configs old.steps old.furthest → length old.steps ≤ problem.budget → Grows problem old old
  grows_none old known far few = grows_far old old.furthest known far few (omega arith)

  pub grows_push : (old : SearchLists) (waiting : List RankedConfig) (config : Config) (step : Step) (ranked : RankedConfig) → IsSearch problem old.configs old.steps → IsFurthest problem old.configs old.steps old.furthest → length old.steps ≤ problem.budget → (length old.steps ≡ problem.budget → ⊥) → step.parent < length old.steps
      → LeadsTo problem (order_at old.steps step.parent ++ step.placed) config → config.stage < stages_in problem → config.stage ≤ old.furthest.stage → ((i : ℕ) (found : Config) → slice_get old.configs i ≡ Some found → AreSame config found → ⊥)
      → ranked.at ≡ length old.configs → expansions_left ranked ≡ 2 → IsWith ranked old.waiting waiting
      → Grows problem old (record { configs = old.configs ++ config ∷ []; steps = old.steps ++ step ∷ []; waiting = waiting; furthest = old.furthest })
  grows_push old waiting config step ranked known far few room lt stands open'' low none at two with' =
      let cs = old.configs in
      let ss = old.steps in
      let ws = old.waiting in
      record {
        known = search_push cs ss known config step lt stands open'' none;
        far = far_push cs ss known old.furthest config step far low;
        few = omega (arith, length_push ss step, few, room);
        longer = omega (arith, length_push ss step);
        further = omega arith;
        orders = λ i low'. order_kept ss step i low';
        kept = λ i c is. get_kept cs config c i is;
        fresh = λ i c is. elim (get_cases cs config c i is) as (λ _. (slice_get cs i ≡ Some c) ⊎ (awaits waiting i ≡ true)) [
          | inl before ↦ inl before
          | inr new ↦ inr (subst (λ n. awaits waiting n ≡ true) (at ∙ sym new.0) (awaits_own ranked ws waiting with'))
        ];
        waits = λ i h. awaits_kept ranked ws waiting with' i h;
        inside = λ g i h. elim (awaits_cases ranked ws waiting with' i h) as (λ _. i < length (ss ++ step ∷ [])) [
          | inl before ↦ omega (arith, g i before, length_push ss step)
          | inr new ↦ omega (arith, new, at, known.sizes, length_push ss step)
        ];
        balance = omega (arith, length_push ss step, expansions_more ranked ws waiting with', two);
      }

  pub grows_trans : (old mid new : SearchLists) → Grows problem old mid → Grows problem mid new → Grows problem old new
  grows_trans old mid new a b = record {
    known = b.known;
    far = b.far;
    few = b.few;
    longer = omega (arith, a.longer, b.longer);
    further = omega (arith, a.further, b.further);
    orders = λ i lt. b.orders i (omega (arith, a.longer, lt)) ∙ a.orders i lt;
    kept = λ i c is. b.kept i c (a.kept i c is);
    fresh = λ i c is. elim (b.fresh i c is) as (λ _. (slice_get old.configs i ≡ Some c) ⊎ (awaits new.waiting i ≡ true)) [
      | inl there ↦ elim (a.fresh i c there) as (λ _. (slice_get old.configs i ≡ Some c) ⊎ (awaits new.waiting i ≡ true)) [ inl older ↦ inl older | inr w ↦ inr (b.waits i w) ]
      | inr w ↦ inr w
    ];
    waits = λ i h. b.waits i (a.waits i h);
    inside = λ g i h. b.inside (a.inside g) i h;
    balance = omega (arith, a.balance, b.balance);
  }

  -- in which order configurations wait does not matter
  pub grows_order : (old new : SearchLists) (waiting : List RankedConfig) → ((i : ℕ) → awaits old.waiting i ≡ awaits waiting i) → expansions_in old.waiting ≡ expansions_in waiting → Grows problem old new → Grows problem (record old { waiting = waiting }) new
  grows_order old new waiting same count on = record {
    known = on.known;
    far = on.far;
    few = on.few;
    longer = on.longer;
    further = on.further;
    orders = on.orders;
    kept = on.kept;
    fresh = on.fresh;
    waits = λ i h. on.waits i (same i ∙ h);
    inside = λ g i h. on.inside (λ j k. g j (sym (same j) ∙ k)) i h;
    balance = omega (arith, on.balance, count);
  }

  -- what led on still does
  pub leads_more : (old new : SearchLists) (size n : ℕ) → IsSearch problem old.configs old.steps → Grows problem old new → LeadsOn problem old.configs old.steps size n → LeadsOn problem new.configs new.steps size n
  leads_more old new size n known on led =
      let same : order_at new.steps led.0 ≡ order_at old.steps led.0 = on.orders led.0 (below old.configs old.steps known led.0 led.1 led.2) in
      (led.0, led.1, on.kept led.0 led.1 led.2, subst (λ o. size < length o) (sym same) led.3, subst (λ o. CanReach problem n o led.1.value) (sym same) led.4)
