-- What is left of an order and of a loop of nodes where only transactions count.
use Rattle.std.proofs.Common.{◌≡◌, ℕ, zero, suc, ◌+◌, ◌<◌, ◌≤◌, Bool, true, false, List, [], ◌∷◌, ◌++◌, length, get_or, take, drop, refl, sym, ap, subst, ◌∙◌, inl, inr, arith}
use Rattle.std.specs.Prelude.{◌⊎◌, nat_lt, filter, slice_set, Vec}
use Rattle.std.specs.declared.alloc.Global.{Global}
use Rattle.std.proofs.lemmas.Bool.{cases_lt, lt-ltb, ltb-true}
use Rattle.std.proofs.lemmas.List.{take-append-drop, drop_more, drop_all, length-append}
use Rattle.jh_txn.specs.declared.dependency.Step.{Step}
use Rattle.jh_txn.specs.declared.dependency.Why.{Why}
use Rattle.jh_txn.specs.Cycles.{first_place}
use Rattle.jh_txn.specs.Transactions.{includes, ComesBefore}
use Rattle.jh_txn.proofs.ListLemmas.{before_itself, before_trans, once_if}
use Rattle.jh_txn_graph.specs.Graphs.{IsStepTo, HasStep, AreHubsUpwards, IsPath, HasPath, KeepsPaths, LeadByPaths, IsCycleOfPaths}
use Rattle.jh_txn_graph.specs.HubsInside.{AreHubs, HasTransaction, BeginsBelow, place_of_step, IsUnderWay}
use Rattle.jh_txn_graph.specs.WalkInside.{AreLinked, IsLoop, KeepsSteps}
use Rattle.jh_txn_graph.proofs.FilterLemmas.{before_filter, filter_before, filter_includes, includes_filter}
use Rattle.jh_txn_graph.proofs.WalkLemmas.{loop_if, first_push}

-- An order of all nodes keeps paths through hubs.
module _ (graph : List (Vec Step Global)) (count : ℕ) (nodes : List ℕ) (kept : KeepsSteps graph nodes) (below : count ≤ length graph) where
  step_before : (place : ℕ) (why : Why) (target : ℕ) → HasStep graph place why target → ComesBefore nodes place target
  step_before place why target has = subst (λ p. ComesBefore nodes p target) has.2 (kept.forwards has.0 target has.1)

  path_before : (place : ℕ) (hubs : List ℕ) (why : Why) (target : ℕ) → IsPath graph count place hubs why target → ComesBefore nodes place target
  path_before place [] why target path = step_before place why target path
  path_before place (hub ∷ hubs) why target path = before_trans nodes place hub target kept.distinct (step_before place path.0 hub path.1) (path_before hub hubs why target path.3)

  pub keeps_paths : KeepsPaths graph count (filter (λ node. nat_lt node count) nodes)
  keeps_paths = record {
    distinct = once_if (filter (λ node. nat_lt node count) nodes) (λ a h. before_itself nodes a kept.distinct (before_filter (λ node. nat_lt node count) nodes a a h));
    whole = λ place. (
      λ h. ltb-true place count (includes_filter (λ node. nat_lt node count) nodes place h).1,
      λ low. filter_includes (λ node. nat_lt node count) nodes place (kept.whole place (omega (arith, low, below))) (lt-ltb place count low),
    );
    forwards = λ place target why low also leads. filter_before (λ node. nat_lt node count) nodes place target (path_before place leads.0 why target leads.1) (lt-ltb place count low) (lt-ltb target count also);
  }

-- Loops, begun elsewhere.
pub first_append : (xs ys : List Step) (last : ℕ) → first_place (xs ++ ys) last ≡ first_place xs (first_place ys last)
first_append [] ys last = refl
first_append (x ∷ xs) ys last = refl

module _ (graph : List (Vec Step Global)) where
  linked_left : (xs ys : List Step) (last : ℕ) → AreLinked graph (xs ++ ys) last → AreLinked graph xs (first_place ys last)
  linked_left [] ys last linked = tt
  linked_left (x ∷ xs) ys last linked = (subst (IsStepTo graph x) (first_append xs ys last) linked.0, linked_left xs ys last linked.1)

  linked_right : (xs ys : List Step) (last : ℕ) → AreLinked graph (xs ++ ys) last → AreLinked graph ys last
  linked_right [] ys last linked = linked
  linked_right (x ∷ xs) ys last linked = linked_right xs ys last linked.1

  linked_both : (xs ys : List Step) (last : ℕ) → AreLinked graph xs (first_place ys last) → AreLinked graph ys last → AreLinked graph (xs ++ ys) last
  linked_both [] ys last left right = right
  linked_both (x ∷ xs) ys last left right = (subst (IsStepTo graph x) (sym (first_append xs ys last)) left.0, linked_both xs ys last left.1 right)

  pub loop_linked : (steps : List Step) → IsLoop graph steps → AreLinked graph steps (first_place steps 0)
  loop_linked [] loop = absurd loop
  loop_linked (step ∷ steps) loop = loop

  pub loop_some : (steps : List Step) → IsLoop graph steps → 0 < length steps
  loop_some [] loop = absurd loop
  loop_some (step ∷ steps) loop = omega arith

  same_first : (steps : List Step) (last : ℕ) → 0 < length steps → first_place steps last ≡ first_place steps 0
  same_first [] last some = absurd (omega (arith, some))
  same_first (step ∷ steps) last some = refl

  pub loop_swapped : (front back : List Step) → IsLoop graph (front ++ back) → IsLoop graph (back ++ front)
  loop_swapped front back loop =
      let start : ℕ = first_place (front ++ back) 0 in
      let mid : ℕ = first_place back start in
      let linked : AreLinked graph (front ++ back) start = loop_linked (front ++ back) loop in
      let some : 0 < length (front ++ back) = loop_some (front ++ back) loop in
      let round : first_place front mid ≡ start = sym (first_append front back start) ∙ same_first (front ++ back) start some in
      let back_linked : AreLinked graph back (first_place front mid) = subst (AreLinked graph back) (sym round) (linked_right front back start linked) in
      loop_if graph (back ++ front) mid (omega (arith, some, length-append front back, length-append back front))
      (linked_both back front mid back_linked (linked_left front back start linked))
      (first_append back front mid ∙ ap (first_place back) round)

  pub loop_turned : (steps : List Step) (i : ℕ) → IsLoop graph steps → IsLoop graph (drop i steps ++ take i steps)
  loop_turned steps i loop = loop_swapped (take i steps) (drop i steps) (subst (IsLoop graph) (sym (take-append-drop i steps)) loop)

  -- the step at an index leads to the place behind it
  pub link_at : (steps : List Step) (i : ℕ) (d : Step) (last : ℕ) → AreLinked graph steps last → i < length steps → IsStepTo graph (get_or steps i d) (first_place (drop (suc i) steps) last)
  link_at [] i d last linked low = absurd (omega (arith, low))
  link_at (step ∷ steps) zero d last linked low = linked.0
  link_at (step ∷ steps) (suc i) d last linked low = link_at steps i d last linked.1 (omega (arith, low))

-- No loop is of hubs alone.
transaction_cases : (count : ℕ) (steps : List Step) → HasTransaction count steps ⊎ AreHubs count steps
transaction_cases count [] = inr tt
transaction_cases count (step ∷ steps) = elim (cases_lt step.place count) as (λ _. HasTransaction count (step ∷ steps) ⊎ AreHubs count (step ∷ steps)) [
  | inl low ↦ inl (0, omega arith, λ d. low)
  | inr high ↦ elim (transaction_cases count steps) as (λ _. HasTransaction count (step ∷ steps) ⊎ AreHubs count (step ∷ steps)) [
    | inl there ↦ inl (suc there.0, omega (arith, there.1), there.2)
    | inr hubs ↦ inr (high, hubs)
  ]
]

module _ (graph : List (Vec Step Global)) (count : ℕ) (upwards : AreHubsUpwards graph count) where
  at_hub : (steps : List Step) (last : ℕ) → AreHubs count steps → count ≤ last → count ≤ first_place steps last
  at_hub [] last hubs high = high
  at_hub (step ∷ steps) last hubs high = hubs.0

  goes_up : (steps : List Step) (last : ℕ) → AreLinked graph steps last → AreHubs count steps → count ≤ last → first_place steps last ≤ last
  goes_up [] last linked hubs high = omega arith
  goes_up (step ∷ steps) last linked hubs high = omega (arith, upwards step (first_place steps last) linked.0 hubs.0 (at_hub steps last hubs.1 high), goes_up steps last linked.1 hubs.1 high)

  hubs_no_loop : (steps : List Step) → IsLoop graph steps → AreHubs count steps → ⊥
  hubs_no_loop [] loop hubs = loop
  hubs_no_loop (step ∷ steps) loop hubs = absurd (omega (arith, upwards step (first_place steps step.place) loop.0 hubs.0 (at_hub steps step.place hubs.1 hubs.0), goes_up steps step.place loop.1 hubs.1 hubs.0))

  pub has_transaction : (steps : List Step) → IsLoop graph steps → HasTransaction count steps
  has_transaction steps loop = elim (transaction_cases count steps) as (λ _. HasTransaction count steps) [
    | inl there ↦ there
    | inr hubs ↦ absurd (hubs_no_loop steps loop hubs)
  ]

-- begun where the first transaction is
pub begins_below : (count : ℕ) (steps : List Step) (i : ℕ) → i < length steps → ((d : Step) → (get_or steps i d).place < count) → BeginsBelow count (drop i steps ++ take i steps)
begins_below count [] i low at = absurd (omega (arith, low))
begins_below count (step ∷ steps) i low at =
    let cut : drop i (step ∷ steps) ≡ get_or (step ∷ steps) i step ∷ drop (i + 1) (step ∷ steps) = drop_more (step ∷ steps) i step low in
    subst (λ xs. BeginsBelow count (xs ++ take i (step ∷ steps))) (sym cut) (omega arith, λ d. at step)

-- Leaving out hubs.
module _ (graph : List (Vec Step Global)) (count : ℕ) where
  path_more : (place : ℕ) (hubs : List ℕ) (why : Why) (hub : ℕ) (next_why : Why) (next : ℕ) → IsPath graph count place hubs why hub → count ≤ hub → HasStep graph hub next_why next → IsPath graph count place (hubs ++ hub ∷ []) next_why next
  path_more place [] why hub next_why next path high has = (why, path, high, has)
  path_more place (first ∷ hubs) why hub next_why next path high has = (path.0, path.1, path.2, path_more first hubs why hub next_why next path.3 high has)

  -- a step from a transaction goes to the end
  pub led_more : (kept : List Step) (step : Step) (next : ℕ) → LeadByPaths graph count kept step.place → step.place < count → IsStepTo graph step next → LeadByPaths graph count (kept ++ step ∷ []) next
  led_more [] step next led low edge = (low, ([], (step, edge, refl, refl)), tt)
  led_more (first ∷ kept) step next led low edge = (
    led.0,
    subst (λ p. HasPath graph count first.place first.why p) (same_place kept) led.1,
    led_more kept step next led.2 low edge,
  ) where
    same_place : (others : List Step) → first_place others step.place ≡ first_place (others ++ step ∷ []) next
    same_place [] = refl
    same_place (other ∷ others) = refl

  first_set : (step : Step) (kept : List Step) (n : ℕ) (x d : Step) (next : ℕ) → x.place ≡ (get_or (step ∷ kept) n d).place → first_place (slice_set (step ∷ kept) n x) next ≡ step.place
  first_set step kept zero x d next same = same
  first_set step kept (suc n) x d next same = refl

  -- a step from a hub gives the last one its reason
  pub led_on : (kept : List Step) (n : ℕ) (x d : Step) (hub next : ℕ) → length kept ≡ suc n → LeadByPaths graph count kept hub → x.place ≡ (get_or kept n d).place → count ≤ hub → HasStep graph hub x.why next → LeadByPaths graph count (slice_set kept n x) next
  led_on [] n x d hub next size led same high has = absurd (omega (arith, size))
  led_on (step ∷ []) zero x d hub next size led same high has = (
    subst (λ p. p < count) (sym same) led.0,
    subst (λ p. HasPath graph count p x.why next) (sym same) (led.1.0 ++ hub ∷ [], path_more step.place led.1.0 step.why hub x.why next led.1.1 high has),
    tt,
  )
  led_on (step ∷ []) (suc n) x d hub next size led same high has = absurd (omega (arith, size))
  led_on (step ∷ other ∷ kept) zero x d hub next size led same high has = absurd (omega (arith, size))
  led_on (step ∷ other ∷ kept) (suc n) x d hub next size led same high has = (
    led.0,
    subst (λ p. HasPath graph count step.place step.why p) (sym (first_set other kept n x d next same)) led.1,
    led_on (other ∷ kept) n x d hub next (let e : length (other ∷ kept) ≡ suc n = omega (arith, size) in e) led.2 same high has,
  )

  module _ (steps : List Step) (loop : IsLoop graph steps) where
    pub under_way : IsUnderWay graph count steps 0 []
    under_way = record { led = tt; begun = begun steps loop; some = λ low. absurd (omega (arith, low)) } where
      begun : (others : List Step) → IsLoop graph others → place_of_step others 0 ≡ first_place others 0
      begun [] h = absurd h
      begun (other ∷ others) h = refl

    module _ (i : ℕ) (d : Step) (kept : List Step) (low : i < length steps) (way : IsUnderWay graph count steps i kept) where
      here : place_of_step steps i ≡ (get_or steps i d).place
      here = ap (λ xs. first_place xs (first_place steps 0)) (drop_more steps i d low)

      link : IsStepTo graph (get_or steps i d) (place_of_step steps (i + 1))
      link = subst (λ n. IsStepTo graph (get_or steps i d) (place_of_step steps n)) (let e : suc i ≡ i + 1 = omega arith in e) (link_at graph steps i d (first_place steps 0) (loop_linked graph steps loop) low)

      pub pushed : (get_or steps i d).place < count → IsUnderWay graph count steps (i + 1) (kept ++ get_or steps i d ∷ [])
      pushed below = record {
        led = led_more kept (get_or steps i d) (place_of_step steps (i + 1)) (subst (LeadByPaths graph count kept) here way.led) below link;
        begun = first_push kept (get_or steps i d) (place_of_step steps i) (place_of_step steps (i + 1)) (sym here) ∙ way.begun;
        some = λ _. omega (arith, length-append kept (get_or steps i d ∷ []));
      }

      pub passed : (n : ℕ) (x e : Step) → length kept ≡ suc n → x.place ≡ (get_or kept n e).place → x.why ≡ (get_or steps i d).why → count ≤ (get_or steps i d).place → IsUnderWay graph count steps (i + 1) (slice_set kept n x)
      passed n x e size place why high = record {
        led = led_on kept n x e (get_or steps i d).place (place_of_step steps (i + 1)) size (subst (LeadByPaths graph count kept) here way.led) place high (get_or steps i d, link, refl, sym why);
        begun = begun kept n size place way.begun;
        some = λ _. some kept n size;
      } where
        begun : (others : List Step) (m : ℕ) → length others ≡ suc m → x.place ≡ (get_or others m e).place → first_place others (place_of_step steps i) ≡ first_place steps 0 → first_place (slice_set others m x) (place_of_step steps (i + 1)) ≡ first_place steps 0
        begun [] m size same before = absurd (omega (arith, size))
        begun (other ∷ others) m size same before = first_set other others m x e (place_of_step steps (i + 1)) same ∙ before

        some : (others : List Step) (m : ℕ) → length others ≡ suc m → 0 < length (slice_set others m x)
        some [] m size = absurd (omega (arith, size))
        some (other ∷ others) zero size = omega arith
        some (other ∷ others) (suc m) size = omega arith

      -- a step from a hub comes behind a step from a transaction
      pub some_kept : BeginsBelow count steps → count ≤ (get_or steps i d).place → 0 < length kept
      some_kept begins high = is_some kept way.begun where
        start : (others : List Step) → BeginsBelow count others → first_place others 0 < count
        start [] h = absurd (omega (arith, h.0))
        start (other ∷ others) h = h.1 other

        is_some : (others : List Step) → first_place others (place_of_step steps i) ≡ first_place steps 0 → 0 < length others
        is_some [] same = absurd (omega (arith, start steps begins, same, here, high))
        is_some (other ∷ others) same = omega arith

    pub cycle_found : (i : ℕ) (kept : List Step) → length steps ≤ i → IsUnderWay graph count steps i kept → IsCycleOfPaths graph count kept
    cycle_found i kept over way = found kept (way.some (omega (arith, over, loop_some graph steps loop))) (subst (LeadByPaths graph count kept) round way.led) (sym (ap (first_place kept) round) ∙ way.begun) where
      round : place_of_step steps i ≡ first_place steps 0
      round = ap (λ xs. first_place xs (first_place steps 0)) (drop_all i steps over)

      found : (others : List Step) → 0 < length others → LeadByPaths graph count others (first_place steps 0) → first_place others (first_place steps 0) ≡ first_place steps 0 → IsCycleOfPaths graph count others
      found [] some led begun = absurd (omega (arith, some))
      found (other ∷ others) some led begun = subst (LeadByPaths graph count (other ∷ others)) (sym begun) led
