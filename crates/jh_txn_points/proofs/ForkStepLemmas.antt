-- How the graph of two reads that fork is made.
use Rattle.std.proofs.Common.{◌≡◌, ℕ, zero, suc, ◌+◌, ◌<◌, Bool, false, Option, Some, None, List, [], length, refl, sym, ap, subst, ◌∙◌, inl, inr, arith}
use Rattle.std.specs.Prelude.{◌≢◌, ◌⊎◌, ◌↔◌, Vec}
use Rattle.std.specs.declared.alloc.Global.{Global}
use Rattle.std.proofs.lemmas.Bool.{cases_eq, cases_lt}
use Rattle.std.proofs.lemmas.Option.{none-some, same_Some}
use Rattle.jh_txn.specs.declared.dependency.Step.{Step}
use Rattle.jh_txn.specs.declared.dependency.Why.{Why}
use Rattle.jh_txn.specs.declared.dependency.Why.TheVariants.{FirstCommitter}
use Rattle.jh_txn.specs.Keeping.{leaves_at, arrives_at}
use Rattle.jh_txn.specs.Transactions.{includes}
use Rattle.jh_txn_edges.specs.Graph.{IsWholeReadStep}
use Rattle.jh_txn_edges.specs.Inside.{AddsSteps, IsThis}
use Rattle.jh_txn_edges.proofs.StepLemmas.{adds_if, adds_none}
use Rattle.jh_txn_graph.specs.Graphs.{HasStep, IsClosed, steps_to}
use Rattle.jh_txn_points.specs.ForkGraph.{IsAnyWinStep, IsFirstOwn, IsForkGraphOf, IsReadPointStep, IsWholeReadPointStep, IsWinStep, IsWinStepOf}
use Rattle.jh_txn_points.specs.Points.{IsArriving, IsLeaving, node_of_point}
use Rattle.jh_txn_points.specs.PointSteps.{IsCommitStep, IsKeptStep}
use Rattle.jh_txn_points.proofs.PointStepLemmas.{four_added}
use Rattle.jh_txn_seen.specs.declared.done_reads.DoneRead.{DoneRead}
use Rattle.jh_txn_seen.specs.Marks.{IsMarked}
use Rattle.jh_txn_seen.specs.Places.{AreWritersBelow, writer_place}
use Rattle.jh_txn_seen.proofs.PlaceLemmas.{place_below}
use Rattle.jh_txn_writers.specs.declared.writer.Writer.{Writer}

-- what a reader itself appends to the key
place_cases : (o : Option ℕ) (p : ℕ) → (o ≡ Some p) ⊎ (o ≢ Some p)
place_cases None p = inr (λ e. none-some p e)
place_cases (Some q) p = elim (cases_eq q p) as (λ _. (Some q ≡ Some p) ⊎ (Some q ≢ Some p)) [ inl same ↦ inl (ap Some same) | inr differ ↦ inr (λ e. differ (same_Some q p e)) ]

own_cases : (writers : List (Option Writer)) (read : DoneRead) (n : ℕ) → ((own : ℕ) × IsFirstOwn writers read own) ⊎ ((element : ℕ) → element < n → writer_place writers read.key element ≢ Some read.place)
own_cases writers read zero = inr (λ element low. absurd (omega (arith, low)))
own_cases writers read (suc n) = elim (own_cases writers read n) as (λ _. ((own : ℕ) × IsFirstOwn writers read own) ⊎ ((element : ℕ) → element < suc n → writer_place writers read.key element ≢ Some read.place)) [
  | inl found ↦ inl found
  | inr none ↦ elim (place_cases (writer_place writers read.key n) read.place) as (λ _. ((own : ℕ) × IsFirstOwn writers read own) ⊎ ((element : ℕ) → element < suc n → writer_place writers read.key element ≢ Some read.place)) [
    | inl is ↦ inl (n, (is, none))
    | inr other ↦ inr (λ element low. elim (cases_lt element n) as (λ _. writer_place writers read.key element ≢ Some read.place) [
      | inl lt ↦ none element lt
      | inr ge ↦ let same : element ≡ n = omega (arith, low, ge) in subst (λ k. writer_place writers read.key k ≢ Some read.place) (sym same) other
    ])
  ]
]

pub has_first_own : (writers : List (Option Writer)) (read : DoneRead) (own : ℕ) → writer_place writers read.key own ≡ Some read.place → (first : ℕ) × IsFirstOwn writers read first
has_first_own writers read own is = elim (own_cases writers read (suc own)) as (λ _. (first : ℕ) × IsFirstOwn writers read first) [
  | inl found ↦ found
  | inr none ↦ absurd (none own (omega arith) is)
]

first_own_one : (writers : List (Option Writer)) (read : DoneRead) (a b : ℕ) → IsFirstOwn writers read a → IsFirstOwn writers read b → a ≡ b
first_own_one writers read a b h k = elim (cases_lt a b) as (λ _. a ≡ b) [
  | inl lt ↦ absurd (k.1 a lt h.0)
  | inr ge ↦ elim (cases_lt b a) as (λ _. a ≡ b) [
    | inl lt ↦ absurd (h.1 b lt k.0)
    | inr also ↦ omega (arith, ge, also)
  ]
]

module _ (count : ℕ) (writers : List (Option Writer)) (there : List Bool) (read : DoneRead) (old new : List (Vec Step Global)) where
  pub win_added : (own element target : ℕ) → includes read.seen.now element ≡ false → IsMarked there target → target ≢ read.place → Some target ≡ writer_place writers read.key element → AddsSteps (IsThis (record { place = count + read.place; why = FirstCommitter read.key own }) target) old new → AddsSteps (IsWinStep count writers there read own element) old new
  win_added own element target lacks marked differ is = adds_if (IsThis (record { place = count + read.place; why = FirstCommitter read.key own }) target) (IsWinStep count writers there read own element) old new
      (λ p w t h. (lacks, subst (IsMarked there) (sym h.2) marked, λ e. differ (sym h.2 ∙ e), sym is ∙ ap Some (sym h.2), h.0, h.1))
      (λ p w t h. (h.4, h.5, same_Some t target (sym h.3 ∙ sym is)))

  pub wins_added : (own : ℕ) → IsFirstOwn writers read own → AddsSteps (IsWinStepOf count writers there read own) old new → AddsSteps (IsAnyWinStep count writers there read) old new
  wins_added own first = adds_if (IsWinStepOf count writers there read own) (IsAnyWinStep count writers there read) old new
      (λ p w t h. (own, first, h))
      (λ p w t h. subst (λ o. IsWinStepOf count writers there read o p w t) (first_own_one writers read h.0 own h.1 first) h.2)

  pub wins_none : ((element : ℕ) → writer_place writers read.key element ≢ Some read.place) → AddsSteps (IsAnyWinStep count writers there read) old old
  wins_none none = adds_none (IsAnyWinStep count writers there read) old (λ p w t h. none h.0 h.1.0)

-- A step that a read says lies between transactions.
whole_low : (count : ℕ) (writers : List (Option Writer)) (there : List Bool) (read : DoneRead) → AreWritersBelow count writers → read.place < count → (p : ℕ) (w : Why) (t : ℕ) → IsWholeReadStep writers there read p w t → (p < count) × (t < count)
whole_low count writers there read below low p w t h = elim h as (λ _. (p < count) × (t < count)) [
  | inl shown ↦ (place_below writers count read.key shown.0 p below shown.2.1, omega (arith, low, shown.2.2))
  | inr more ↦ elim more as (λ _. (p < count) × (t < count)) [
    | inl along ↦ (place_below writers count read.key along.0 p below along.3.1, place_below writers count read.key along.1 t below along.3.2)
    | inr lacked ↦ (omega (arith, low, lacked.1.2.2), place_below writers count read.key lacked.0 t below lacked.1.2.1)
  ]
]

left_at : (n : ℕ) (why : Why) (from node : ℕ) → from < n → IsLeaving n why from node → node ≡ node_of_point n (leaves_at why from)
left_at n why from node low h = elim h as (λ _. node ≡ node_of_point n (leaves_at why from)) [ inl point ↦ point.1 | inr hub ↦ absurd (omega (arith, low, hub.0)) ]

arrived_at : (n : ℕ) (why : Why) (to node : ℕ) → to < n → IsArriving n why to node → node ≡ node_of_point n (arrives_at why to)
arrived_at n why to node low h = elim h as (λ _. node ≡ node_of_point n (arrives_at why to)) [ inl point ↦ point.1 | inr hub ↦ absurd (omega (arith, low, hub.0)) ]

module _ (count : ℕ) (writers : List (Option Writer)) (there : List Bool) (one other : DoneRead) (edges : List (Vec Step Global)) (below : AreWritersBelow count writers) (first : one.place < count) (second : other.place < count) (steps : (p : ℕ) (w : Why) (t : ℕ) → HasStep edges p w t ↔ (IsWholeReadStep writers there one p w t ⊎ IsWholeReadStep writers there other p w t)) where
  edge_low : (p : ℕ) (w : Why) (t : ℕ) → HasStep edges p w t → (p < count) × (t < count)
  edge_low p w t h = elim ((steps p w t).0 h) as (λ _. (p < count) × (t < count)) [
    | inl said ↦ whole_low count writers there one below first p w t said
    | inr said ↦ whole_low count writers there other below second p w t said
  ]

  pub edges_closed : length edges ≡ count → IsClosed edges
  edges_closed long step node is = omega (arith, long, (edge_low step.place step.why node (step, is, refl, refl)).0)

  -- what both reads say between points
  abbrev Said : ℕ → Why → ℕ → Type 0
  Said place why target = IsReadPointStep count writers there one place why target ⊎ IsReadPointStep count writers there other place why target

  kept_said : (place : ℕ) (why : Why) (target : ℕ) → IsKeptStep count 0 edges place why target → Said place why target
  kept_said place why target h =
      let step = h.1 in
      let found : HasStep edges step.place why h.0 = (step, h.2, refl, sym h.3.2) in
      let low = edge_low step.place why h.0 found in
      let left : place ≡ node_of_point count (leaves_at why step.place) = left_at count why step.place place low.0 (subst (λ w. IsLeaving count w step.place place) (sym h.3.2) h.3.3) in
      let arrived : target ≡ node_of_point count (arrives_at why h.0) = arrived_at count why h.0 target low.1 (subst (λ w. IsArriving count w h.0 target) (sym h.3.2) h.3.4) in
      elim ((steps step.place why h.0).0 found) as (λ _. Said place why target) [
        | inl said ↦ inl (step.place, h.0, said, left, arrived)
        | inr said ↦ inr (step.place, h.0, said, left, arrived)
      ]

  edge_kept : (from : ℕ) (why : Why) (to place target : ℕ) → HasStep edges from why to → place ≡ node_of_point count (leaves_at why from) → target ≡ node_of_point count (arrives_at why to) → IsKeptStep count 0 edges place why target
  edge_kept from why to place target s left arrived =
      let low = edge_low from why to s in
      let leaves : IsLeaving count why from place = inl (low.0, left) in
      let arrives : IsArriving count why to target = inl (low.1, arrived) in (
        to,
        s.0,
        s.1,
        (
          λ h. omega (arith, low.0, s.2, h.0),
          λ h. omega (arith, low.1, h.0),
          sym s.3,
          subst (λ w. IsLeaving count w s.0.place place) (sym s.3) (subst (λ p. IsLeaving count why p place) (sym s.2) leaves),
          subst (λ w. IsArriving count w to target) (sym s.3) arrives,
        ),
      )

  said_kept : (place : ℕ) (why : Why) (target : ℕ) → Said place why target → IsKeptStep count 0 edges place why target
  said_kept place why target h = elim h as (λ _. IsKeptStep count 0 edges place why target) [
    | inl said ↦ edge_kept said.0 why said.1 place target ((steps said.0 why said.1).1 (inl said.2)) said.3 said.4
    | inr said ↦ edge_kept said.0 why said.1 place target ((steps said.0 why said.1).1 (inr said.2)) said.3 said.4
  ]

  -- the steps in the order in which they are added, and in that of the contract
  abbrev Made : ℕ → Why → ℕ → Type 0
  Made place why target = IsKeptStep count 0 edges place why target ⊎ (IsCommitStep count place why target ⊎ (IsAnyWinStep count writers there one place why target ⊎ IsAnyWinStep count writers there other place why target))

  abbrev Wanted : ℕ → Why → ℕ → Type 0
  Wanted place why target = IsWholeReadPointStep count writers there one place why target ⊎ (IsWholeReadPointStep count writers there other place why target ⊎ IsCommitStep count place why target)

  made_wanted : (place : ℕ) (why : Why) (target : ℕ) → Made place why target → Wanted place why target
  made_wanted place why target h = elim h as (λ _. Wanted place why target) [
    | inl kept ↦ elim (kept_said place why target kept) as (λ _. Wanted place why target) [ inl said ↦ inl (inl said) | inr said ↦ inr (inl (inl said)) ]
    | inr more ↦ elim more as (λ _. Wanted place why target) [
      | inl commit ↦ inr (inr commit)
      | inr wins ↦ elim wins as (λ _. Wanted place why target) [ inl win ↦ inl (inr win) | inr win ↦ inr (inl (inr win)) ]
    ]
  ]

  wanted_made : (place : ℕ) (why : Why) (target : ℕ) → Wanted place why target → Made place why target
  wanted_made place why target h = elim h as (λ _. Made place why target) [
    | inl whole ↦ elim whole as (λ _. Made place why target) [ inl said ↦ inl (said_kept place why target (inl said)) | inr win ↦ inr (inr (inl win)) ]
    | inr more ↦ elim more as (λ _. Made place why target) [
      | inl whole ↦ elim whole as (λ _. Made place why target) [ inl said ↦ inl (said_kept place why target (inr said)) | inr win ↦ inr (inr (inr win)) ]
      | inr commit ↦ inr (inl commit)
    ]
  ]

  pub fork_made : (base kept paired half graph : List (Vec Step Global)) → ((node : ℕ) → steps_to base node ≡ []) → length base ≡ count + count → AddsSteps (IsKeptStep count 0 edges) base kept → AddsSteps (IsCommitStep count) kept paired → AddsSteps (IsAnyWinStep count writers there one) paired half → AddsSteps (IsAnyWinStep count writers there other) half graph → IsForkGraphOf count writers there one other graph
  fork_made base kept paired half graph none long a b c d = record {
    nodes = d.count ∙ c.count ∙ b.count ∙ a.count ∙ long;
    steps = λ place why target.
        let both = four_added (IsKeptStep count 0 edges) (IsCommitStep count) (IsAnyWinStep count writers there one) (IsAnyWinStep count writers there other) base kept paired half graph none a b c d place why target in
        (λ h. made_wanted place why target (both.0 h), λ h. both.1 (wanted_made place why target h));
  }
