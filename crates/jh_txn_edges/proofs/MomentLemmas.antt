-- Moments, and the steps of real time.
use Rattle.std.proofs.Common.{◌≡◌, ℕ, zero, suc, ◌+◌, ◌-◌, ◌<◌, ◌≤◌, Bool, true, Some, None, List, [], ◌∷◌, ◌++◌, length, get_or, refl, sym, ap, subst, ◌∙◌, inl, inr, arith}
use Rattle.std.specs.Prelude.{Vec, slice_get, option_and_then, unwrap_or, option_map}
use Rattle.std.specs.declared.alloc.Global.{Global}
use Rattle.std.proofs.lemmas.Bool.{cases_lt}
use Rattle.std.proofs.lemmas.Option.{none-some, same_Some, slice_get-get_or}
use Rattle.jh_txn.specs.declared.dependency.Step.{Step}
use Rattle.jh_txn.specs.declared.dependency.Why.{Why}
use Rattle.jh_txn.specs.declared.dependency.Why.TheVariants.{RealTime}
use Rattle.jh_txn.specs.declared.txn.Outcome.{Outcome}
use Rattle.jh_txn.specs.declared.txn.Outcome.TheVariants.{Done, Failed, Unsure}
use Rattle.jh_txn.specs.declared.txn.Txn.{Txn}
use Rattle.jh_txn.specs.RealTime.{invoked_at}
use Rattle.jh_txn.specs.Transactions.{includes}
use Rattle.jh_txn.proofs.ListLemmas.{includes_cases, one_is, includes_right, includes_head, place_of}
use Rattle.jh_txn_seen.specs.Marks.{IsMarked}
use Rattle.jh_txn_edges.specs.Moments.{IsDoneAtIndex, IsDoneFrom, AreRisingIndexes, IsPointOf, IsCompletionStep, IsNextStep, IsInvocationStep}
use Rattle.jh_txn_edges.specs.Inside.{done_index, done_part}
use Rattle.jh_txn_edges.specs.Inside.{AddsSteps, IsThis}
use Rattle.jh_txn_seen.proofs.MarkLemmas.{done_at}
use Rattle.jh_txn_edges.proofs.StepLemmas.{StepsBelow, adds_if, adds_none}

-- by the transaction at a place
pub done_from_at : (txns : List Txn) (place index : ℕ) (txn : Txn) → slice_get txns place ≡ Some txn → IsDoneFrom txns place index → done_index txn ≡ Some index
done_from_at txns place index txn at h =
    let done : txn.outcome ≡ Done = (done_at txns place txn at).0 h.0 in
    ap (λ o. done_part o txn.completed) done ∙ sym (ap (option_and_then (λ (t : Txn). t.completed)) at) ∙ h.1

pub at_done_from : (txns : List Txn) (place index : ℕ) (txn : Txn) → slice_get txns place ≡ Some txn → done_index txn ≡ Some index → IsDoneFrom txns place index
at_done_from txns place index txn at is = by txn.outcome refl where
  by : (o : Outcome) → txn.outcome ≡ o → IsDoneFrom txns place index
  by Done same = ((done_at txns place txn at).1 same, ap (option_and_then (λ (t : Txn). t.completed)) at ∙ sym (ap (λ o. done_part o txn.completed) same) ∙ is)
  by Failed same = absurd (none-some index (sym (ap (λ o. done_part o txn.completed) same) ∙ is))
  by Unsure same = absurd (none-some index (sym (ap (λ o. done_part o txn.completed) same) ∙ is))

-- the completions of the first transactions
pub completions_kept : (txns : List Txn) (i : ℕ) (txn : Txn) (old new : List ℕ) → slice_get txns i ≡ Some txn → ((index : ℕ) → includes old index ≡ true → includes new index ≡ true) → ((index : ℕ) → done_index txn ≡ Some index → includes new index ≡ true)
    → ((place index : ℕ) → place < i → IsDoneFrom txns place index → includes old index ≡ true) → (place index : ℕ) → place < i + 1 → IsDoneFrom txns place index → includes new index ≡ true
completions_kept txns i txn old new at kept here each place index low h = elim (cases_lt place i) as (λ _. includes new index ≡ true) [
  | inl lt ↦ kept index (each place index lt h)
  | inr ge ↦ let same : place ≡ i = omega (arith, low, ge) in here index (done_from_at txns i index txn at (subst (λ p. IsDoneFrom txns p index) same h))
]

-- A point is one alone.
pub one_point : (moments : List ℕ) (index a b : ℕ) → IsPointOf moments index a → IsPointOf moments index b → a ≡ b
one_point moments index a b first second = elim (cases_lt a b) as (λ _. a ≡ b) [
  | inl lt ↦
      let low : get_or moments a 0 < index = second.before a lt in
      let within : b ≤ length moments = second.within in
      let high : index ≤ get_or moments a 0 = first.behind a (omega arith) (omega (arith, lt, within)) in
      absurd (omega (arith, low, high))
  | inr ge ↦ elim (cases_lt b a) as (λ _. a ≡ b) [
    | inl lt ↦
        let low : get_or moments b 0 < index = first.before b lt in
        let within : a ≤ length moments = first.within in
        let high : index ≤ get_or moments b 0 = second.behind b (omega arith) (omega (arith, lt, within)) in
        absurd (omega (arith, low, high))
    | inr le ↦ omega (arith, ge, le)
  ]
]

-- that of a moment is one of them
pub point_inside : (moments : List ℕ) (index point : ℕ) → includes moments index ≡ true → IsPointOf moments index point → point < length moments
point_inside moments index point there is = elim (cases_lt point (length moments)) as (λ _. point < length moments) [
  | inl low ↦ low
  | inr past ↦
      let at = place_of moments index there in
      let under : get_or moments at.0 0 < index = is.before at.0 (omega (arith, past, at.1)) in
      absurd (omega (arith, under, at.2))
]

module _ (txns : List Txn) (moments : List ℕ) (first : ℕ) (old new : List (Vec Step Global)) where
  pub completion_added : (done index point : ℕ) (txn : Txn) → slice_get txns done ≡ Some txn → done_index txn ≡ Some index → IsPointOf moments index point → AddsSteps (IsThis (record { place = done; why = RealTime }) (first + point)) old new → AddsSteps (IsCompletionStep txns moments first done) old new
  completion_added done index point txn at is pointed = adds_if (IsThis (record { place = done; why = RealTime }) (first + point)) (IsCompletionStep txns moments first done) old new
      (λ p w t h. (index, point, at_done_from txns done index txn at is, pointed, h.0, h.1, h.2))
      (λ p w t h.
      let same : h.0 ≡ index = some_same h.0 index (sym (done_from_at txns done h.0 txn at h.2) ∙ is) in
      let there : h.1 ≡ point = one_point moments index h.1 point (subst (λ k. IsPointOf moments k h.1) same h.3) pointed in
      (h.4, h.5, h.6 ∙ ap (λ k. first + k) there)) where
        some_same : (a b : ℕ) → Some a ≡ Some b → a ≡ b
        some_same a b e = cc

  pub completion_none : (done : ℕ) (txn : Txn) → slice_get txns done ≡ Some txn → done_index txn ≡ None → AddsSteps (IsCompletionStep txns moments first done) old old
  completion_none done txn at none = adds_none (IsCompletionStep txns moments first done) old (λ p w t h. none-some h.0 (sym none ∙ done_from_at txns done h.0 txn at h.2))

  pub invocation_added : (there : List Bool) (node point : ℕ) → IsMarked there node → IsPointOf moments (invoked_at txns node) point → 0 < point → AddsSteps (IsThis (record { place = first + (point - 1); why = RealTime }) node) old new → AddsSteps (IsInvocationStep txns there moments first node) old new
  invocation_added there node point marked pointed some = adds_if (IsThis (record { place = first + (point - 1); why = RealTime }) node) (IsInvocationStep txns there moments first node) old new
      (λ p w t h. let back : point - 1 + 1 ≡ point = omega (arith, some) in (point - 1, marked, subst (IsPointOf moments (invoked_at txns node)) (sym back) pointed, h.0, h.1, h.2))
      (λ p w t h.
      let there : h.0 + 1 ≡ point = one_point moments (invoked_at txns node) (h.0 + 1) point h.2 pointed in
      let at : h.0 ≡ point - 1 = omega (arith, there) in
      (h.3 ∙ ap (λ k. first + k) at, h.4, h.5))

  pub invocation_none : (there : List Bool) (node point : ℕ) → IsPointOf moments (invoked_at txns node) point → (IsMarked there node → 0 < point → ⊥) → AddsSteps (IsInvocationStep txns there moments first node) old old
  invocation_none there node point pointed none = adds_none (IsInvocationStep txns there moments first node) old (λ p w t h.
      let at : h.0 + 1 ≡ point = one_point moments (invoked_at txns node) (h.0 + 1) point h.2 pointed in
      none h.1 (omega (arith, at)))

-- the steps from each moment to the next one, by index
abbrev pub NextAt : ℕ → ℕ → ℕ → Why → ℕ → Type 0
NextAt first next place why target = (1 ≤ next) × (place ≡ first + (next - 1)) × (why ≡ RealTime) × (target ≡ first + next)

pub nexts_if : (moments : List ℕ) (first next : ℕ) (old new : List (Vec Step Global)) → (1 < next → next ≤ length moments) → length moments ≤ next → AddsSteps (StepsBelow (NextAt first) next) old new → AddsSteps (IsNextStep moments first) old new
nexts_if moments first next old new under past = adds_if (StepsBelow (NextAt first) next) (IsNextStep moments first) old new
    (λ p w t h.
    let some : 1 < next = omega (arith, h.1, h.2.0) in
    let low : next ≤ length moments = under some in
    let back : h.0 ≡ h.0 - 1 + 1 = omega (arith, h.2.0) in
    (h.0 - 1, omega (arith, h.1, h.2.0, low), h.2.1, h.2.2, h.2.3 ∙ ap (λ k. first + k) back))
    (λ p w t h.
    let back : h.0 ≡ h.0 + 1 - 1 = omega arith in
    (h.0 + 1, omega (arith, h.1, past), (omega arith, h.2 ∙ ap (λ k. first + k) back, h.3, h.4)))

pub pushed_there : (xs : List ℕ) (x y : ℕ) → Some x ≡ Some y → includes (xs ++ x ∷ []) y ≡ true
pushed_there xs x y e = includes_right xs (x ∷ []) y (subst (λ z. includes (x ∷ []) z ≡ true) (same_Some x y e) (includes_head x []))

pub invoked_is : (txns : List Txn) (node : ℕ) (txn : Txn) → node < length txns → (get_or txns node txn).invoked ≡ invoked_at txns node
invoked_is txns node txn low = sym (ap (λ o. unwrap_or (option_map (λ (t : Txn). t.invoked) o) 0) (slice_get-get_or txns node txn low))

-- Each index has a point.
tail_rising : (x : ℕ) (xs : List ℕ) → AreRisingIndexes (x ∷ xs) → AreRisingIndexes xs
tail_rising x xs rising i j le low = rising (suc i) (suc j) (omega (arith, le)) (omega (arith, low))

later_before : (x index point : ℕ) (xs : List ℕ) → x < index → ((k : ℕ) → k < point → get_or xs k 0 < index) → (k : ℕ) → k < suc point → get_or (x ∷ xs) k 0 < index
later_before x index point xs low each zero under = low
later_before x index point xs low each (suc k) under = each k (omega (arith, under))

later_behind : (x index point : ℕ) (xs : List ℕ) → ((k : ℕ) → point ≤ k → k < length xs → index ≤ get_or xs k 0) → (k : ℕ) → suc point ≤ k → k < length (x ∷ xs) → index ≤ get_or (x ∷ xs) k 0
later_behind x index point xs each zero ge low = absurd (omega (arith, ge))
later_behind x index point xs each (suc k) ge low = each k (omega (arith, ge)) (omega (arith, low))

pub point_exists : (moments : List ℕ) (index : ℕ) → AreRisingIndexes moments → (point : ℕ) × IsPointOf moments index point
point_exists [] index rising = (0, record { within = omega arith; before = λ k low. absurd (omega (arith, low)); behind = λ k ge low. absurd (omega (arith, low)) })
point_exists (x ∷ xs) index rising = elim (cases_lt x index) as (λ _. (point : ℕ) × IsPointOf (x ∷ xs) index point) [
  | inl lt ↦
      let r = point_exists xs index (tail_rising x xs rising) in
      let inside : r.0 ≤ length xs = r.1.within in (
        suc r.0,
        record {
          within = omega (arith, inside);
          before = later_before x index r.0 xs lt r.1.before;
          behind = later_behind x index r.0 xs r.1.behind;
        },
      )
  | inr ge ↦ (
    0,
    record {
      within = omega arith;
      before = λ k low. absurd (omega (arith, low));
      behind = λ k _ low. omega (arith, ge, rising 0 k (omega arith) low);
    },
  )
]

-- what the first transactions have no more than
pub completions_only : (txns : List Txn) (i index : ℕ) (txn : Txn) (old : List ℕ) (x : ℕ) → slice_get txns i ≡ Some txn → Some x ≡ done_index txn → ((k : ℕ) → includes old k ≡ true → IsDoneAtIndex txns k) → includes (old ++ x ∷ []) index ≡ true → IsDoneAtIndex txns index
completions_only txns i index txn old x at is each h = elim (includes_cases old (x ∷ []) index h) as (λ _. IsDoneAtIndex txns index) [
  | inl early ↦ each index early
  | inr here ↦ (i, at_done_from txns i index txn at (sym is ∙ ap Some (one_is x index here)))
]
