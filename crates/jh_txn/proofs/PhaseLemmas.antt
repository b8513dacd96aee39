-- That phases say which transactions are placed as in a snapshot order.
use Rattle.std.proofs.Common.{◌≡◌, ◌<◌, ◌+◌, ℕ, zero, suc, Some, List, [], ◌∷◌, ◌++◌, length, take, drop, get_or, set, refl, sym, ap, subst, ◌∙◌, inl, inr, arith}
use Rattle.std.specs.Prelude.{◌⊎◌, ◌≢◌, slice_get}
use Rattle.std.proofs.lemmas.Bool.{cases_eq}
use Rattle.std.proofs.lemmas.List.{take-append-drop, drop_more, get_or-set_same, get_or-set_other, length-set}
use Rattle.std.proofs.lemmas.Option.{slice_get_within, get_or_from_slice_get}
use Rattle.jh_txn.specs.declared.phases.Phase.{Phase}
use Rattle.jh_txn.specs.declared.phases.Phase.TheVariants.{New, Open, Over}
use Rattle.jh_txn.specs.declared.txn.Point.{Point}
use Rattle.jh_txn.specs.declared.txn.Point.TheVariants.{Commit, Start}
use Rattle.jh_txn.specs.declared.txn.Txn.{Txn}
use Rattle.jh_txn.specs.SnapshotCheckInside.{ArePointsInTurn, ArePhases, ArePlaced, IsPhase, IsPhaseSettled, phase_before, phase_behind, place_of_point}
use Rattle.jh_txn.specs.SnapshotOrders.{HasPoint, IsEarlier}
use Rattle.jh_txn.specs.Transactions.{IsDoneAt, IsPossibleAt}
use Rattle.jh_txn.proofs.SnapshotOrderLemmas.{stands_left, stands_right, stands_cases, first_stands, second_stands, points_across, points_left}
use Rattle.jh_txn.proofs.SnapshotKeepingLemmas.{in_front}
use Rattle.jh_txn.proofs.OrderCheckLemmas.{done_below}

-- one point more, at the end
pub earlier_push : (xs : List Point) (x a b : Point) → IsEarlier (xs ++ x ∷ []) a b → IsEarlier xs a b ⊎ (HasPoint xs a × (x ≡ b))
earlier_push [] x a b h = elim h as (λ _. IsEarlier [] a b ⊎ (HasPoint [] a × (x ≡ b))) [ inl now ↦ absurd now.1 | inr later ↦ absurd later ]
earlier_push (y ∷ xs) x a b h = elim h as (λ _. IsEarlier (y ∷ xs) a b ⊎ (HasPoint (y ∷ xs) a × (x ≡ b))) [
  | inl now ↦ elim (stands_cases xs (x ∷ []) b now.1) as (λ _. IsEarlier (y ∷ xs) a b ⊎ (HasPoint (y ∷ xs) a × (x ≡ b))) [
    | inl inside ↦ inl (inl (now.0, inside))
    | inr last ↦ elim last as (λ _. IsEarlier (y ∷ xs) a b ⊎ (HasPoint (y ∷ xs) a × (x ≡ b))) [ inl is ↦ inr (inl now.0, is) | inr none ↦ absurd none ]
  ]
  | inr later ↦ elim (earlier_push xs x a b later) as (λ _. IsEarlier (y ∷ xs) a b ⊎ (HasPoint (y ∷ xs) a × (x ≡ b))) [
    | inl inside ↦ inl (inr inside)
    | inr last ↦ inr (inr last.0, last.1)
  ]
]

pub stands_push : (xs : List Point) (x p : Point) → HasPoint (xs ++ x ∷ []) p → HasPoint xs p ⊎ (x ≡ p)
stands_push xs x p h = elim (stands_cases xs (x ∷ []) p h) as (λ _. HasPoint xs p ⊎ (x ≡ p)) [
  | inl inside ↦ inl inside
  | inr last ↦ elim last as (λ _. HasPoint xs p ⊎ (x ≡ p)) [ inl is ↦ inr is | inr none ↦ absurd none ]
]

pub last_stands : (xs : List Point) (x : Point) → HasPoint (xs ++ x ∷ []) x
last_stands xs x = stands_right xs (x ∷ []) x (inl refl)

-- a point in front of where it stands stands there twice
twice : (front back : List Point) (p : Point) → ((x : Point) → IsEarlier (front ++ p ∷ back) x x → ⊥) → HasPoint front p → ⊥
twice front back p once h = once p (points_across front (p ∷ back) p p h (inl refl))

-- points, cut at an index
pub cut_points : (points : List Point) (i : ℕ) → i < length points → points ≡ take i points ++ get_or points i (Start 0) ∷ drop (i + 1) points
cut_points points i low = sym (take-append-drop i points) ∙ ap (λ xs. take i points ++ xs) (drop_more points i (Start 0) low)

-- Phases.

-- the phase of another transaction stays
phase_stays : (front : List Point) (point : Point) (place : ℕ) (phase : Phase) → place ≢ place_of_point point → IsPhase front place phase → IsPhase (front ++ point ∷ []) place phase
phase_stays front point place New differ h = (
  λ k. elim (stands_push front point (Start place) k) as (λ _. ⊥) [ inl inside ↦ h.0 inside | inr is ↦ differ (sym (ap place_of_point is)) ],
  λ k. elim (stands_push front point (Commit place) k) as (λ _. ⊥) [ inl inside ↦ h.1 inside | inr is ↦ differ (sym (ap place_of_point is)) ],
)
phase_stays front point place Open differ h = (
  stands_left front (point ∷ []) (Start place) h.0,
  λ k. elim (stands_push front point (Commit place) k) as (λ _. ⊥) [ inl inside ↦ h.1 inside | inr is ↦ differ (sym (ap place_of_point is)) ],
)
phase_stays front point place Over differ h = points_left front (point ∷ []) (Start place) (Commit place) h

-- the phase of the point's own transaction
phase_moves : (front : List Point) (point : Point) → IsPhase front (place_of_point point) (phase_before point) → IsPhase (front ++ point ∷ []) (place_of_point point) (phase_behind point)
phase_moves front (Start place) h = (
  last_stands front (Start place),
  λ k. elim (stands_push front (Start place) (Commit place) k) as (λ _. ⊥) [ inl inside ↦ h.1 inside | inr is ↦ cc ],
)
phase_moves front (Commit place) h = points_across front (Commit place ∷ []) (Start place) (Commit place) h.0 (inl refl)

-- a point whose transaction is in the phase before it is none of those in front
phase_new : (front : List Point) (point : Point) → IsPhase front (place_of_point point) (phase_before point) → HasPoint front point → ⊥
phase_new front (Start place) h k = h.0 k
phase_new front (Commit place) h k = h.1 k

module _ (count : ℕ) (front : List Point) (phases : List Phase) (point : Point) (are : ArePhases count front phases) where
  at_place : (phase : Phase) → slice_get phases (place_of_point point) ≡ Some phase → (place_of_point point < count) × IsPhase front (place_of_point point) phase
  at_place phase is =
      let low : place_of_point point < length phases = slice_get_within phases (place_of_point point) phase is in
      let inside : place_of_point point < count = omega (arith, low, are.0) in
      (inside, subst (IsPhase front (place_of_point point)) (get_or_from_slice_get phases (place_of_point point) phase New is) (are.1 (place_of_point point) inside))

  pub turn_more : ArePointsInTurn count front → slice_get phases (place_of_point point) ≡ Some (phase_before point) → ArePointsInTurn count (front ++ point ∷ [])
  turn_more turn is =
      let here = at_place (phase_before point) is in
      record {
        distinct = λ x h. elim (earlier_push front point x x h) as (λ _. ⊥) [
          | inl inside ↦ turn.distinct x inside
          | inr last ↦ phase_new front point here.1 (subst (HasPoint front) (sym last.1) last.0)
        ];
        started = λ place h. elim (stands_push front point (Commit place) h) as (λ _. IsEarlier (front ++ point ∷ []) (Start place) (Commit place)) [
          | inl inside ↦ points_left front (point ∷ []) (Start place) (Commit place) (turn.started place inside)
          | inr last ↦ was_open point place here.1 last
        ];
        below = λ place h. elim (stands_push front point (Start place) h) as (λ _. place < count) [
          | inl inside ↦ turn.below place inside
          | inr last ↦ subst (λ p. p < count) (ap place_of_point last) here.0
        ];
      } where
        was_open : (x : Point) (place : ℕ) → IsPhase front (place_of_point x) (phase_before x) → x ≡ Commit place → IsEarlier (front ++ x ∷ []) (Start place) (Commit place)
        was_open (Start p) place h e = cc
        was_open (Commit p) place h e =
            let same : p ≡ place = ap place_of_point e in
            subst (λ q. IsEarlier (front ++ Commit p ∷ []) (Start q) (Commit q)) same (points_across front (Commit p ∷ []) (Start p) (Commit p) h.0 (inl refl))

  pub phases_more : slice_get phases (place_of_point point) ≡ Some (phase_before point) → ArePhases count (front ++ point ∷ []) (set phases (place_of_point point) (phase_behind point))
  phases_more is = (
    length-set phases (place_of_point point) (phase_behind point) ∙ are.0,
    λ place inside. elim (cases_eq place (place_of_point point)) as (λ _. IsPhase (front ++ point ∷ []) place (get_or (set phases (place_of_point point) (phase_behind point)) place New)) [
      | inl same ↦ subst (λ q. IsPhase (front ++ point ∷ []) q (get_or (set phases (place_of_point point) (phase_behind point)) q New)) (sym same)
          (subst (IsPhase (front ++ point ∷ []) (place_of_point point)) (sym (get_or-set_same phases (place_of_point point) (phase_behind point) New (slice_get_within phases (place_of_point point) (phase_before point) is))) (phase_moves front point (at_place (phase_before point) is).1))
      | inr other ↦ subst (IsPhase (front ++ point ∷ []) place) (sym (get_or-set_other phases (place_of_point point) place (phase_behind point) New other)) (phase_stays front point place (get_or phases place New) other (are.1 place inside))
    ],
  )

  -- points in turn find each transaction in the phase before its next point
  pub phase_fits : (back : List Point) → ArePointsInTurn count (front ++ point ∷ back) → slice_get phases (place_of_point point) ≡ Some (phase_before point)
  phase_fits back turn =
      let inside : place_of_point point < count = low point turn (stands_right front (point ∷ back) point (inl refl)) in
      read phases (place_of_point point) (omega (arith, inside, are.0)) ∙ ap (λ ph. Some ph) (before point turn (get_or phases (place_of_point point) New) (are.1 (place_of_point point) inside)) where
        low : (x : Point) → ArePointsInTurn count (front ++ point ∷ back) → HasPoint (front ++ point ∷ back) x → place_of_point x < count
        low (Start p) turn' h = turn'.below p h
        low (Commit p) turn' h = turn'.below p (first_stands (front ++ point ∷ back) (Start p) (Commit p) (turn'.started p h))

        read : (xs : List Phase) (p : ℕ) → p < length xs → slice_get xs p ≡ Some (get_or xs p New)
        read [] p h = absurd (omega arith)
        read (x ∷ xs) zero h = refl
        read (x ∷ xs) (suc p) h = read xs p (omega (arith, h))

        before : (x : Point) → ArePointsInTurn count (front ++ x ∷ back) → (phase : Phase) → IsPhase front (place_of_point x) phase → phase ≡ phase_before x
        before (Start p) turn' New h = refl
        before (Start p) turn' Open h = absurd (twice front back (Start p) turn'.distinct h.0)
        before (Start p) turn' Over h = absurd (twice front back (Start p) turn'.distinct (first_stands front (Start p) (Commit p) h))
        before (Commit p) turn' New h = absurd (h.0 (in_front front back (Commit p) (Start p) turn'.distinct (turn'.started p (stands_right front (Commit p ∷ back) (Commit p) (inl refl)))))
        before (Commit p) turn' Open h = refl
        before (Commit p) turn' Over h = absurd (twice front back (Commit p) turn'.distinct (second_stands front (Start p) (Commit p) h))

-- Placed.

module _ (txns : List Txn) (points : List Point) (phases : List Phase) (are : ArePhases (length txns) points phases) where
  pub settled_if : ArePlaced txns points → (place : ℕ) → place < length txns → IsPhaseSettled txns place (get_or phases place New)
  settled_if placed place inside = by_phase (get_or phases place New) (are.1 place inside) where
    by_phase : (phase : Phase) → IsPhase points place phase → IsPhaseSettled txns place phase
    by_phase New h = λ done. h.0 (placed.whole place done)
    by_phase Open h = h.1 (second_stands points (Start place) (Commit place) (placed.paired place (inl h.0)))
    by_phase Over h = placed.possible place (first_stands points (Start place) (Commit place) h)

  pub placed_if : ArePointsInTurn (length txns) points → ((place : ℕ) → place < length txns → IsPhaseSettled txns place (get_or phases place New)) → ArePlaced txns points
  placed_if turn settled = record {
    distinct = turn.distinct;
    paired = λ place h. elim h as (λ _. IsEarlier points (Start place) (Commit place)) [
      | inl starts ↦ over place starts
      | inr commits' ↦ turn.started place commits'
    ];
    possible = λ place h. let low = turn.below place h in by_possible place (get_or phases place New) (are.1 place low) (settled place low) h;
    whole = λ place done. let low = done_below txns place done in by_done place (get_or phases place New) (are.1 place low) (settled place low) done;
  } where
    by_over : (place : ℕ) (phase : Phase) → IsPhase points place phase → IsPhaseSettled txns place phase → HasPoint points (Start place) → IsEarlier points (Start place) (Commit place)
    by_over place New h s starts = absurd (h.0 starts)
    by_over place Open h s starts = absurd s
    by_over place Over h s starts = h

    over : (place : ℕ) → HasPoint points (Start place) → IsEarlier points (Start place) (Commit place)
    over place starts = let low = turn.below place starts in by_over place (get_or phases place New) (are.1 place low) (settled place low) starts

    by_possible : (place : ℕ) (phase : Phase) → IsPhase points place phase → IsPhaseSettled txns place phase → HasPoint points (Start place) → IsPossibleAt txns place
    by_possible place New h s starts = absurd (h.0 starts)
    by_possible place Open h s starts = absurd s
    by_possible place Over h s starts = s

    by_done : (place : ℕ) (phase : Phase) → IsPhase points place phase → IsPhaseSettled txns place phase → IsDoneAt txns place → HasPoint points (Start place)
    by_done place New h s done = absurd (s done)
    by_done place Open h s done = absurd s
    by_done place Over h s done = first_stands points (Start place) (Commit place) h
