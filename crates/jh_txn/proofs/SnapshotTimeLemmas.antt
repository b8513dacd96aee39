-- That none commits too late exactly where real time is kept.
use Rattle.std.proofs.Common.{◌≡◌, ◌<◌, ◌≤◌, ℕ, zero, suc, Bool, true, List, [], ◌∷◌, ◌++◌, length, get_or, max, refl, sym, ap, subst, ◌∙◌, inl, inr, arith}
use Rattle.std.specs.Prelude.{◌⊎◌}
use Rattle.std.specs.List.{All}
use Rattle.std.proofs.lemmas.Bool.{cases_lt}
use Rattle.jh_txn.specs.declared.txn.Point.{Point}
use Rattle.jh_txn.specs.declared.txn.Point.TheVariants.{Commit, Start}
use Rattle.jh_txn.specs.declared.txn.Txn.{Txn}
use Rattle.jh_txn.specs.RealTime.{IsDoneBefore, completed_at, invoked_at}
use Rattle.jh_txn.specs.SnapshotCheckInside.{ArePlaced, ExplainsStarts, IsCommitLate, IsNoCommitTooLate, latest_behind, place_of_point}
use Rattle.jh_txn.specs.SnapshotOrders.{AreWritersApart, HasPoint, IsEarlier, IsSnapshotOrder, IsSnapshotOrderFor, KeepsRealTimeAt}
use Rattle.jh_txn.proofs.OrderCheckLemmas.{not_at_zero, ends_later, possible_place}
use Rattle.jh_txn.proofs.PhaseLemmas.{earlier_push, stands_push, last_stands}
use Rattle.jh_txn.proofs.SnapshotOrderLemmas.{first_stands, second_stands, stands_left, points_across, points_trans}

-- of two points that stand there one is earlier, or they are the same
earlier_total : (xs : List Point) (a b : Point) → HasPoint xs a → HasPoint xs b → (a ≡ b) ⊎ (IsEarlier xs a b ⊎ IsEarlier xs b a)
earlier_total [] a b h k = absurd h
earlier_total (x ∷ xs) a b h k =
    let Goal : Type 0 = (a ≡ b) ⊎ (IsEarlier (x ∷ xs) a b ⊎ IsEarlier (x ∷ xs) b a) in
    elim h as (λ _. Goal) [
      | inl is_a ↦ elim k as (λ _. Goal) [ inl is_b ↦ inl (sym is_a ∙ is_b) | inr later ↦ inr (inl (inl (is_a, later))) ]
      | inr later ↦ elim k as (λ _. Goal) [
        | inl is_b ↦ inr (inr (inl (is_b, later)))
        | inr both ↦ elim (earlier_total xs a b later both) as (λ _. Goal) [
          | inl e ↦ inl e
          | inr e ↦ elim e as (λ _. Goal) [ inl d ↦ inr (inl (inr d)) | inr d ↦ inr (inr (inr d)) ]
        ]
      ]
    ]

-- with the latest invocation of those that started
module _ (txns : List Txn) (front : List Point) (latest : ℕ) where
  pub late_commit : (point : Point) (back : List Point) → (0 < latest → (place : ℕ) × HasPoint front (Start place) × (invoked_at txns place ≡ latest)) → IsCommitLate txns latest point → IsNoCommitTooLate txns (front ++ point ∷ back) → ⊥
  late_commit (Start p) back reached late none = late
  late_commit (Commit p) back reached late none =
      let w = reached (not_at_zero (completed_at txns p) latest late.1) in
      none p w.0 (subst (λ at. IsDoneBefore txns p at) (sym w.2) late) (points_across front (Commit p ∷ back) (Start w.0) (Commit p) w.1 (inl refl))

  pub commits_in_time : (point : Point) → IsNoCommitTooLate txns front → ((place : ℕ) → HasPoint front (Start place) → invoked_at txns place ≤ latest) → (IsCommitLate txns latest point → ⊥) → IsNoCommitTooLate txns (front ++ point ∷ [])
  commits_in_time point none high in_time first second precedes h = elim (earlier_push front point (Start second) (Commit first) h) as (λ _. ⊥) [
    | inl inside ↦ none first second precedes inside
    | inr last ↦ in_time (subst (IsCommitLate txns latest) (sym last.1) (precedes.0, ends_later (completed_at txns first) (invoked_at txns second) latest precedes.1 (high second last.0)))
  ]

  pub high_behind : (point : Point) → ((place : ℕ) → HasPoint front (Start place) → invoked_at txns place ≤ latest) → (place : ℕ) → HasPoint (front ++ point ∷ []) (Start place) → invoked_at txns place ≤ latest_behind txns latest point
  high_behind (Start p) high place h = elim (stands_push front (Start p) (Start place) h) as (λ _. invoked_at txns place ≤ max latest (invoked_at txns p)) [
    | inl inside ↦ omega (arith, high place inside)
    | inr is ↦ let same : invoked_at txns p ≡ invoked_at txns place = ap (λ x. invoked_at txns (place_of_point x)) is in omega (arith, same)
  ]
  high_behind (Commit p) high place h = elim (stands_push front (Commit p) (Start place) h) as (λ _. invoked_at txns place ≤ latest) [
    | inl inside ↦ high place inside
    | inr is ↦ cc
  ]

  pub reached_behind : (point : Point) → (0 < latest → (place : ℕ) × HasPoint front (Start place) × (invoked_at txns place ≡ latest)) → 0 < latest_behind txns latest point
      → (place : ℕ) × HasPoint (front ++ point ∷ []) (Start place) × (invoked_at txns place ≡ latest_behind txns latest point)
  reached_behind (Start p) reached positive = elim (cases_lt latest (invoked_at txns p)) as (λ _. (place : ℕ) × HasPoint (front ++ Start p ∷ []) (Start place) × (invoked_at txns place ≡ max latest (invoked_at txns p))) [
    | inl lt ↦ (p, last_stands front (Start p), omega (arith, lt))
    | inr ge ↦
        let same : latest ≡ max latest (invoked_at txns p) = omega (arith, ge) in
        let w = reached (omega (arith, same, positive)) in
        (w.0, stands_left front (Start p ∷ []) (Start w.0) w.1, w.2 ∙ same)
  ]
  reached_behind (Commit p) reached positive = let w = reached positive in (w.0, stands_left front (Commit p ∷ []) (Start w.0) w.1, w.2)

module _ (txns : List Txn) (points : List Point) (placed : ArePlaced txns points) where
  pub no_late_if : KeepsRealTimeAt txns points → IsNoCommitTooLate txns points
  no_late_if keeps first second precedes h =
      placed.distinct (Commit first) (points_trans points (Commit first) (Start second) (Commit first) placed.distinct (keeps first second precedes (first_stands points (Start second) (Commit first) h)) h)

  pub real_time_if : IsNoCommitTooLate txns points → KeepsRealTimeAt txns points
  real_time_if none first second precedes there =
      let commit : HasPoint points (Commit first) = second_stands points (Start first) (Commit first) (placed.paired first (inl (placed.whole first precedes.0))) in
      elim (earlier_total points (Commit first) (Start second) commit there) as (λ _. IsEarlier points (Commit first) (Start second)) [
        | inl same ↦ cc
        | inr apart ↦ elim apart as (λ _. IsEarlier points (Commit first) (Start second)) [
          | inl before ↦ before
          | inr behind ↦ absurd (none first second precedes behind)
        ]
      ]

  -- each point is that of a transaction
  pub low_point : (point : Point) → HasPoint points point → place_of_point point < length txns
  low_point (Start p) h = possible_place txns p (placed.possible p h)
  low_point (Commit p) h = possible_place txns p (placed.possible p (first_stands points (Start p) (Commit p) (placed.paired p (inr h))))

  pub low_points : All (λ point. place_of_point point < length txns) points
  low_points k d low = low_point (get_or points k d) (at points k d low) where
    at : (xs : List Point) (k : ℕ) (d : Point) → k < length xs → HasPoint xs (get_or xs k d)
    at [] k d low = absurd (omega arith)
    at (x ∷ xs) zero d low = inl refl
    at (x ∷ xs) (suc k) d low = inr (at xs k d (omega (arith, low)))

pub placed_of : (txns : List Txn) (points : List Point) → IsSnapshotOrder txns points → ArePlaced txns points
placed_of txns points order = record { distinct = order.distinct; paired = order.paired; possible = order.possible; whole = order.whole }

pub snapshot_if : (txns : List Txn) (real_time : Bool) (points : List Point) → ArePlaced txns points → (real_time ≡ true → IsNoCommitTooLate txns points) → AreWritersApart txns points → ExplainsStarts txns points → IsSnapshotOrderFor txns real_time points
snapshot_if txns real_time points placed in_time apart reads = record {
  snapshot = record { distinct = placed.distinct; paired = placed.paired; possible = placed.possible; whole = placed.whole; reads = reads; apart = apart };
  timely = λ asked. real_time_if txns points placed (in_time asked);
}
