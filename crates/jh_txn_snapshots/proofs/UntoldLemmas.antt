-- That writers of a key do not overlap, where those do not of which no read tells the order.
use Rattle.std.proofs.Common.{◌≡◌, ℕ, zero, suc, true, false, List, [], ◌∷◌, ◌++◌, refl, sym, ap, subst, ◌∙◌, inl, inr, Some, None, Option}
use Rattle.std.specs.Prelude.{◌⊎◌, ◌≢◌, slice_get, option_and_then}
use Rattle.std.proofs.lemmas.Bool.{false≢true, cases_Bool, cases_eq}
use Rattle.jh_txn.specs.declared.model.ConsistencyModel.{ConsistencyModel}
use Rattle.jh_txn.specs.declared.txn.MicroOp.{MicroOp}
use Rattle.jh_txn.specs.declared.txn.MicroOp.TheVariants.{Append, Read}
use Rattle.jh_txn.specs.declared.txn.Outcome.{Outcome}
use Rattle.jh_txn.specs.declared.txn.Outcome.TheVariants.{Done, Failed, Unsure}
use Rattle.jh_txn.specs.declared.txn.Point.{Point}
use Rattle.jh_txn.specs.declared.txn.Point.TheVariants.{Commit, Start}
use Rattle.jh_txn.specs.declared.txn.Txn.{Txn}
use Rattle.jh_txn.specs.Dependencies.{MustBeThere, ReadsWith}
use Rattle.jh_txn.specs.Keeping.{KeepsPointsOfDependencies}
use Rattle.jh_txn.specs.Models.{is_of_snapshots}
use Rattle.jh_txn.specs.Next.{AreLongest, IsTold}
use Rattle.jh_txn.specs.SnapshotOrders.{AreWritersApart, HasNoPointTwice, HasPoint, IsEarlier}
use Rattle.jh_txn.specs.Transactions.{AppendOnce, ComesBefore, Saw, includes, ops_at, outcome_at, read_content}
use Rattle.jh_txn.proofs.ListLemmas.{before_total, includes_cons, includes_left, includes_middle, middle_shift, not_both}
use Rattle.jh_txn.proofs.ToldWriterLemmas.{told}
use Rattle.jh_txn_snapshots.specs.KeptPoints.{ArePointsOfAll}
use Rattle.jh_txn_snapshots.specs.Untold.{AreUntoldApart, AreUntoldAtOnce, AreUntoldInTurn}
use Rattle.jh_txn_snapshots.proofs.ChainLemmas.{then_start}
use Rattle.jh_txn_snapshots.proofs.PointLemmas.{before_both, behind_both, earlier_total}

-- Whether a transaction reads a key.

is_done : (outcome : Outcome) → (outcome ≡ Done) ⊎ (outcome ≡ Done → ⊥)
is_done Done = inl refl
is_done Failed = inr (λ h. cc)
is_done Unsure = inr (λ h. cc)

-- the micro-operation at an index reads the key, and sees these elements
abbrev ReadsAt : List MicroOp → ℕ → ℕ → List ℕ → Type 0
ReadsAt ops key index seen = option_and_then read_content (slice_get ops index) ≡ Some (key, seen)

read_cases : (ops : List MicroOp) (key : ℕ) → ((index : ℕ) × (seen : List ℕ) × ReadsAt ops key index seen) ⊎ ((index : ℕ) (seen : List ℕ) → ReadsAt ops key index seen → ⊥)
read_cases [] key = inr (λ index seen h. let bad : ◌≡◌ {A = Option (ℕ × List ℕ)} None (Some (key, seen)) = h in cc)
read_cases (Append k element ∷ ops) key = elim (read_cases ops key) as (λ _. ((index : ℕ) × (seen : List ℕ) × ReadsAt (Append k element ∷ ops) key index seen) ⊎ ((index : ℕ) (seen : List ℕ) → ReadsAt (Append k element ∷ ops) key index seen → ⊥)) [
  | inl r ↦ inl (suc r.0, r.1, r.2)
  | inr none ↦ inr (no_more none)
] where
  no_more : ((index : ℕ) (seen : List ℕ) → ReadsAt ops key index seen → ⊥) → (index : ℕ) (seen : List ℕ) → ReadsAt (Append k element ∷ ops) key index seen → ⊥
  no_more none zero seen h = let bad : ◌≡◌ {A = Option (ℕ × List ℕ)} None (Some (key, seen)) = h in cc
  no_more none (suc index) seen h = none index seen h
read_cases (Read k shown ∷ ops) key = elim (cases_eq k key) as (λ _. ((index : ℕ) × (seen : List ℕ) × ReadsAt (Read k shown ∷ ops) key index seen) ⊎ ((index : ℕ) (seen : List ℕ) → ReadsAt (Read k shown ∷ ops) key index seen → ⊥)) [
  | inl same ↦ inl (0, shown, ap (λ z. Some (z, shown)) same)
  | inr differ ↦ elim (read_cases ops key) as (λ _. ((index : ℕ) × (seen : List ℕ) × ReadsAt (Read k shown ∷ ops) key index seen) ⊎ ((index : ℕ) (seen : List ℕ) → ReadsAt (Read k shown ∷ ops) key index seen → ⊥)) [
    | inl r ↦ inl (suc r.0, r.1, r.2)
    | inr none ↦ inr (no_more differ none)
  ]
] where
  no_more : k ≢ key → ((index : ℕ) (seen : List ℕ) → ReadsAt ops key index seen → ⊥) → (index : ℕ) (seen : List ℕ) → ReadsAt (Read k shown ∷ ops) key index seen → ⊥
  no_more differ none zero seen h =
      let some : ◌≡◌ {A = Option (ℕ × List ℕ)} (Some (k, shown)) (Some (key, seen)) = h in
      let pair : ◌≡◌ {A = ℕ × List ℕ} (k, shown) (key, seen) = cc in
      differ (ap (λ z. z.0) pair)
  no_more differ none (suc index) seen h = none index seen h

-- the transaction at a place read the key, or it did not
saw_cases : (txns : List Txn) (key place : ℕ) → ((index : ℕ) × (seen : List ℕ) × Saw txns place index key seen) ⊎ ((index : ℕ) (seen : List ℕ) → Saw txns place index key seen → ⊥)
saw_cases txns key place = elim (is_done (outcome_at txns place)) as (λ _. ((index : ℕ) × (seen : List ℕ) × Saw txns place index key seen) ⊎ ((index : ℕ) (seen : List ℕ) → Saw txns place index key seen → ⊥)) [
  | inr not_done ↦ inr (λ index seen h. not_done h.0)
  | inl done ↦ elim (read_cases (ops_at txns place) key) as (λ _. ((index : ℕ) × (seen : List ℕ) × Saw txns place index key seen) ⊎ ((index : ℕ) (seen : List ℕ) → Saw txns place index key seen → ⊥)) [
    | inl r ↦ inl (r.0, r.1, (done, r.2))
    | inr none ↦ inr (λ index seen h. none index seen h.1)
  ]
]

-- somebody read the key, or nobody did
reader_cases : (txns : List Txn) (key : ℕ) → ((place index : ℕ) × (seen : List ℕ) × Saw txns place index key seen) ⊎ ((place index : ℕ) (seen : List ℕ) → Saw txns place index key seen → ⊥)
reader_cases [] key = inr (λ place index seen h. let bad : Failed ≡ Done = h.0 in cc)
reader_cases (txn ∷ txns) key =
    let Goal : Type 0 = ((place index : ℕ) × (seen : List ℕ) × Saw (txn ∷ txns) place index key seen) ⊎ ((place index : ℕ) (seen : List ℕ) → Saw (txn ∷ txns) place index key seen → ⊥) in
    elim (saw_cases (txn ∷ txns) key 0) as (λ _. Goal) [
      | inl r ↦ inl (0, r.0, r.1, r.2)
      | inr not_here ↦ elim (reader_cases txns key) as (λ _. Goal) [
        | inl r ↦ inl (suc r.0, r.1, r.2, r.3)
        | inr none ↦ inr (nobody not_here none)
      ]
    ] where
      nobody : ((index : ℕ) (seen : List ℕ) → Saw (txn ∷ txns) 0 index key seen → ⊥) → ((place index : ℕ) (seen : List ℕ) → Saw txns place index key seen → ⊥) → (place index : ℕ) (seen : List ℕ) → Saw (txn ∷ txns) place index key seen → ⊥
      nobody not_here none zero index seen h = not_here index seen h
      nobody not_here none (suc place) index seen h = none place index seen h

-- Writers that are told are apart, and so are the others.

module _ (txns : List Txn) (model : ConsistencyModel) (snapshots : is_of_snapshots model ≡ true) (points : List Point) (longest : ℕ → List ℕ) (once : AppendOnce txns) (longests : AreLongest txns longest) (all : ArePointsOfAll txns points) (untold : AreUntoldApart txns points) (kept : KeepsPointsOfDependencies txns model points) where
  -- an element that the longest list lacks no read has
  no_read : (key element : ℕ) → includes (longest key) element ≡ false → (reader : ℕ) → ReadsWith txns key element reader → ⊥
  no_read key element lacks reader reads =
      let b = longests.begins reader reads.0 key reads.1 reads.2 in
      not_both _ (subst (λ xs. includes xs element ≡ true) (sym b.1) (includes_left reads.1 b.0 element reads.3)) lacks

  pub writers_apart : AreWritersApart txns points
  writers_apart key one other p q differ appends others here there = elim (reader_cases txns key) as (λ _. Goal) [
    | inr nobody ↦ chosen (λ r h. nobody r h.0 h.1 h.2) (λ m seen h. nobody p m seen h) (λ r h. nobody r h.0 h.1 h.2) (λ m seen h. nobody q m seen h)
    | inl somebody ↦
        let w = longests.seen somebody.0 somebody.1 key somebody.2 somebody.3 in
        let by = tells w.0 w.1 w.2 in
        elim (cases_Bool (includes (longest key) one)) as (λ _. Goal) [
          | inl read ↦ by (inl read)
          | inr one_unread ↦ elim (cases_Bool (includes (longest key) other)) as (λ _. Goal) [
            | inl read ↦ by (inr (inl read))
            | inr other_unread ↦ elim (saw_cases txns key p) as (λ _. Goal) [
              | inl r ↦ by (inr (inr (inl r)))
              | inr p_blind ↦ elim (saw_cases txns key q) as (λ _. Goal) [
                | inl r ↦ by (inr (inr (inr r)))
                | inr q_blind ↦ chosen (no_read key one one_unread) p_blind (no_read key other other_unread) q_blind
              ]
            ]
          ]
        ]
  ] where
    Goal : Type 0
    Goal = IsEarlier points (Commit p) (Start q) ⊎ IsEarlier points (Commit q) (Start p)

    tells : (reader n : ℕ) → Saw txns reader n key (longest key) → IsTold txns key (longest key) one other p q → IsEarlier points (Commit p) (Start q) ⊎ IsEarlier points (Commit q) (Start p)
    tells reader n whole h = told txns model snapshots points longest reader n key once longests whole kept one other p q differ appends others ((all.there p).0 here) ((all.there q).0 there) h

    chosen : ((r : ℕ) → ReadsWith txns key one r → ⊥) → ((m : ℕ) (seen : List ℕ) → Saw txns p m key seen → ⊥) → ((r : ℕ) → ReadsWith txns key other r → ⊥) → ((m : ℕ) (seen : List ℕ) → Saw txns q m key seen → ⊥)
        → IsEarlier points (Commit p) (Start q) ⊎ IsEarlier points (Commit q) (Start p)
    chosen one_unread p_blind other_unread q_blind = untold key one other p q (record {
      differ = differ;
      one_untold = record { appends = appends; unread = one_unread; blind = p_blind };
      other_untold = record { appends = others; unread = other_unread; blind = q_blind };
      first_there = here;
      second_there = there;
    })

-- Where each commits just behind its start.
pub at_once_apart : (txns : List Txn) (points : List Point) → HasNoPointTwice points → AreUntoldAtOnce txns points → AreUntoldApart txns points
at_once_apart txns points distinct once key one other p q pair =
    let a = once key one other p q pair in
    let b = once key other one q p (record { differ = λ same. pair.differ (sym same); one_untold = pair.other_untold; other_untold = pair.one_untold; first_there = pair.second_there; second_there = pair.first_there }) in
    let commits : HasPoint points (Commit p) = subst (λ xs. HasPoint xs (Commit p)) (sym a.2) (behind a.0 a.1) in
    elim (earlier_total points (Commit p) (Start q) commits pair.second_there) as (λ _. IsEarlier points (Commit p) (Start q) ⊎ IsEarlier points (Commit q) (Start p)) [
      | inl bad ↦ absurd (let no : Commit p ≡ Start q = bad in cc)
      | inr apart ↦ elim apart as (λ _. IsEarlier points (Commit p) (Start q) ⊎ IsEarlier points (Commit q) (Start p)) [
        | inl first ↦ inl first
        | inr second ↦
            let starts : IsEarlier points (Start q) (Start p) = subst (λ xs. IsEarlier xs (Start q) (Start p)) (sym a.2) (before_both (Start p) (Commit p) a.1 a.0 (Start q) (once_in a.0 a.1 p a.2) (λ same. pair.differ (let is : Start p ≡ Start q = same in cc)) (subst (λ xs. IsEarlier xs (Start q) (Commit p)) a.2 second)) in
            inr (subst (λ xs. IsEarlier xs (Commit q) (Start p)) (sym b.2) (behind_both (Start q) (Commit q) b.1 b.0 (Start p) (once_in b.0 b.1 q b.2) (λ same. let no : Commit q ≡ Start p = same in cc) (subst (λ xs. IsEarlier xs (Start q) (Start p)) b.2 starts)))
      ]
    ] where
      behind : (front back : List Point) → HasPoint (front ++ Start p ∷ Commit p ∷ back) (Commit p)
      behind [] back = inr (inl refl)
      behind (x ∷ front) back = inr (behind front back)

      once_in : (front back : List Point) (r : ℕ) → points ≡ front ++ Start r ∷ Commit r ∷ back → (x : Point) → IsEarlier (front ++ Start r ∷ Commit r ∷ back) x x → ⊥
      once_in front back r is x h = distinct x (subst (λ xs. IsEarlier xs x x) (sym is) h)

-- Where they stand in a list.
module _ (txns : List Txn) (points : List Point) (turn : ℕ → List ℕ) (all : ArePointsOfAll txns points) (turns : AreUntoldInTurn txns points turn) where
  -- from one place of the list to a later one
  run : (key : ℕ) (front back : List ℕ) (p q : ℕ) → turn key ≡ front ++ p ∷ back → includes back q ≡ true → IsEarlier points (Commit p) (Start q)
  run key front [] p q is h = absurd (false≢true h)
  run key front (r ∷ back) p q is h =
      let step : IsEarlier points (Commit p) (Start r) = turns.next key p r front back is in
      elim (includes_cons r back q h) as (λ _. IsEarlier points (Commit p) (Start q)) [
        | inl same ↦ subst (λ z. IsEarlier points (Commit p) (Start z)) same step
        | inr later ↦
            let is' : turn key ≡ (front ++ p ∷ []) ++ r ∷ back = is ∙ middle_shift front (r ∷ back) p in
            let here : includes (turn key) r ≡ true = subst (λ xs. includes xs r ≡ true) (sym is') (includes_middle (front ++ p ∷ []) back r) in
            let must : MustBeThere txns r = (all.there r).0 (turns.there key r here) in
            then_start txns points all (Commit p) r q must step (inr (run key (front ++ p ∷ []) back r q is' later))
      ]

  in_list : (key : ℕ) (front xs : List ℕ) (p q : ℕ) → turn key ≡ front ++ xs → ComesBefore xs p q → IsEarlier points (Commit p) (Start q)
  in_list key front [] p q is h = absurd h
  in_list key front (x ∷ xs) p q is h = elim h as (λ _. IsEarlier points (Commit p) (Start q)) [
    | inl now ↦ run key front xs p q (is ∙ ap (λ z. front ++ z ∷ xs) now.0) now.1
    | inr later ↦ in_list key (front ++ x ∷ []) xs p q (is ∙ middle_shift front xs x) later
  ]

  pub in_turn_apart : AreUntoldApart txns points
  in_turn_apart key one other p q pair =
      let a = turns.whole key one p pair.one_untold pair.first_there in
      let b = turns.whole key other q pair.other_untold pair.second_there in
      elim (before_total (turn key) p q a b) as (λ _. IsEarlier points (Commit p) (Start q) ⊎ IsEarlier points (Commit q) (Start p)) [
        | inl same ↦ absurd (pair.differ same)
        | inr apart ↦ elim apart as (λ _. IsEarlier points (Commit p) (Start q) ⊎ IsEarlier points (Commit q) (Start p)) [
          | inl first ↦ inl (in_list key [] (turn key) p q refl first)
          | inr second ↦ inr (in_list key [] (turn key) q p refl second)
        ]
      ]
