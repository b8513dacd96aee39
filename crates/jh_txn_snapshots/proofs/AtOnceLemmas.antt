-- That a serial order is a snapshot order, where each transaction starts and commits at once.
use Rattle.std.proofs.Common.{◌≡◌, ℕ, Bool, true, List, [], ◌∷◌, ◌++◌, refl, sym, ap, subst, ◌∙◌, inl, inr}
use Rattle.std.specs.Prelude.{◌⊎◌}
use Rattle.std.proofs.lemmas.Bool.{false≢true, or_right}
use Rattle.jh_txn.specs.declared.txn.Point.{Point}
use Rattle.jh_txn.specs.declared.txn.Point.TheVariants.{Commit, Start}
use Rattle.jh_txn.specs.declared.txn.Txn.{Txn}
use Rattle.jh_txn.specs.SerialOrders.{IsSerialOrderFor}
use Rattle.jh_txn.specs.SnapshotCheckInside.{place_of_point}
use Rattle.jh_txn.specs.SnapshotOrders.{AreWritersApart, HasNoPointTwice, HasPoint, IsEarlier, IsSnapshotOrderFor, commits}
use Rattle.jh_txn.specs.Transactions.{ComesBefore, HasNoRepeat, includes}
use Rattle.jh_txn.proofs.ListLemmas.{before_itself, before_total, includes_cons, includes_head}
use Rattle.jh_txn.proofs.TransactionLemmas.{possible_of}
use Rattle.jh_txn_snapshots.specs.AtOnce.{at_once}

pub at_once_append : (front back : List ℕ) → at_once (front ++ back) ≡ at_once front ++ at_once back
at_once_append [] back = refl
at_once_append (x ∷ front) back = ap (λ points. Start x ∷ Commit x ∷ points) (at_once_append front back)

-- Which points stand there.

pub start_stands : (order : List ℕ) (place : ℕ) → includes order place ≡ true → HasPoint (at_once order) (Start place)
start_stands [] place h = absurd (false≢true h)
start_stands (x ∷ order) place h = elim (includes_cons x order place h) as (λ _. HasPoint (at_once (x ∷ order)) (Start place)) [
  | inl same ↦ inl (ap Start same)
  | inr later ↦ inr (inr (start_stands order place later))
]

place_stands : (order : List ℕ) (point : Point) → HasPoint (at_once order) point → includes order (place_of_point point) ≡ true
place_stands [] point h = absurd h
place_stands (x ∷ order) point h = elim h as (λ _. includes (x ∷ order) (place_of_point point) ≡ true) [
  | inl start ↦ subst (λ p. includes (x ∷ order) (place_of_point p) ≡ true) start (includes_head x order)
  | inr more ↦ elim more as (λ _. includes (x ∷ order) (place_of_point point) ≡ true) [
    | inl commit ↦ subst (λ p. includes (x ∷ order) (place_of_point p) ≡ true) commit (includes_head x order)
    | inr later ↦ or_right _ _ (place_stands order point later)
  ]
]

-- Which are earlier.

both_stand : (order : List ℕ) (place : ℕ) → includes order place ≡ true → IsEarlier (at_once order) (Start place) (Commit place)
both_stand [] place h = absurd (false≢true h)
both_stand (x ∷ order) place h = elim (includes_cons x order place h) as (λ _. IsEarlier (at_once (x ∷ order)) (Start place) (Commit place)) [
  | inl same ↦ inl (ap Start same, inl (ap Commit same))
  | inr later ↦ inr (inr (both_stand order place later))
]

commits_before : (order : List ℕ) (first second : ℕ) → ComesBefore order first second → IsEarlier (at_once order) (Commit first) (Start second)
commits_before [] first second h = absurd h
commits_before (x ∷ order) first second h = elim h as (λ _. IsEarlier (at_once (x ∷ order)) (Commit first) (Start second)) [
  | inl now ↦ inr (inl (ap Commit now.0, start_stands order second now.1))
  | inr later ↦ inr (inr (commits_before order first second later))
]

-- the start and the commit of one transaction, or points of one and of a later one
earlier_cases : (order : List ℕ) (p q : Point) → IsEarlier (at_once order) p q → ComesBefore order (place_of_point p) (place_of_point q) ⊎ ((p ≡ Start (place_of_point p)) × (q ≡ Commit (place_of_point p)))
earlier_cases [] p q h = absurd h
earlier_cases (x ∷ order) p q h =
    let Goal : Type 0 = ComesBefore (x ∷ order) (place_of_point p) (place_of_point q) ⊎ ((p ≡ Start (place_of_point p)) × (q ≡ Commit (place_of_point p))) in
    elim h as (λ _. Goal) [
      | inl start ↦
          let same : x ≡ place_of_point p = ap place_of_point start.0 in
          elim start.1 as (λ _. Goal) [
            | inl commit ↦ inr (sym start.0 ∙ ap Start same, sym commit ∙ ap Commit same)
            | inr later ↦ inl (inl (same, place_stands order q later))
          ]
      | inr more ↦ elim more as (λ _. Goal) [
        | inl commit ↦ inl (inl (ap place_of_point commit.0, place_stands order q commit.1))
        | inr later ↦ elim (earlier_cases order p q later) as (λ _. Goal) [ inl before ↦ inl (inr before) | inr one ↦ inr one ]
      ]
    ]

none_twice : (order : List ℕ) → HasNoRepeat order → HasNoPointTwice (at_once order)
none_twice order distinct point h = elim (earlier_cases order point point h) as (λ _. ⊥) [
  | inl before ↦ before_itself order (place_of_point point) distinct before
  | inr one ↦ let bad : Start (place_of_point point) ≡ Commit (place_of_point point) = sym one.0 ∙ one.1 in cc
]

-- a cut at a start is a cut of the order: those in front of it have committed
cut_of : (order : List ℕ) (front back : List Point) (place : ℕ) → at_once order ≡ front ++ Start place ∷ back → (rest : List ℕ) × (order ≡ commits front ++ place ∷ rest)
cut_of [] [] back place is = absurd (let bad : ◌≡◌ {A = List Point} [] (Start place ∷ back) = is in cc)
cut_of [] (p ∷ front) back place is = absurd (let bad : ◌≡◌ {A = List Point} [] (p ∷ (front ++ Start place ∷ back)) = is in cc)
cut_of (x ∷ order) [] back place is =
    let both : ◌≡◌ {A = List Point} (Start x ∷ Commit x ∷ at_once order) (Start place ∷ back) = is in
    let start : Start x ≡ Start place = cc in
    (order, ap (λ y. y ∷ order) (ap place_of_point start))
cut_of (x ∷ order) (p ∷ []) back place is =
    let both : ◌≡◌ {A = List Point} (Start x ∷ Commit x ∷ at_once order) (p ∷ Start place ∷ back) = is in
    let bad : Commit x ≡ Start place = cc in
    absurd cc
cut_of (x ∷ order) (p ∷ q ∷ front) back place is =
    let both : ◌≡◌ {A = List Point} (Start x ∷ Commit x ∷ at_once order) (p ∷ q ∷ (front ++ Start place ∷ back)) = is in
    let start : Start x ≡ p = cc in
    let commit : Commit x ≡ q = cc in
    let later : at_once order ≡ front ++ Start place ∷ back = cc in
    let r = cut_of order front back place later in
    let had : x ∷ commits front ≡ commits (p ∷ q ∷ front) = ap (λ z. commits (z ∷ front)) commit ∙ ap (λ z. commits (z ∷ q ∷ front)) start in
    (r.0, ap (λ xs. x ∷ xs) r.1 ∙ ap (λ xs. xs ++ place ∷ r.0) had)

module _ (txns : List Txn) (real_time : Bool) (order : List ℕ) (serial : IsSerialOrderFor txns real_time order) where
  apart : AreWritersApart txns (at_once order)
  apart key one other first second differ appends others here there =
      let Goal : Type 0 = IsEarlier (at_once order) (Commit first) (Start second) ⊎ IsEarlier (at_once order) (Commit second) (Start first) in
      elim (before_total order first second (place_stands order (Start first) here) (place_stands order (Start second) there)) as (λ _. Goal) [
        | inl same ↦ absurd (differ same)
        | inr either ↦ elim either as (λ _. Goal) [
          | inl before ↦ inl (commits_before order first second before)
          | inr behind ↦ inr (commits_before order second first behind)
        ]
      ]

  pub is_snapshot_order : IsSnapshotOrderFor txns real_time (at_once order)
  is_snapshot_order = record {
    snapshot = record {
      distinct = none_twice order serial.serial.distinct;
      paired = λ place h. both_stand order place (elim h as (λ _. includes order place ≡ true) [ inl start ↦ place_stands order (Start place) start | inr commit ↦ place_stands order (Commit place) commit ]);
      possible = λ place h. possible_of txns order serial.serial.possible place (place_stands order (Start place) h);
      whole = λ place done. start_stands order place (serial.serial.whole place done);
      reads = λ front back place is. let cut = cut_of order front back place is in serial.serial.reads (commits front) cut.0 place cut.1;
      apart = apart;
    };
    timely = λ asked first second precedes there. commits_before order first second (serial.timely asked first second precedes (place_stands order (Start second) there));
  }
