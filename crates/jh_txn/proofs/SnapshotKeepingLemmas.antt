-- That points which keep each dependency explain each read, where none is bad.
use Rattle.std.proofs.Common.{◌≡◌, ℕ, true, List, [], ◌∷◌, ◌++◌, refl, sym, subst, ◌∙◌, inl, inr}
use Rattle.std.proofs.lemmas.Bool.{cases_eq}
use Rattle.jh_txn.specs.declared.anomaly.BadRead.TheVariants.{AbortedRead}
use Rattle.jh_txn.specs.declared.dependency.Why.TheVariants.{ReadWrite, RealTime, WriteRead, WriteWrite}
use Rattle.jh_txn.specs.declared.model.ConsistencyModel.{ConsistencyModel}
use Rattle.jh_txn.specs.declared.txn.Outcome.TheVariants.{Done, Failed}
use Rattle.jh_txn.specs.declared.txn.Point.{Point}
use Rattle.jh_txn.specs.declared.txn.Point.TheVariants.{Commit, Start}
use Rattle.jh_txn.specs.declared.txn.Txn.{Txn}
use Rattle.jh_txn.specs.BadReads.{HasNoBadRead}
use Rattle.jh_txn.specs.Dependencies.{MustBeThere}
use Rattle.jh_txn.specs.Keeping.{KeepsPoints}
use Rattle.jh_txn.specs.Models.{keeps_real_time}
use Rattle.jh_txn.specs.RealTime.{CompleteAfterInvocation, PrecedesInTime}
use Rattle.jh_txn.specs.SerialOrders.{IsExplainedBy}
use Rattle.jh_txn.specs.SnapshotOrders.{HasPoint, IsEarlier, IsSnapshotOrderFor, commits}
use Rattle.jh_txn.specs.Transactions.{AppendOnce, ComesBefore, IsFailedAt, Saw, includes}
use Rattle.jh_txn.proofs.ExplainedLemmas.{IsFront, explained_by}
use Rattle.jh_txn.proofs.ListLemmas.{once_if}
use Rattle.jh_txn.proofs.SnapshotOrderLemmas.{commit_stands, commits_before, first_stands, points_across, points_left, points_trans, second_stands, stands_commits}
use Rattle.jh_txn.proofs.TransactionLemmas.{not_before_itself}

-- Points.

-- one that stands before a point stands in front of where the points are cut there
pub in_front : (front back : List Point) (p q : Point) → ((x : Point) → IsEarlier (front ++ p ∷ back) x x → ⊥) → IsEarlier (front ++ p ∷ back) q p → HasPoint front q
in_front [] back p q once h = absurd (once p (inl (refl, elim h as (λ _. HasPoint back p) [ inl now ↦ now.1 | inr later ↦ second_stands back q p later ])))
in_front (x ∷ front) back p q once h = elim h as (λ _. HasPoint (x ∷ front) q) [
  | inl now ↦ inl now.0
  | inr later ↦ inr (in_front front back p q (λ y k. once y (inr k)) later)
]

-- the order of two that stand in front
both_in_front : (front rest : List Point) (p q : Point) → ((x : Point) → IsEarlier (front ++ rest) x x → ⊥) → IsEarlier (front ++ rest) p q → HasPoint front q → IsEarlier front p q
both_in_front [] rest p q once h k = absurd k
both_in_front (x ∷ front) rest p q once h k = elim h as (λ _. IsEarlier (x ∷ front) p q) [
  | inl now ↦ elim k as (λ _. IsEarlier (x ∷ front) p q) [
    | inl same ↦ absurd (once x (inl (refl, subst (HasPoint (front ++ rest)) (sym same) now.1)))
    | inr there ↦ inl (now.0, there)
  ]
  | inr later ↦ elim k as (λ _. IsEarlier (x ∷ front) p q) [
    | inl same ↦ absurd (once x (inl (refl, subst (HasPoint (front ++ rest)) (sym same) (second_stands (front ++ rest) p q later))))
    | inr there ↦ inr (both_in_front front rest p q (λ y h'. once y (inr h')) later there)
  ]
]

before_commits : (xs : List Point) (p q : ℕ) → IsEarlier xs (Commit p) (Commit q) → ComesBefore (commits xs) p q
before_commits [] p q h = absurd h
before_commits (Start r ∷ xs) p q h = elim h as (λ _. ComesBefore (commits xs) p q) [ inl now ↦ absurd (let bad : Start r ≡ Commit p = now.0 in cc) | inr later ↦ before_commits xs p q later ]
before_commits (Commit r ∷ xs) p q h = elim h as (λ _. ComesBefore (r ∷ commits xs) p q) [
  | inl now ↦ inl (let same : r ≡ p = (let e : Commit r ≡ Commit p = now.0 in cc) in same, stands_commits xs q now.1)
  | inr later ↦ inr (before_commits xs p q later)
]

module _ (txns : List Txn) (model : ConsistencyModel) (points : List Point) (once : AppendOnce txns) (ends : CompleteAfterInvocation txns) (good : HasNoBadRead txns) (keeps : KeepsPoints txns model points) where
  start_before : (p : ℕ) → MustBeThere txns p → IsEarlier points (Start p) (Commit p)
  start_before p must = keeps.paired p (inl ((keeps.there p).1 must))

  must_of : (p : ℕ) → HasPoint points (Commit p) → MustBeThere txns p
  must_of p h = (keeps.there p).0 (first_stands points (Start p) (Commit p) (keeps.paired p (inr h)))

  then' : (a b c : Point) → IsEarlier points a b → IsEarlier points b c → IsEarlier points a c
  then' a b c = points_trans points a b c keeps.distinct

  module _ (front back : List Point) (p m key : ℕ) (seen : List ℕ) (cut : points ≡ front ++ Start p ∷ back) (saw : Saw txns p m key seen) where
    once_here : (x : Point) → IsEarlier (front ++ Start p ∷ back) x x → ⊥
    once_here x h = keeps.distinct x (subst (λ xs. IsEarlier xs x x) (sym cut) h)

    early : (q : ℕ) → includes (commits front) q ≡ true → IsEarlier points (Commit q) (Start p)
    early q h = subst (λ xs. IsEarlier xs (Commit q) (Start p)) (sym cut) (points_across front (Start p ∷ back) (Commit q) (Start p) (commit_stands front q h) (inl refl))

    must_front : (q : ℕ) → includes (commits front) q ≡ true → MustBeThere txns q
    must_front q h = must_of q (first_stands points (Commit q) (Start p) (early q h))

    fits : IsFront txns (commits front) p key seen
    fits = record {
      distinct = once_if (commits front) (λ q h. keeps.distinct (Commit q) (subst (λ xs. IsEarlier xs (Commit q) (Commit q)) (sym cut) (points_left front (Start p ∷ back) (Commit q) (Commit q) (commits_before front q q h))));
      outside = λ h. keeps.distinct (Commit p) (then' (Commit p) (Start p) (Commit p) (early p h) (start_before p (inl saw.0)));
      shown = λ element writer shown appends differ.
          let before : IsEarlier points (Commit writer) (Start p) = keeps.kept (WriteRead key element) writer p (record { differ = differ; first_there = inr (key, element, p, appends, (m, seen, saw, shown)); second_there = inl saw.0; reason = (appends, (m, seen, saw, shown)) }) in
          stands_commits front writer (in_front front back (Start p) (Commit writer) once_here (subst (λ xs. IsEarlier xs (Commit writer) (Start p)) cut before));
      lacked = λ element writer lacks appends h.
          let behind : IsEarlier points (Start p) (Commit writer) = keeps.kept (ReadWrite key element) p writer (record {
            differ = λ same. keeps.distinct (Commit p) (then' (Commit p) (Start p) (Commit p) (subst (λ q. IsEarlier points (Commit q) (Start p)) (sym same) (early writer h)) (start_before p (inl saw.0)));
            first_there = inl saw.0;
            second_there = must_front writer h;
            reason = ((m, seen, saw, lacks), appends);
          }) in
          keeps.distinct (Start p) (then' (Start p) (Commit writer) (Start p) behind (early writer h));
      in_turn = λ one other first second turn appends others differ h k.
          let before : IsEarlier points (Commit first) (Start second) = keeps.kept (WriteWrite key one) first second (record {
            differ = differ;
            first_there = must_front first h;
            second_there = must_front second k;
            reason = (appends, other, others, inl (p, m, seen, saw, turn));
          }) in
          let commits' : IsEarlier points (Commit first) (Commit second) = then' (Commit first) (Start second) (Commit second) before (start_before second (must_front second k)) in
          before_commits front first second (both_in_front front (Start p ∷ back) (Commit first) (Commit second) once_here (subst (λ xs. IsEarlier xs (Commit first) (Commit second)) cut commits') (commit_stands front second k));
    }

  explained : (front back : List Point) (p : ℕ) → points ≡ front ++ Start p ∷ back → IsExplainedBy txns (commits front) p
  explained front back p cut m key seen saw = explained_by txns once good (commits front) p m key seen saw (fits front back p m key seen cut saw)

  not_failed : (place : ℕ) → HasPoint points (Start place) → IsFailedAt txns place → ⊥
  not_failed place there failed = elim ((keeps.there place).0 there) as (λ _. ⊥) [
    | inl done ↦ let bad : Done ≡ Failed = sym done ∙ failed in cc
    | inr shown ↦ good shown.2 shown.4.0 AbortedRead (shown.0, shown.4.1, shown.4.2, (shown.1, place, shown.4.3, shown.3, failed))
  ]

  pub suffices : IsSnapshotOrderFor txns (keeps_real_time model) points
  suffices = record {
    snapshot = record {
      distinct = keeps.distinct;
      paired = keeps.paired;
      possible = not_failed;
      whole = λ place done. (keeps.there place).1 (inl done);
      reads = explained;
      apart = keeps.apart;
    };
    timely = λ asked first second late there. elim (cases_eq first second) as (λ _. IsEarlier points (Commit first) (Start second)) [
      | inl same ↦ absurd (not_before_itself txns ends first (subst (λ q. PrecedesInTime txns first q) (sym same) late))
      | inr differ ↦ keeps.kept RealTime first second (record { differ = differ; first_there = inl late.0; second_there = (keeps.there second).0 there; reason = (asked, late) })
    ];
  }
