-- That each next dependency is a dependency.
use Rattle.std.proofs.Common.{◌≡◌, ℕ, true, false, List, [], ◌∷◌, ◌++◌, refl, sym, subst, inl, inr}
use Rattle.std.specs.Prelude.{◌≢◌}
use Rattle.std.proofs.lemmas.Bool.{cases_Bool}
use Rattle.jh_txn.specs.declared.anomaly.BadRead.TheVariants.{DuplicateElements}
use Rattle.jh_txn.specs.declared.dependency.Why.{Why}
use Rattle.jh_txn.specs.declared.dependency.Why.TheVariants.{FirstCommitter, ReadWrite, RealTime, WriteRead, WriteWrite}
use Rattle.jh_txn.specs.declared.model.ConsistencyModel.{ConsistencyModel}
use Rattle.jh_txn.specs.declared.txn.Txn.{Txn}
use Rattle.jh_txn.specs.BadReads.{HasNoBadRead}
use Rattle.jh_txn.specs.Dependencies.{IsDependency, MustBeThere}
use Rattle.jh_txn.specs.Next.{AreLongest}
use Rattle.jh_txn.specs.Transactions.{Appends, ComesBefore, HasNoRepeat, Saw, appends_before, includes}
use Rattle.jh_txn.proofs.ListLemmas.{before_across, before_first, before_itself, before_right, before_second, includes_head, includes_left, includes_middle, twice_cases}
use Rattle.jh_txn_snapshots.specs.NextPoints.{IsNextReason}

module _ (txns : List Txn) (model : ConsistencyModel) (longest : ℕ → List ℕ) (good : HasNoBadRead txns) (longests : AreLongest txns longest) where
  -- the longest list of a key that somebody read has no element twice
  longest_once : (place m key : ℕ) (seen : List ℕ) → Saw txns place m key seen → HasNoRepeat (longest key)
  longest_once place m key seen saw =
      let w = longests.seen place m key seen saw in
      elim (twice_cases (longest key)) as (λ _. HasNoRepeat (longest key)) [
        | inl apart ↦ apart
        | inr twice ↦ absurd (good w.0 w.1 DuplicateElements (key, longest key, w.2, twice))
      ]

  -- the first element that a read lacked it did not show
  not_shown : (place m key element : ℕ) (seen own rest : List ℕ) → Saw txns place m key seen → longest key ≡ seen ++ own ++ element ∷ rest → includes seen element ≡ false
  not_shown place m key element seen own rest saw is = elim (cases_Bool (includes seen element)) as (λ _. includes seen element ≡ false) [
    | inr none ↦ none
    | inl some ↦
        let again : ComesBefore (seen ++ own ++ element ∷ rest) element element = before_across (seen ++ own) (element ∷ rest) element element (includes_left seen own element some) (includes_head element rest) in
        absurd (before_itself (longest key) element (longest_once place m key seen saw) (subst (λ xs. ComesBefore xs element element) (sym is) again))
  ]

  -- who appended it must be there
  lacked_there : (place m key element writer : ℕ) (seen own rest : List ℕ) → Saw txns place m key seen → longest key ≡ seen ++ own ++ element ∷ rest → Appends txns key element writer → MustBeThere txns writer
  lacked_there place m key element writer seen own rest saw is appends =
      let w = longests.seen place m key seen saw in
      inr (key, element, w.0, appends, (w.1, longest key, w.2, subst (λ xs. includes xs element ≡ true) (sym is) (includes_middle (seen ++ own) rest element)))

  pub is_dependency : (why : Why) (first second : ℕ) → first ≢ second → IsNextReason txns model longest why first second → IsDependency txns model why first second
  is_dependency (WriteRead key element) first second differ reason =
      let last = reason.1 in
      let seen : List ℕ = last.1 ++ element ∷ appends_before txns key second last.0 in
      let shown : includes seen element ≡ true = includes_middle last.1 (appends_before txns key second last.0) element in
      record {
        differ = differ;
        first_there = inr (key, element, second, reason.0, (last.0, seen, last.2, shown));
        second_there = inl last.2.0;
        reason = (reason.0, (last.0, seen, last.2, shown));
      }
  is_dependency (WriteWrite key element) first second differ reason = elim reason.3 as (λ _. IsDependency txns model (WriteWrite key element) first second) [
    | inl next ↦
        let other : ℕ = reason.1 in
        let saw : Saw txns next.0 next.1.0 key (longest key) = next.1.1 in
        let cut : ComesBefore (next.2 ++ element ∷ other ∷ next.3) element other = before_right next.2 (element ∷ other ∷ next.3) element other (inl (refl, includes_head other next.3)) in
        let turn : ComesBefore (longest key) element other = subst (λ xs. ComesBefore xs element other) (sym next.4) cut in
        record {
          differ = differ;
          first_there = inr (key, element, next.0, reason.0, (next.1.0, longest key, saw, before_first (longest key) element other turn));
          second_there = inr (key, other, next.0, reason.2, (next.1.0, longest key, saw, before_second (longest key) element other turn));
          reason = (reason.0, other, reason.2, inl (next.0, next.1.0, longest key, saw, turn));
        }
    | inr beyond ↦
        let ends = beyond.0 in
        let reader = beyond.3 in
        let shown : includes (longest key) element ≡ true = subst (λ xs. includes xs element ≡ true) (sym ends.1) (includes_middle ends.0 [] element) in
        record {
          differ = differ;
          first_there = inr (key, element, reader.0, reason.0, (reader.2.0, longest key, reader.2.1, shown));
          second_there = beyond.2;
          reason = (reason.0, reason.1, reason.2, inr (reader.0, reader.2.0, longest key, reader.1, reader.2.1, shown, beyond.1));
        }
  ]
  is_dependency (FirstCommitter key element) first second differ reason = elim reason.4 as (λ _. IsDependency txns model (FirstCommitter key element) first second) [
    | inl next ↦ record {
      differ = differ;
      first_there = inl next.4.0;
      second_there = lacked_there first next.0 key reason.2 second next.1 next.2 next.3 next.4 next.5 reason.3;
      reason = (reason.0, reason.1, reason.2, reason.3, (next.0, next.1, next.4, not_shown first next.0 key reason.2 next.1 next.2 next.3 next.4 next.5));
    }
    | inr beyond ↦ record {
      differ = differ;
      first_there = inl beyond.0.1.0;
      second_there = beyond.2;
      reason = (reason.0, reason.1, reason.2, reason.3, (beyond.0.0, longest key, beyond.0.1, beyond.1));
    }
  ]
  is_dependency (ReadWrite key element) first second differ reason = elim reason.1 as (λ _. IsDependency txns model (ReadWrite key element) first second) [
    | inl next ↦ record {
      differ = differ;
      first_there = inl next.4.0;
      second_there = lacked_there first next.0 key element second next.1 next.2 next.3 next.4 next.5 reason.0;
      reason = ((next.0, next.1, next.4, not_shown first next.0 key element next.1 next.2 next.3 next.4 next.5), reason.0);
    }
    | inr beyond ↦ record {
      differ = differ;
      first_there = inl beyond.0.1.0;
      second_there = beyond.2;
      reason = ((beyond.0.0, longest key, beyond.0.1, beyond.1), reason.0);
    }
  ]
  is_dependency RealTime first second differ reason = record { differ = differ; first_there = inl reason.1.0; second_there = reason.2; reason = (reason.0, reason.1) }
