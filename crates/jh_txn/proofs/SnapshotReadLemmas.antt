-- That bad reads exclude snapshot orders.
use Rattle.std.proofs.Common.{◌≡◌, ℕ, true, List, [], ◌∷◌, ◌++◌, drop, refl, sym, ap, subst, ◌∙◌, inl, inr, append_assoc}
use Rattle.std.proofs.lemmas.List.{append_cancel_right}
use Rattle.std.proofs.lemmas.List.Concat.{flat_map-append}
use Rattle.jh_txn.specs.declared.anomaly.BadRead.{BadRead}
use Rattle.jh_txn.specs.declared.anomaly.BadRead.TheVariants.{AbortedRead, DuplicateElements, GarbageRead, IntermediateRead, Internal, OutOfOrder}
use Rattle.jh_txn.specs.declared.txn.Outcome.TheVariants.{Done, Failed}
use Rattle.jh_txn.specs.declared.txn.Point.{Point}
use Rattle.jh_txn.specs.declared.txn.Point.TheVariants.{Commit, Start}
use Rattle.jh_txn.specs.declared.txn.Txn.{Txn}
use Rattle.jh_txn.specs.BadReads.{IsBadRead, IsWrong, SawBase}
use Rattle.jh_txn.specs.SnapshotOrders.{IsEarlier, IsSnapshotOrder, commits}
use Rattle.jh_txn.specs.Transactions.{AppendOnce, ComesBefore, HasNoRepeat, Saw, appended, appends_at, appends_before, includes, list_after, ops_at, outcome_at}
use Rattle.jh_txn.proofs.ListLemmas.{not_both, includes_left, includes_cases, flat_includes, before_left, before_first, before_second, before_itself, before_trans, before_flat, in_flat, once_if, once_left, once_push, append_nil_right}
use Rattle.jh_txn.proofs.TransactionLemmas.{appends_from_before, appends_split, list_once_of}
use Rattle.jh_txn.proofs.SnapshotOrderLemmas.{saw, writer_cases', start_of, first_stands, commit_stands, commits_before, points_across, points_left, points_trans}

module _ (txns : List Txn) (points : List Point) (once : AppendOnce txns) (order : IsSnapshotOrder txns points) where
  -- who committed before a start is not who starts
  not_committed : (front back : List Point) (place : ℕ) → points ≡ front ++ Start place ∷ back → includes (commits front) place ≡ true → ⊥
  not_committed front back place is h =
      let early : IsEarlier points (Commit place) (Start place) = subst (λ xs. IsEarlier xs (Commit place) (Start place)) (sym is) (points_across front (Start place ∷ back) (Commit place) (Start place) (commit_stands front place h) (inl refl)) in
      order.distinct (Commit place) (points_trans points (Commit place) (Start place) (Commit place) order.distinct early (order.paired place (inr (first_stands points (Commit place) (Start place) early))))

  upto_once : (front back : List Point) (place : ℕ) → points ≡ front ++ Start place ∷ back → HasNoRepeat (commits front ++ place ∷ [])
  upto_once front back place is = once_push (commits front) place
      (once_if (commits front) (λ p h. order.distinct (Commit p) (subst (λ xs. IsEarlier xs (Commit p) (Commit p)) (sym is) (points_left front (Start place ∷ back) (Commit p) (Commit p) (commits_before front p p h)))))
      (not_committed front back place is)

  -- what a read saw begins the list behind its own transaction
  begins : (place m key : ℕ) (seen : List ℕ) (front : List Point) → seen ≡ list_after txns key (commits front) ++ appends_before txns key place m → (rest : List ℕ) × (list_after txns key (commits front ++ place ∷ []) ≡ seen ++ rest)
  begins place m key seen front is =
      let rest : List ℕ = appended key (drop m (ops_at txns place)) in
      let own : appends_at txns key place ++ [] ≡ appends_before txns key place m ++ rest = append_nil_right (appends_at txns key place) ∙ appends_split txns key place m in (
        rest,
        flat_map-append (appends_at txns key) (commits front) (place ∷ []) ∙ ap (λ xs. list_after txns key (commits front) ++ xs) own
            ∙ sym (append_assoc (list_after txns key (commits front)) (appends_before txns key place m) rest) ∙ ap (λ xs. xs ++ rest) (sym is),
      )

  base_is : (place m key : ℕ) (base : List ℕ) (front back : List Point) → points ≡ front ++ Start place ∷ back → SawBase txns place m key base → base ≡ list_after txns key (commits front)
  base_is place m key base front back stands s =
      append_cancel_right base (list_after txns key (commits front)) (appends_before txns key place m) (order.reads front back place stands m key (base ++ appends_before txns key place m) s)

  not_internal : (place m key : ℕ) (seen : List ℕ) → Saw txns place m key seen → IsWrong txns place m key seen Internal → ⊥
  not_internal place m key seen s h =
      let r = saw txns points once order place m key seen s in
      elim h as (λ _. ⊥) [
        | inl no_base ↦ no_base (list_after txns key (commits r.front)) r.is
        | inr more ↦ elim more as (λ _. ⊥) [
          | inl two ↦ two.6 (base_is place m key two.0 r.front r.back r.stands two.4 ∙ sym (base_is place two.2 key two.1 r.front r.back r.stands two.5))
          | inr own ↦
              let listed : includes (list_after txns key (commits r.front)) own.1 ≡ true = subst (λ xs. includes xs own.1 ≡ true) (base_is place m key own.0 r.front r.back r.stands own.2) own.3 in
              let w = in_flat (appends_at txns key) (commits r.front) own.1 listed in
              not_committed r.front r.back place r.stands (subst (λ p. includes (commits r.front) p ≡ true) (once.apart key own.1 w.0 place w.2 own.4) w.1)
        ]
      ]

  not_wrong : (place m key : ℕ) (seen : List ℕ) (anomaly : BadRead) → Saw txns place m key seen → IsWrong txns place m key seen anomaly → ⊥
  not_wrong place m key seen Internal s h = not_internal place m key seen s h
  not_wrong place m key seen DuplicateElements s h =
      let r = saw txns points once order place m key seen s in
      let b = begins place m key seen r.front r.is in
      h (once_left seen b.0 (subst HasNoRepeat b.1 (list_once_of txns once key (commits r.front ++ place ∷ []) (upto_once r.front r.back place r.stands))))
  not_wrong place m key seen GarbageRead s h =
      let r = saw txns points once order place m key seen s in
      let b = begins place m key seen r.front r.is in
      let w = in_flat (appends_at txns key) (commits r.front ++ place ∷ []) h.0 (subst (λ xs. includes xs h.0 ≡ true) (sym b.1) (includes_left seen b.0 h.0 h.1)) in
      h.2 w.0 w.2
  not_wrong place m key seen AbortedRead s h = elim (writer_cases' txns points once order place m key h.0 h.1 seen s h.2 h.3) as (λ _. ⊥) [
    | inl before ↦ order.possible h.1 (start_of txns points once order h.1 (first_stands points (Commit h.1) (Start place) before)) h.4
    | inr same ↦ let bad : Done ≡ Failed = sym s.0 ∙ ap (outcome_at txns) (sym same) ∙ h.4 in cc
  ]
  not_wrong place m key seen IntermediateRead s h =
      let r = saw txns points once order place m key seen s in
      let listed = list_after txns key (commits r.front) in
      let own = appends_before txns key place m in
      elim (includes_cases listed own h.0 (subst (λ xs. includes xs h.0 ≡ true) r.is h.6)) as (λ _. ⊥) [
        | inl front ↦
            let w = in_flat (appends_at txns key) (commits r.front) h.0 front in
            let there : includes (commits r.front) h.2 ≡ true = subst (λ p. includes (commits r.front) p ≡ true) (once.apart key h.0 w.0 h.2 w.2 h.4) w.1 in
            not_both (includes seen h.1) (subst (λ xs. includes xs h.1 ≡ true) (sym r.is) (includes_left listed own h.1 (flat_includes (appends_at txns key) (commits r.front) h.2 h.1 there h.5))) h.7
        | inr mine ↦ h.3 (once.apart key h.0 h.2 place h.4 (appends_from_before txns key place m h.0 mine))
      ]
  not_wrong place m key seen OutOfOrder s h =
      let r = saw txns points once order place m key seen s in
      let b = begins place m key seen r.front r.is in
      let upto : List ℕ = commits r.front ++ place ∷ [] in
      let d = before_flat (appends_at txns key) upto h.1 h.0 (subst (λ xs. ComesBefore xs h.1 h.0) (sym b.1) (before_left seen b.0 h.1 h.0 h.4)) in
      let is_first : d.0 ≡ h.2 = once.apart key h.1 d.0 h.2 d.2 (before_second (appends_at txns key h.2) h.0 h.1 h.3) in
      let is_second : d.1 ≡ h.2 = once.apart key h.0 d.1 h.2 d.3 (before_first (appends_at txns key h.2) h.0 h.1 h.3) in
      elim d.4 as (λ _. ⊥) [
        | inl two ↦ before_itself upto h.2 (upto_once r.front r.back place r.stands) (subst (λ p. ComesBefore upto p h.2) is_first (subst (λ q. ComesBefore upto d.0 q) is_second two))
        | inr one ↦ before_itself (appends_at txns key h.2) h.0 (once.within key h.2)
            (before_trans (appends_at txns key h.2) h.0 h.1 h.0 (once.within key h.2) h.3 (subst (λ p. ComesBefore (appends_at txns key p) h.1 h.0) is_first one.2))
      ]

  pub no_bad_read : (place m : ℕ) (anomaly : BadRead) → IsBadRead txns place m anomaly → ⊥
  no_bad_read place m anomaly bad = not_wrong place m bad.0 bad.1 anomaly bad.2 bad.3
