-- That those of which reads tell the order are apart.
use Rattle.std.proofs.Common.{◌≡◌, ℕ, true, false, List, sym, subst, inl, inr}
use Rattle.std.specs.Prelude.{◌⊎◌, ◌≢◌}
use Rattle.std.proofs.lemmas.Bool.{cases_Bool, cases_eq}
use Rattle.jh_txn.specs.declared.dependency.Why.TheVariants.{FirstCommitter, WriteWrite}
use Rattle.jh_txn.specs.declared.model.ConsistencyModel.{ConsistencyModel}
use Rattle.jh_txn.specs.declared.txn.Point.{Point}
use Rattle.jh_txn.specs.declared.txn.Point.TheVariants.{Commit, Start}
use Rattle.jh_txn.specs.declared.txn.Txn.{Txn}
use Rattle.jh_txn.specs.Dependencies.{IsReadBefore, IsReadWithout, MustBeThere, ReadsWithout}
use Rattle.jh_txn.specs.Keeping.{KeepsPointsOfDependencies}
use Rattle.jh_txn.specs.Models.{is_of_snapshots}
use Rattle.jh_txn.specs.Next.{AreLongest, IsTold}
use Rattle.jh_txn.specs.SnapshotOrders.{IsEarlier}
use Rattle.jh_txn.specs.Transactions.{AppendOnce, Appends, Saw, includes}
use Rattle.jh_txn.proofs.ListLemmas.{not_both, includes_left, before_total}

module _ (txns : List Txn) (model : ConsistencyModel) (snapshots : is_of_snapshots model ≡ true) (points : List Point) (longest : ℕ → List ℕ) (reader n key : ℕ) (once : AppendOnce txns) (longests : AreLongest txns longest) (whole : Saw txns reader n key (longest key)) (kept : KeepsPointsOfDependencies txns model points) where
  -- of two that append to the key, where some read has an element of the one and not of the other, or before it
  comes : (one other p q : ℕ) → p ≢ q → Appends txns key one p → Appends txns key other q → MustBeThere txns p → MustBeThere txns q → IsReadBefore txns key one other ⊎ IsReadWithout txns key one other p → IsEarlier points (Commit p) (Start q)
  comes one other p q differ appends others must also why = kept (WriteWrite key one) p q (record { differ = differ; first_there = must; second_there = also; reason = (appends, other, others, why) })

  -- where the first one read the key without an element of the other
  wins : (one other p q : ℕ) → p ≢ q → Appends txns key one p → Appends txns key other q → MustBeThere txns p → MustBeThere txns q → ReadsWithout txns key other p → IsEarlier points (Commit p) (Start q)
  wins one other p q differ appends others must also lacks = kept (FirstCommitter key one) p q (record { differ = differ; first_there = must; second_there = also; reason = (snapshots, appends, other, others, lacks) })

  -- where the longest list has the one, it comes first, unless the other stands before it
  shown : (one other p q : ℕ) → p ≢ q → Appends txns key one p → Appends txns key other q → MustBeThere txns p → MustBeThere txns q → includes (longest key) one ≡ true → IsEarlier points (Commit p) (Start q) ⊎ IsEarlier points (Commit q) (Start p)
  shown one other p q differ appends others must also h = elim (cases_Bool (includes (longest key) other)) as (λ _. IsEarlier points (Commit p) (Start q) ⊎ IsEarlier points (Commit q) (Start p)) [
    | inr lacks ↦ elim (cases_eq reader p) as (λ _. IsEarlier points (Commit p) (Start q) ⊎ IsEarlier points (Commit q) (Start p)) [
      | inl same ↦ inl (wins one other p q differ appends others must also (n, longest key, subst (λ r. Saw txns r n key (longest key)) same whole, lacks))
      | inr not_it ↦ inl (comes one other p q differ appends others must also (inr (reader, n, longest key, not_it, whole, h, lacks)))
    ]
    | inl both ↦ elim (before_total (longest key) one other h both) as (λ _. IsEarlier points (Commit p) (Start q) ⊎ IsEarlier points (Commit q) (Start p)) [
      | inl same ↦ absurd (differ (once.apart key one p q appends (subst (λ e. Appends txns key e q) (sym same) others)))
      | inr apart ↦ elim apart as (λ _. IsEarlier points (Commit p) (Start q) ⊎ IsEarlier points (Commit q) (Start p)) [
        | inl first ↦ inl (comes one other p q differ appends others must also (inl (reader, n, longest key, whole, first)))
        | inr behind ↦ inr (comes other one q p (λ is. differ (sym is)) others appends also must (inl (reader, n, longest key, whole, behind)))
      ]
    ]
  ]

  -- a read of the key lacks what the longest list lacks
  lacks_too : (place m other : ℕ) (seen : List ℕ) → Saw txns place m key seen → includes (longest key) other ≡ false → includes seen other ≡ false
  lacks_too place m other seen saw lacks = elim (cases_Bool (includes seen other)) as (λ _. includes seen other ≡ false) [
    | inr none ↦ none
    | inl some ↦ let b = longests.begins place m key seen saw in absurd (not_both _ (subst (λ xs. includes xs other ≡ true) (sym b.1) (includes_left seen b.0 other some)) lacks)
  ]

  flip : (p q : ℕ) → IsEarlier points (Commit q) (Start p) ⊎ IsEarlier points (Commit p) (Start q) → IsEarlier points (Commit p) (Start q) ⊎ IsEarlier points (Commit q) (Start p)
  flip p q h = elim h as (λ _. IsEarlier points (Commit p) (Start q) ⊎ IsEarlier points (Commit q) (Start p)) [ inl e ↦ inr e | inr e ↦ inl e ]

  -- one that read the key
  read : (one other p q m : ℕ) (seen : List ℕ) → p ≢ q → Appends txns key one p → Appends txns key other q → MustBeThere txns p → MustBeThere txns q → Saw txns p m key seen → IsEarlier points (Commit p) (Start q) ⊎ IsEarlier points (Commit q) (Start p)
  read one other p q m seen differ appends others must also saw = elim (cases_Bool (includes (longest key) other)) as (λ _. IsEarlier points (Commit p) (Start q) ⊎ IsEarlier points (Commit q) (Start p)) [
    | inl there ↦ flip p q (shown other one q p (λ is. differ (sym is)) others appends also must there)
    | inr lacks ↦ inl (wins one other p q differ appends others must also (m, seen, saw, lacks_too p m other seen saw lacks))
  ]

  pub told : (one other p q : ℕ) → p ≢ q → Appends txns key one p → Appends txns key other q → MustBeThere txns p → MustBeThere txns q → IsTold txns key (longest key) one other p q → IsEarlier points (Commit p) (Start q) ⊎ IsEarlier points (Commit q) (Start p)
  told one other p q differ appends others must also tells = elim tells as (λ _. IsEarlier points (Commit p) (Start q) ⊎ IsEarlier points (Commit q) (Start p)) [
    | inl h ↦ shown one other p q differ appends others must also h
    | inr a ↦ elim a as (λ _. IsEarlier points (Commit p) (Start q) ⊎ IsEarlier points (Commit q) (Start p)) [
      | inl h ↦ flip p q (shown other one q p (λ is. differ (sym is)) others appends also must h)
      | inr b ↦ elim b as (λ _. IsEarlier points (Commit p) (Start q) ⊎ IsEarlier points (Commit q) (Start p)) [
        | inl r ↦ read one other p q r.0 r.1 differ appends others must also r.2
        | inr r ↦ flip p q (read other one q p r.0 r.1 (λ is. differ (sym is)) others appends also must r.2)
      ]
    ]
  ]
