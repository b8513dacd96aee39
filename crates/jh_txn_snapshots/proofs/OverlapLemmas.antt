-- That two writers of a key which have to overlap exclude every snapshot order.
use Rattle.std.proofs.Common.{◌≡◌, ℕ, Bool, true, false, List, [], ◌∷◌, refl, sym, subst, inl, inr, cond}
use Rattle.std.specs.Prelude.{◌≢◌}
use Rattle.jh_txn.specs.declared.dependency.Step.{Step}
use Rattle.jh_txn.specs.declared.dependency.Why.{Why}
use Rattle.jh_txn.specs.declared.dependency.Why.TheVariants.{RealTime}
use Rattle.jh_txn.specs.declared.model.ConsistencyModel.{ConsistencyModel}
use Rattle.jh_txn.specs.declared.txn.Point.{Point}
use Rattle.jh_txn.specs.declared.txn.Point.TheVariants.{Commit, Start}
use Rattle.jh_txn.specs.declared.txn.Txn.{Txn}
use Rattle.jh_txn.specs.Cycles.{AreReadWritesApart, LeadTo, is_read_write}
use Rattle.jh_txn.specs.Dependencies.{MustBeThere}
use Rattle.jh_txn.specs.Keeping.{arrives_at, leaves_at}
use Rattle.jh_txn.specs.Models.{keeps_real_time}
use Rattle.jh_txn.specs.SnapshotOrders.{HasPoint, IsEarlier, IsSnapshotOrderFor}
use Rattle.jh_txn.specs.Transactions.{AppendOnce}
use Rattle.jh_txn.proofs.SnapshotOrderLemmas.{ordered, points_trans, starts}
use Rattle.jh_txn_snapshots.specs.Overlaps.{IsOverlap, IsSnapshotPath}

module _ (txns : List Txn) (model : ConsistencyModel) (points : List Point) (once : AppendOnce txns) (orders : IsSnapshotOrderFor txns (keeps_real_time model) points) where
  then' : (a b c : Point) → IsEarlier points a b → IsEarlier points b c → IsEarlier points a c
  then' a b c = points_trans points a b c orders.snapshot.distinct

  here : (p : ℕ) → MustBeThere txns p → HasPoint points (Start p)
  here p must = starts txns points once orders.snapshot p must

  opens : (p : ℕ) → MustBeThere txns p → IsEarlier points (Start p) (Commit p)
  opens p must = orders.snapshot.paired p (inl (here p must))

  -- from a start to where a dependency leaves, from where it arrives to a commit, and on to the next
  from_start : (why : Why) (p : ℕ) (x : Point) → MustBeThere txns p → IsEarlier points (leaves_at why p) x → IsEarlier points (Start p) x
  from_start why p x must h = by (is_read_write why) h where
    by : (b : Bool) → IsEarlier points (cond b (Start p) (Commit p)) x → IsEarlier points (Start p) x
    by true k = k
    by false k = then' (Start p) (Commit p) x (opens p must) k

  to_commit : (why : Why) (p : ℕ) (x : Point) → MustBeThere txns p → IsEarlier points x (arrives_at why p) → IsEarlier points x (Commit p)
  to_commit why p x must h = by (is_read_write why) h where
    by : (b : Bool) → IsEarlier points x (cond b (Commit p) (Start p)) → IsEarlier points x (Commit p)
    by true k = k
    by false k = then' x (Start p) (Commit p) k (opens p must)

  go_on : (why next : Why) (p : ℕ) (x y : Point) → MustBeThere txns p → (is_read_write why ≡ true → is_read_write next ≡ true → ⊥) → IsEarlier points x (arrives_at why p) → IsEarlier points (leaves_at next p) y → IsEarlier points x y
  go_on why next p x y must apart h k = by (is_read_write why) (is_read_write next) apart h k where
    by : (a b : Bool) → (a ≡ true → b ≡ true → ⊥) → IsEarlier points x (cond a (Commit p) (Start p)) → IsEarlier points (cond b (Start p) (Commit p)) y → IsEarlier points x y
    by true true both h' k' = absurd (both refl refl)
    by true false both h' k' = then' x (Commit p) y h' k'
    by false true both h' k' = then' x (Start p) y h' k'
    by false false both h' k' = then' x (Start p) y h' (then' (Start p) (Commit p) y (opens p must) k')

  reach : (step : Step) (steps : List Step) (last : ℕ) → LeadTo txns model (step ∷ steps) last → AreReadWritesApart (step ∷ steps) RealTime → IsEarlier points (leaves_at step.why step.place) (Commit last)
  reach step [] last lead apart = to_commit step.why last (leaves_at step.why step.place) lead.0.second_there (ordered txns points once orders.snapshot model orders step.why step.place last lead.0)
  reach step (next ∷ steps) last lead apart =
      go_on step.why next.why next.place (leaves_at step.why step.place) (Commit last) lead.0.second_there apart.0
      (ordered txns points once orders.snapshot model orders step.why step.place next.place lead.0)
      (reach next steps last lead.1 apart.1)

  path : (steps : List Step) (first second : ℕ) → first ≢ second → IsSnapshotPath txns model steps first second → MustBeThere txns first × IsEarlier points (Start first) (Commit second)
  path [] first second differ is = absurd (differ (sym is.from_first))
  path (step ∷ steps) first second differ is =
      let must : MustBeThere txns step.place = is.lead.0.first_there in (
        subst (MustBeThere txns) is.from_first must,
        subst (λ p. IsEarlier points (Start p) (Commit second)) is.from_first (from_start step.why step.place (Commit second) must (reach step steps second is.lead is.apart)),
      )

  pub no_overlap : (there back : List Step) (key one other first second : ℕ) → IsOverlap txns model there back key one other first second → ⊥
  no_overlap there back key one other first second overlap =
      let a = path there first second overlap.differ overlap.there_path in
      let b = path back second first (λ same. overlap.differ (sym same)) overlap.back_path in
      elim (orders.snapshot.apart key one other first second overlap.differ overlap.first_appends overlap.second_appends (here first a.0) (here second b.0)) as (λ _. ⊥) [
        | inl before ↦ orders.snapshot.distinct (Commit first) (then' (Commit first) (Start second) (Commit first) before b.1)
        | inr behind ↦ orders.snapshot.distinct (Commit second) (then' (Commit second) (Start first) (Commit second) behind a.1)
      ]
