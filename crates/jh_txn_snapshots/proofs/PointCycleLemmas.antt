-- That the dependencies of a cycle of points are a cycle in which no two `:rw` are neighbours.
use Rattle.std.proofs.Common.{◌≡◌, ℕ, Bool, true, false, Option, Some, None, List, [], ◌∷◌, refl, sym, ap, subst, ◌∙◌, cond}
use Rattle.jh_txn.specs.declared.dependency.Why.{Why}
use Rattle.jh_txn.specs.declared.model.ConsistencyModel.{ConsistencyModel}
use Rattle.jh_txn.specs.declared.txn.Point.{Point}
use Rattle.jh_txn.specs.declared.txn.Point.TheVariants.{Commit, Start}
use Rattle.jh_txn.specs.declared.txn.Txn.{Txn}
use Rattle.jh_txn.specs.Cycles.{AreReadWritesApart, IsSnapshotCycle, LeadTo, first_place, first_why, is_read_write}
use Rattle.jh_txn.specs.Dependencies.{IsDependency}
use Rattle.jh_txn.specs.Keeping.{arrives_at, leaves_at}
use Rattle.jh_txn.specs.SnapshotCheckInside.{place_of_point}
use Rattle.jh_txn_snapshots.specs.PointCycles.{IsPointCycle, IsPointStep, LeadToPoint, dependency_steps, first_point}

-- Where a dependency leaves and arrives.

start_not_commit : (p q : ℕ) → Start p ≡ Commit q → ⊥
start_not_commit p q h = cc

place_left : (why : Why) (p : ℕ) → place_of_point (leaves_at why p) ≡ p
place_left why p = by (is_read_write why) where
  by : (b : Bool) → place_of_point (cond b (Start p) (Commit p)) ≡ p
  by true = refl
  by false = refl

place_arrived : (why : Why) (p : ℕ) → place_of_point (arrives_at why p) ≡ p
place_arrived why p = by (is_read_write why) where
  by : (b : Bool) → place_of_point (cond b (Commit p) (Start p)) ≡ p
  by true = refl
  by false = refl

-- what leaves at a commit is no `:rw`
not_at_commit : (why : Why) (p q : ℕ) → leaves_at why p ≡ Commit q → is_read_write why ≡ true → ⊥
not_at_commit why p q h rw = start_not_commit p q (ap (λ b. cond b (Start p) (Commit p)) (sym rw) ∙ h)

-- a `:rw` arrives at a commit
at_commit : (why : Why) (p : ℕ) → is_read_write why ≡ true → arrives_at why p ≡ Commit p
at_commit why p rw = ap (λ b. cond b (Commit p) (Start p)) rw

module _ (txns : List Txn) (model : ConsistencyModel) where
  same_place : (steps : List (Point × Option Why)) (last : Point) → LeadToPoint txns model steps last → first_place (dependency_steps steps) (place_of_point last) ≡ place_of_point (first_point steps last)
  same_place [] last lead = refl
  same_place (step ∷ steps) last lead = by step.1 lead.0 (same_place steps last lead.1) where
    by : (why : Option Why) → IsPointStep txns model step.0 why (first_point steps last) → first_place (dependency_steps steps) (place_of_point last) ≡ place_of_point (first_point steps last) → first_place (dependency_steps ((step.0, why) ∷ steps)) (place_of_point last) ≡ place_of_point step.0
    by None h later = later ∙ ap place_of_point h.2 ∙ sym (ap place_of_point h.1)
    by (Some why) h later = refl

  leads : (steps : List (Point × Option Why)) (last : Point) → LeadToPoint txns model steps last → LeadTo txns model (dependency_steps steps) (place_of_point last)
  leads [] last lead = tt
  leads (step ∷ steps) last lead = by step.1 lead.0 (leads steps last lead.1) where
    by : (why : Option Why) → IsPointStep txns model step.0 why (first_point steps last) → LeadTo txns model (dependency_steps steps) (place_of_point last) → LeadTo txns model (dependency_steps ((step.0, why) ∷ steps)) (place_of_point last)
    by None h later = later
    by (Some why) h later =
        let from : h.0 ≡ place_of_point step.0 = sym (ap place_of_point h.3 ∙ place_left why h.0) in
        let to : h.1 ≡ first_place (dependency_steps steps) (place_of_point last) = sym (same_place steps last lead.1 ∙ ap place_of_point h.4 ∙ place_arrived why h.1) in
        (subst (λ p. IsDependency txns model why p (first_place (dependency_steps steps) (place_of_point last))) from (subst (λ q. IsDependency txns model why h.0 q) to h.2), later)

  -- no `:rw` goes on from a commit
  none_from_commit : (steps : List (Point × Option Why)) (last : Point) (behind : Why) (q : ℕ) → LeadToPoint txns model steps last → first_point steps last ≡ Commit q → ((r : ℕ) → last ≡ Commit r → is_read_write behind ≡ true → ⊥) → is_read_write (first_why (dependency_steps steps) behind) ≡ true → ⊥
  none_from_commit [] last behind q lead here end rw = end q here rw
  none_from_commit (step ∷ steps) last behind q lead here end rw = by step.1 lead.0 rw where
    by : (why : Option Why) → IsPointStep txns model step.0 why (first_point steps last) → is_read_write (first_why (dependency_steps ((step.0, why) ∷ steps)) behind) ≡ true → ⊥
    by None h k = start_not_commit h.0 q (sym h.1 ∙ here)
    by (Some why) h k = not_at_commit why h.0 q (sym h.3 ∙ here) k

  apart : (steps : List (Point × Option Why)) (last : Point) (behind : Why) → LeadToPoint txns model steps last → ((r : ℕ) → last ≡ Commit r → is_read_write behind ≡ true → ⊥) → AreReadWritesApart (dependency_steps steps) behind
  apart [] last behind lead end = tt
  apart (step ∷ steps) last behind lead end = by step.1 lead.0 (apart steps last behind lead.1 end) where
    by : (why : Option Why) → IsPointStep txns model step.0 why (first_point steps last) → AreReadWritesApart (dependency_steps steps) behind → AreReadWritesApart (dependency_steps ((step.0, why) ∷ steps)) behind
    by None h later = later
    by (Some why) h later = (λ rw next. none_from_commit steps last behind h.1 lead.1 (h.4 ∙ at_commit why h.1 rw) end next, later)

  -- from a dependency on, back to a point of the same transaction
  around : (point last : Point) (why : Why) (steps : List (Point × Option Why)) → LeadToPoint txns model ((point, Some why) ∷ steps) last → place_of_point last ≡ place_of_point point → ((r : ℕ) → last ≡ Commit r → is_read_write why ≡ true → ⊥) → IsSnapshotCycle txns model (dependency_steps ((point, Some why) ∷ steps))
  around point last why steps lead same end = (subst (LeadTo txns model (dependency_steps ((point, Some why) ∷ steps))) same (leads ((point, Some why) ∷ steps) last lead), apart ((point, Some why) ∷ steps) last why lead end)

  -- from the start of a transaction to its commit, and on
  through : (point : Point) (steps : List (Point × Option Why)) (p : ℕ) → point ≡ Start p → first_point steps point ≡ Commit p → LeadToPoint txns model steps point → IsSnapshotCycle txns model (dependency_steps steps)
  through point [] p start commit lead = absurd (start_not_commit p p (sym start ∙ commit))
  through point (step ∷ steps) p start commit lead = by step.1 lead where
    by : (why : Option Why) → LeadToPoint txns model ((step.0, why) ∷ steps) point → IsSnapshotCycle txns model (dependency_steps ((step.0, why) ∷ steps))
    by None h = absurd (start_not_commit h.0.0 p (sym h.0.1 ∙ commit))
    by (Some why) h = around step.0 point why steps h (ap place_of_point start ∙ sym (ap place_of_point commit)) (λ r bad rw. start_not_commit p r (sym start ∙ bad))

  pub is_snapshot_cycle : (steps : List (Point × Option Why)) → IsPointCycle txns model steps → IsSnapshotCycle txns model (dependency_steps steps)
  is_snapshot_cycle [] cycle = absurd cycle
  is_snapshot_cycle (step ∷ steps) cycle = by step.1 cycle where
    by : (why : Option Why) → LeadToPoint txns model ((step.0, why) ∷ steps) step.0 → IsSnapshotCycle txns model (dependency_steps ((step.0, why) ∷ steps))
    by None h = through step.0 steps h.0.0 h.0.1 h.0.2 h.1
    by (Some why) h = around step.0 step.0 why steps h refl (λ r here rw. not_at_commit why h.0.0 r (sym h.0.3 ∙ here) rw)
