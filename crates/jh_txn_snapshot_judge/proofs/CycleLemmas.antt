-- That a cycle of nodes is a cycle of dependencies, where the paths of the graph are dependencies or lead
-- from a start to its commit.
use Rattle.std.proofs.Common.{◌≡◌, ℕ, ◌+◌, ◌<◌, cond, eq-eqb, Some, None, List, [], ◌∷◌, length, refl, sym, ap, subst, ◌∙◌, inl, inr, arith}
use Rattle.std.specs.Prelude.{Vec}
use Rattle.std.specs.declared.alloc.Global.{Global}
use Rattle.std.proofs.lemmas.Bool.{cases_eq, ne_eqb}
use Rattle.jh_txn.specs.declared.dependency.Step.{Step}
use Rattle.jh_txn.specs.declared.dependency.Why.{Why}
use Rattle.jh_txn.specs.declared.dependency.Why.TheVariants.{FirstCommitter, ReadWrite, RealTime, WriteRead, WriteWrite}
use Rattle.jh_txn.specs.declared.model.ConsistencyModel.{ConsistencyModel}
use Rattle.jh_txn.specs.declared.txn.Txn.{Txn}
use Rattle.jh_txn.specs.Cycles.{IsSnapshotCycle, first_place}
use Rattle.jh_txn.specs.Keeping.{leaves_at, arrives_at}
use Rattle.jh_txn.specs.SnapshotCheckInside.{place_of_point}
use Rattle.jh_txn_graph.specs.Graphs.{HasPath, IsCycleOfPaths, LeadByPaths}
use Rattle.jh_txn_points.specs.Laws.{IsStepOfNodes}
use Rattle.jh_txn_seen.proofs.KnownLemmas.{must_below}
use Rattle.jh_txn_snapshot_judge.specs.Nodes.{point_at, point_steps, why_to}
use Rattle.jh_txn_snapshot_judge.proofs.NodeLemmas.{at_node, commit_at, start_at}
use Rattle.jh_txn_snapshots.specs.PointCycles.{IsPointCycle, IsPointStep, LeadToPoint, dependency_steps, first_point}
use Rattle.jh_txn_snapshots.proofs.PointCycleLemmas.{is_snapshot_cycle}

pub leaving_of : (P : ℕ → Type 0) (why : Why) (p : ℕ) → P p → P (place_of_point (leaves_at why p))
leaving_of P (WriteRead k e) p h = h
leaving_of P (WriteWrite k e) p h = h
leaving_of P (FirstCommitter k e) p h = h
leaving_of P (ReadWrite k e) p h = h
leaving_of P RealTime p h = h

pub arriving_of : (P : ℕ → Type 0) (why : Why) (p : ℕ) → P p → P (place_of_point (arrives_at why p))
arriving_of P (WriteRead k e) p h = h
arriving_of P (WriteWrite k e) p h = h
arriving_of P (FirstCommitter k e) p h = h
arriving_of P (ReadWrite k e) p h = h
arriving_of P RealTime p h = h

module _ (txns : List Txn) (model : ConsistencyModel) (graph : List (Vec Step Global)) (paths : (from : ℕ) (why : Why) (to : ℕ) → from < length txns + length txns → to < length txns + length txns → HasPath graph (length txns + length txns) from why to → IsStepOfNodes txns model from why to) where
  step_point : (step : Step) (to : ℕ) → step.place < length txns + length txns → to < length txns + length txns → HasPath graph (length txns + length txns) step.place step.why to → IsPointStep txns model (point_at (length txns) step.place) (why_to (length txns) step to) (point_at (length txns) to)
  step_point step to low below path =
      let n = length txns in
      elim (cases_eq to (n + step.place)) as (λ _. IsPointStep txns model (point_at n step.place) (why_to n step to) (point_at n to)) [
        | inl same ↦
            let under : step.place < n = omega (arith, same, below) in
            let is : why_to n step to ≡ None = ap (λ b. cond b None (Some step.why)) (eq-eqb to (n + step.place) same) in
            subst (λ w. IsPointStep txns model (point_at n step.place) w (point_at n to)) (sym is) (step.place, start_at n step.place under, ap (point_at n) same ∙ commit_at n step.place)
        | inr differ ↦
            let is : why_to n step to ≡ Some step.why = ap (λ b. cond b None (Some step.why)) (ne_eqb to (n + step.place) differ) in
            subst (λ w. IsPointStep txns model (point_at n step.place) w (point_at n to)) (sym is)
            (elim (paths step.place step.why to low below path) as (λ _. IsPointStep txns model (point_at n step.place) (Some step.why) (point_at n to)) [
              | inl own ↦ absurd (differ (own.2 ∙ ap (λ p. n + p) (sym own.1)))
              | inr other ↦ (
                other.0,
                other.1,
                other.2,
                ap (point_at n) other.3 ∙ at_node n (leaves_at step.why other.0) (leaving_of (λ p. p < n) step.why other.0 (must_below txns other.0 other.2.first_there)),
                ap (point_at n) other.4 ∙ at_node n (arrives_at step.why other.1) (arriving_of (λ p. p < n) step.why other.1 (must_below txns other.1 other.2.second_there)),
              )
            ])
      ]

  first_is : (steps : List Step) (last : ℕ) → first_point (point_steps (length txns) steps last) (point_at (length txns) last) ≡ point_at (length txns) (first_place steps last)
  first_is [] last = refl
  first_is (step ∷ steps) last = refl

  first_low : (steps : List Step) (last : ℕ) → last < length txns + length txns → LeadByPaths graph (length txns + length txns) steps last → first_place steps last < length txns + length txns
  first_low [] last low lead = low
  first_low (step ∷ steps) last low lead = lead.0

  lead_points : (steps : List Step) (last : ℕ) → last < length txns + length txns → LeadByPaths graph (length txns + length txns) steps last → LeadToPoint txns model (point_steps (length txns) steps last) (point_at (length txns) last)
  lead_points [] last low lead = tt
  lead_points (step ∷ steps) last low lead = (
    subst (IsPointStep txns model (point_at (length txns) step.place) (why_to (length txns) step (first_place steps last))) (sym (first_is steps last)) (step_point step (first_place steps last) lead.0 (first_low steps last low lead.2) lead.1),
    lead_points steps last low lead.2,
  )

  point_cycle : (steps : List Step) → IsCycleOfPaths graph (length txns + length txns) steps → IsPointCycle txns model (point_steps (length txns) steps (first_place steps 0))
  point_cycle [] cycle = absurd cycle
  point_cycle (step ∷ steps) cycle = lead_points (step ∷ steps) step.place cycle.0 cycle

  pub cycle_found : (steps : List Step) → IsCycleOfPaths graph (length txns + length txns) steps → IsSnapshotCycle txns model (dependency_steps (point_steps (length txns) steps (first_place steps 0)))
  cycle_found steps cycle = is_snapshot_cycle txns model (point_steps (length txns) steps (first_place steps 0)) (point_cycle steps cycle)
