-- Graphs to which steps are added: an order of the larger graph keeps the paths of the smaller one, and
-- the larger one can be searched too.
use Rattle.std.proofs.Common.{ℕ, ◌<◌, ◌≤◌, List, [], ◌∷◌, length, refl, inl, inr, arith}
use Rattle.std.specs.Prelude.{Vec}
use Rattle.std.specs.declared.alloc.Global.{Global}
use Rattle.jh_txn.specs.declared.dependency.Step.{Step}
use Rattle.jh_txn.specs.declared.dependency.Why.{Why}
use Rattle.jh_txn_edges.specs.Inside.{AddsSteps}
use Rattle.jh_txn_graph.specs.Graphs.{AreHubsUpwards, HasPath, HasStep, IsClosed, IsPath, KeepsPaths}

module _ (old new : List (Vec Step Global)) (kept : (place : ℕ) (why : Why) (target : ℕ) → HasStep old place why target → HasStep new place why target) (count : ℕ) where
  path_kept : (hubs : List ℕ) (place : ℕ) (why : Why) (target : ℕ) → IsPath old count place hubs why target → IsPath new count place hubs why target
  path_kept [] place why target path = kept place why target path
  path_kept (hub ∷ hubs) place why target path = (path.0, kept place path.0 hub path.1, path.2, path_kept hubs hub why target path.3)

  pub way_kept : (place : ℕ) (why : Why) (target : ℕ) → HasPath old count place why target → HasPath new count place why target
  way_kept place why target path = (path.0, path_kept path.0 place why target path.1)

  pub keeps_fewer : (nodes : List ℕ) → KeepsPaths new count nodes → KeepsPaths old count nodes
  keeps_fewer nodes keeps = record {
    distinct = keeps.distinct;
    whole = keeps.whole;
    forwards = λ place target why low below path. keeps.forwards place target why low below (way_kept place why target path);
  }

module _ (steps : ℕ → Why → ℕ → Type 0) (old new : List (Vec Step Global)) (added : AddsSteps steps old new) where
  pub closed_more : IsClosed old → ((place : ℕ) (why : Why) (target : ℕ) → steps place why target → place < length old) → IsClosed new
  closed_more closed low step node is = elim (added.only step.place step.why node (step, is, refl, refl)) as (λ _. step.place < length new) [
    | inl before ↦ omega (arith, closed before.0 node before.1, before.2, added.count)
    | inr here ↦ omega (arith, low step.place step.why node here, added.count)
  ]

  pub upwards_more : (count : ℕ) → AreHubsUpwards old count → ((place : ℕ) (why : Why) (target : ℕ) → steps place why target → place < count) → AreHubsUpwards new count
  upwards_more count upwards low step node is hub also = elim (added.only step.place step.why node (step, is, refl, refl)) as (λ _. step.place < node) [
    | inl before ↦
        let from : count ≤ before.0.place = omega (arith, hub, before.2) in
        omega (arith, upwards before.0 node before.1 from also, before.2)
    | inr here ↦ absurd (omega (arith, low step.place step.why node here, hub))
  ]
