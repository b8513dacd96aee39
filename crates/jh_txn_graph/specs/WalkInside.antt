-- What a search of a graph goes by, where all nodes are alike: proofs rest on it, and no public clause
-- names it. This project's own.
use Rattle.std.specs.Prelude.{◌≡◌, ◌≢◌, ℕ, ◌+◌, ◌-◌, ◌<◌, ◌≤◌, true, Some, List, [], ◌∷◌, length}
use Rattle.std.specs.Prelude.{slice_get, slice_index_or, slice_set, Vec}
use Rattle.std.specs.declared.alloc.Global.{Global}
use Rattle.jh_txn_graph.specs.declared.walk.Walk.{Walk}
use Rattle.jh_txn.specs.declared.dependency.Step.{Step}
use Rattle.jh_txn_graph.specs.declared.walk.State.{State}
use Rattle.jh_txn_graph.specs.declared.walk.State.TheVariants.{New, Open, Done}
use Rattle.jh_txn.specs.Transactions.{includes, ComesBefore, HasNoRepeat}
use Rattle.jh_txn_graph.specs.declared.graph.OrderOrCycle.{OrderOrCycle}
use Rattle.jh_txn_graph.specs.declared.graph.OrderOrCycle.TheVariants.{Order, Cycle}
use Rattle.jh_txn_graph.specs.Graphs.{steps_to, IsStepTo}
use Rattle.jh_txn.specs.Cycles.{first_place}

-- All nodes in an order in which each step leads forwards.
pub record KeepsSteps (graph : List (Vec Step Global)) (order : List ℕ) : Type 0 where
  pub distinct : HasNoRepeat order
  pub nodes : (node : ℕ) → includes order node ≡ true → node < length graph
  pub whole : (node : ℕ) → node < length graph → includes order node ≡ true
  pub forwards : (step : Step) (node : ℕ) → IsStepTo graph step node
      → ComesBefore order step.place node

-- each step leads to the node of the next one, and the last one to this node
abbrev pub AreLinked : List (Vec Step Global) → List Step → ℕ → Type 0
AreLinked graph [] last = Unit {0}
AreLinked graph (step ∷ steps) last =
    IsStepTo graph step (first_place steps last) × AreLinked graph steps last

-- steps of which each leads to the node of the next one, and the last one to that of the first one
abbrev pub IsLoop : List (Vec Step Global) → List Step → Type 0
IsLoop graph [] = ⊥
IsLoop graph (step ∷ steps) = AreLinked graph (step ∷ steps) step.place

-- an order of all nodes that keeps all steps, or a loop of steps
abbrev pub IsOrderOrLoop : List (Vec Step Global) → OrderOrCycle → Type 0
IsOrderOrLoop graph (Order order) = KeepsSteps graph order.items
IsOrderOrLoop graph (Cycle steps) = IsLoop graph steps.items

-- how many turns a node has left: two more than it has steps where it is new, none where it is done
abbrev pub turns_at : List ℕ → ℕ → ℕ
turns_at left node = slice_index_or left node 0

abbrev pub one_fewer : List ℕ → ℕ → List ℕ
one_fewer left node = slice_set left node (turns_at left node - 1)

-- no node has more turns left than before
abbrev pub HaveFewer : List ℕ → List ℕ → Type 0
HaveFewer old new = (node : ℕ) → turns_at new node ≤ turns_at old node

abbrev pub step_count : List (Vec Step Global) → ℕ → ℕ
step_count graph node = length (steps_to graph node)

-- the step of a node whose turn it is
abbrev pub IsCurrent : List (Vec Step Global) → List ℕ → ℕ → Step → Type 0
IsCurrent graph left node step =
    (k : ℕ) × (k + turns_at left node ≡ step_count graph node + 1)
    × (slice_get (steps_to graph node) k ≡ Some step)

-- it comes from this place
abbrev pub ComesFrom : List (Vec Step Global) → List ℕ → ℕ → ℕ → Type 0
ComesFrom graph left node place =
    (step : Step) × IsCurrent graph left node step × (step.place ≡ place)

-- what a search has made of a node
abbrev pub IsState : List (Vec Step Global) → List ℕ → ℕ → State → Type 0
IsState graph left node New = turns_at left node ≡ step_count graph node + 2
IsState graph left node Open =
    (0 < turns_at left node) × (turns_at left node ≢ step_count graph node + 2)
IsState graph left node Done = turns_at left node ≡ 0

-- The nodes that are done, in order, and a path of nodes that are open: of each but the last one the
-- step whose turn it is comes from the next one.
pub record IsWalkOf (graph : List (Vec Step Global)) (left path done : List ℕ) : Type 0 where
  pub count : length left ≡ length graph
  pub few : (node : ℕ) → node < length graph → turns_at left node ≤ step_count graph node + 2
  pub on_path : (node : ℕ) → includes path node ≡ true
      → (node < length graph) × (0 < turns_at left node)
      × (turns_at left node ≤ step_count graph node + 1)
  pub is_open : (node : ℕ) → node < length graph → 0 < turns_at left node
      → turns_at left node ≤ step_count graph node + 1 → includes path node ≡ true
  pub in_done : (node : ℕ) → includes done node ≡ true
      → (node < length graph) × (turns_at left node ≡ 0)
  pub is_done : (node : ℕ) → node < length graph → turns_at left node ≡ 0 → includes done node ≡ true
  pub path_once : HasNoRepeat path
  pub done_once : HasNoRepeat done
  pub ordered : (step : Step) (node : ℕ) → includes done node ≡ true → IsStepTo graph step node
      → ComesBefore done step.place node
  pub looked_at : (node k : ℕ) (step : Step) → includes path node ≡ true
      → k + turns_at left node < step_count graph node + 1
      → slice_get (steps_to graph node) k ≡ Some step → includes done step.place ≡ true
  pub linked : (i : ℕ) → i + 1 < length path
      → ComesFrom graph left (slice_index_or path i 0) (slice_index_or path (i + 1) 0)

abbrev pub IsWalk : List (Vec Step Global) → Walk → Type 0
IsWalk graph walk = IsWalkOf graph walk.left.items walk.path.items walk.done.items

-- the last node of a path
abbrev pub top : List ℕ → ℕ
top path = slice_index_or path (length path - 1) 0

-- the place is on the path, and the step whose turn it is at the path's last node comes from there
abbrev pub IsMet : List (Vec Step Global) → Walk → ℕ → Type 0
IsMet graph walk place =
    (includes walk.path.items place ≡ true)
    × ComesFrom graph walk.left.items (top walk.path.items) place

-- The steps from the node behind the path's last one back to a place, which is on the path.
pub record IsReturning (graph : List (Vec Step Global)) (left path : List ℕ) (steps : List Step)
    (place : ℕ) : Type 0 where
  pub count : length left ≡ length graph
  pub on_path : (node : ℕ) → includes path node ≡ true
      → (node < length graph) × (0 < turns_at left node)
      × (turns_at left node ≤ step_count graph node + 1)
  pub linked : (i : ℕ) → i + 1 < length path
      → ComesFrom graph left (slice_index_or path i 0) (slice_index_or path (i + 1) 0)
  pub there : includes path place ≡ true
  pub next : ℕ
  pub joined : AreLinked graph steps next
  pub begun : first_place steps next ≡ place
  pub comes : ComesFrom graph left (top path) next
