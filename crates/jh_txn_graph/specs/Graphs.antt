-- Graphs of transactions, by the steps that lead to each node. Nodes are numbers: those below a count
-- are transactions, the others are hubs, which stand between transactions so that a set of these
-- comes before another set by few steps. An order of transactions that keeps every step is a
-- topological sort, and there is one exactly where no cycle is (Kahn, "Topological sorting of large
-- networks", 1962). Hubs are this project's own.
use Rattle.std.specs.Prelude.{◌≡◌, ◌↔◌, ℕ, ◌<◌, ◌≤◌, true, Some, List, [], ◌∷◌, length, slice_get}
use Rattle.std.specs.Prelude.{unwrap_or, option_map, Vec}
use Rattle.std.specs.declared.alloc.Global.{Global}
use Rattle.jh_txn.specs.declared.dependency.Step.{Step}
use Rattle.jh_txn.specs.declared.dependency.Why.{Why}
use Rattle.jh_txn.specs.Cycles.{first_place}
use Rattle.jh_txn.specs.Transactions.{includes, ComesBefore, HasNoRepeat}
use Rattle.jh_txn_graph.specs.declared.graph.OrderOrCycle.{OrderOrCycle}
use Rattle.jh_txn_graph.specs.declared.graph.OrderOrCycle.TheVariants.{Order, Cycle}

-- the steps that lead to a node
abbrev pub steps_to : List (Vec Step Global) → ℕ → List Step
steps_to graph node = unwrap_or (option_map (λ row. row.items) (slice_get graph node)) []

-- the step leads to the node
abbrev pub IsStepTo : List (Vec Step Global) → Step → ℕ → Type 0
IsStepTo graph step node = (index : ℕ) × (slice_get (steps_to graph node) index ≡ Some step)

-- a step leads from a node to another one, for this reason
abbrev pub HasStep : List (Vec Step Global) → ℕ → Why → ℕ → Type 0
HasStep graph place why target =
    (step : Step) × IsStepTo graph step target × (step.place ≡ place) × (step.why ≡ why)

-- each step comes from a node of the graph
abbrev pub IsClosed : List (Vec Step Global) → Type 0
IsClosed graph =
    (step : Step) (node : ℕ) → IsStepTo graph step node → step.place < length graph

-- each step from a hub to a hub goes to a higher number, so that no loop is of hubs alone
abbrev pub AreHubsUpwards : List (Vec Step Global) → ℕ → Type 0
AreHubsUpwards graph count =
    (step : Step) (node : ℕ) → IsStepTo graph step node → count ≤ step.place → count ≤ node
    → step.place < node

-- a path from a node through these hubs to another node, whose last step has this reason
abbrev pub IsPath : List (Vec Step Global) → ℕ → ℕ → List ℕ → Why → ℕ → Type 0
IsPath graph count place [] why target = HasStep graph place why target
IsPath graph count place (hub ∷ hubs) why target =
    (first : Why) × HasStep graph place first hub × (count ≤ hub)
    × IsPath graph count hub hubs why target

-- one node leads to another one, by a step or through hubs
abbrev pub HasPath : List (Vec Step Global) → ℕ → ℕ → Why → ℕ → Type 0
HasPath graph count place why target =
    (hubs : List ℕ) × IsPath graph count place hubs why target

-- All transactions, each before those that it leads to.
pub record KeepsPaths (graph : List (Vec Step Global)) (count : ℕ) (order : List ℕ)
    : Type 0 where
  pub distinct : HasNoRepeat order
  pub whole : (place : ℕ) → (includes order place ≡ true) ↔ (place < count)
  pub forwards : (place target : ℕ) (why : Why) → place < count → target < count
      → HasPath graph count place why target → ComesBefore order place target

-- Each step is from a transaction, which leads to that of the next step for the step's reason, and
-- the last one to this transaction.
abbrev pub LeadByPaths : List (Vec Step Global) → ℕ → List Step → ℕ → Type 0
LeadByPaths graph count [] last = Unit {0}
LeadByPaths graph count (step ∷ steps) last =
    (step.place < count) × HasPath graph count step.place step.why (first_place steps last)
    × LeadByPaths graph count steps last

-- Steps, each from its own transaction to that of the next one, and the last one to that of the
-- first one.
abbrev pub IsCycleOfPaths : List (Vec Step Global) → ℕ → List Step → Type 0
IsCycleOfPaths graph count [] = ⊥
IsCycleOfPaths graph count (step ∷ steps) =
    LeadByPaths graph count (step ∷ steps) step.place

-- an order of the transactions that keeps all paths, or a cycle of them
abbrev pub IsOrderOrCycle : List (Vec Step Global) → ℕ → OrderOrCycle → Type 0
IsOrderOrCycle graph count (Order order) = KeepsPaths graph count order.items
IsOrderOrCycle graph count (Cycle steps) = IsCycleOfPaths graph count steps.items
