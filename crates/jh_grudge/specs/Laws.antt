-- What follows for grudges (Jepsen's page on jepsen.nemesis: a bridge talks to all, in a ring each
-- node sees a majority and no two see the same).
use Rattle.std.specs.Prelude.{◌≡◌, ◌≢◌, ◌↔◌, ℕ, ◌*◌, ◌/◌, ◌<◌, ◌≤◌, List, length, slice_get, Some}
use Rattle.std.specs.Prelude.{Vec}
use Rattle.std.specs.List.{Contains}
use Rattle.std.specs.declared.alloc.Global.{Global}
use Rattle.jh_grudge.specs.Lists.{AreDistinct, nodes_end_to_end, lists_of}
use Rattle.jh_grudge.specs.Grudges.{CompleteDrops, BridgeDrops, RingDrops}

-- A node sees itself and all nodes that it does not drop.
abbrev pub Sees : (ℕ → ℕ → Type 0) → ℕ → ℕ → Type 0
Sees Drops node other = ¬ Drops node other

-- nobody drops itself
abbrev pub CompleteSeesItself : Type 0
CompleteSeesItself =
    (components : List (Vec ℕ Global)) (node : ℕ) → AreDistinct (nodes_end_to_end components)
    → Sees (CompleteDrops (lists_of components)) node node

abbrev pub BridgeSeesItself : Type 0
BridgeSeesItself =
    (nodes : List ℕ) (node : ℕ) → AreDistinct nodes → Sees (BridgeDrops nodes) node node

abbrev pub RingSeesItself : Type 0
RingSeesItself = (nodes : List ℕ) (node : ℕ) → AreDistinct nodes → Sees (RingDrops nodes) node node

-- The bridge, the first node of the second half, sees all, and all see it.
abbrev pub BridgeTalksToAll : Type 0
BridgeTalksToAll =
    (nodes : List ℕ) (node other : ℕ) → AreDistinct nodes
    → slice_get nodes (length nodes / 2) ≡ Some node
    → Sees (BridgeDrops nodes) node other × Sees (BridgeDrops nodes) other node

-- the nodes of a list that a node sees, each once
pub record IsSight (Drops : ℕ → ℕ → Type 0) (nodes : List ℕ) (node : ℕ)
    (seen : List ℕ) : Type 0 where
  pub distinct : AreDistinct seen
  pub exact : (other : ℕ) → Contains seen other ↔ (Contains nodes other × Sees Drops node other)

-- In a ring each node sees more than half of the nodes.
abbrev pub RingSeesMajority : Type 0
RingSeesMajority =
    (nodes : List ℕ) (node : ℕ) → AreDistinct nodes → Contains nodes node
    → (seen : List ℕ) × IsSight (RingDrops nodes) nodes node seen × (length nodes < 2 * length seen)

-- In a ring of three nodes or more each node sees a node that a given other one drops.
abbrev pub RingSightsDiffer : Type 0
RingSightsDiffer =
    (nodes : List ℕ) (a b : ℕ) → AreDistinct nodes → 3 ≤ length nodes → Contains nodes a
    → Contains nodes b → a ≢ b
    → (other : ℕ) × Contains nodes other × Sees (RingDrops nodes) a other × RingDrops nodes b other
