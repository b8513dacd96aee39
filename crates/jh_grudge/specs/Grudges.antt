-- Grudges (Jepsen's page on jepsen.nemesis: complete-grudge, bridge, majorities-ring; which node of
-- a ring sees which majority is this project's own). A grudge says which node drops the messages of
-- which; a relation here takes the node that drops first, then the node whose messages it drops.
use Rattle.std.specs.Prelude.{◌≡◌, ◌≢◌, ◌↔◌, ◌⊎◌, ℕ, ◌+◌, ◌/◌, ◌%◌, ◌<◌, ◌≤◌, List, [], length}
use Rattle.std.specs.Prelude.{drop, slice_get, slice_index_or, Some}
use Rattle.std.specs.List.{AllPairs, Contains}
use Rattle.jh_grudge.specs.Lists.{first_half}

-- The links that a grudge cuts, each from the node whose messages are dropped to the node that
-- drops them.
abbrev pub CutsExactly : (ℕ → ℕ → Type 0) → List (ℕ × ℕ) → Type 0
CutsExactly Drops links = (dst src : ℕ) → Contains links (src, dst) ↔ Drops dst src

-- one link comes before another: by source, then by destination
abbrev pub IsBefore : ℕ × ℕ → ℕ × ℕ → Type 0
IsBefore a b = (a.0 ≤ b.0) × (a.0 ≡ b.0 → a.1 < b.1)

abbrev pub IsAscending : List (ℕ × ℕ) → Type 0
IsAscending links = AllPairs IsBefore links

-- the grudge has a link
abbrev pub DropsSome : (ℕ → ℕ → Type 0) → Type 0
DropsSome Drops = (dst : ℕ) × (src : ℕ) × Drops dst src

-- a link joins two different nodes of a list
pub record JoinsTwoOf (nodes : List ℕ) (link : ℕ × ℕ) : Type 0 where
  pub from : Contains nodes link.0
  pub to : Contains nodes link.1
  pub apart : link.0 ≢ link.1

-- the component with this number has the node
abbrev pub IsIn : List (List ℕ) → ℕ → ℕ → Type 0
IsIn components number node = Contains (slice_index_or components number []) node

-- A complete grudge: nodes of different components drop each other.
abbrev pub CompleteDrops : List (List ℕ) → ℕ → ℕ → Type 0
CompleteDrops components dst src =
    (i : ℕ) × (j : ℕ) × (i ≢ j) × IsIn components i dst × IsIn components j src

-- the second half without its first node, which is the bridge
abbrev pub nodes_beyond_bridge : List ℕ → List ℕ
nodes_beyond_bridge nodes = drop (length nodes / 2 + 1) nodes

-- A bridge: the nodes on either side of it drop each other.
abbrev pub BridgeDrops : List ℕ → ℕ → ℕ → Type 0
BridgeDrops nodes dst src =
    (Contains (first_half nodes) dst × Contains (nodes_beyond_bridge nodes) src)
    ⊎ (Contains (nodes_beyond_bridge nodes) dst × Contains (first_half nodes) src)

-- the smallest whole number above half of n
abbrev pub majority : ℕ → ℕ
majority n = n / 2 + 1

-- A ring of majorities: of n nodes, the one at place i sees a majority from itself on, and drops
-- the nodes behind these, up to the one at place i + n - 1, around.
abbrev pub RingDrops : List ℕ → ℕ → ℕ → Type 0
RingDrops nodes dst src =
    (let n = length nodes in
    (i : ℕ) × (k : ℕ) × (slice_get nodes i ≡ Some dst) × (majority n ≤ k) × (k < n)
    × (slice_get nodes ((i + k) % n) ≡ Some src))
