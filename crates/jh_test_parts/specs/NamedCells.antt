-- The links and nodes that some faults name, each with what it is at a moment. This project's own.
use Rattle.std.specs.Prelude.{ℕ, List, filter_map, Option, None, option_map, if◌then◌else◌}
use Rattle.std.specs.List.{flat_map, list_any}
use Rattle.jh_env.specs.Cells.{Link, NodeCell}
use Rattle.jh_env.specs.Faults.{FaultValue}
use Rattle.jh_env.specs.Overlay.{EnvValue, cells_of, link_of, node_of}
use Rattle.jh_nemesis.specs.Changed.{fault_names_link, fault_names_node}
use Rattle.jh_test_parts.specs.Changes.{places_of_nodes}

-- a link: its source, its destination and what it is
abbrev pub PlacedLink : Type 0
PlacedLink = ℕ × ℕ × Link

-- a node: its place and what it is
abbrev pub PlacedNode : Type 0
PlacedNode = ℕ × NodeCell

-- links and nodes, each with what it is
pub record NamedCellsValue : Type 0 where
  pub links : List PlacedLink
  pub nodes : List PlacedNode

-- the link from the first of two places to the second, where there is one
abbrev pub placed_link : EnvValue → ℕ × ℕ → Option PlacedLink
placed_link env ends = option_map (λ l. (ends.0, ends.1, l)) (link_of env ends.0 ends.1)

-- the node at this place, where there is one
abbrev pub placed_node : EnvValue → ℕ → Option PlacedNode
placed_node env a = option_map (λ n. (a, n)) (node_of env a)

-- the link from a to b, where there is one and one of the faults names it
abbrev pub link_named : EnvValue → List FaultValue → ℕ → ℕ → Option PlacedLink
link_named env faults a b =
    if list_any (fault_names_link a b) faults then placed_link env (a, b) else None

-- the node at this place, likewise
abbrev pub node_named : EnvValue → List FaultValue → ℕ → Option PlacedNode
node_named env faults a =
    if list_any (fault_names_node a) faults then placed_node env a else None

-- the links that the faults name, by source and then by destination
abbrev pub all_links_named : EnvValue → List FaultValue → List PlacedLink
all_links_named env faults =
    let places = places_of_nodes (cells_of env) in
    flat_map (λ a. filter_map (link_named env faults a) places) places

-- the nodes that the faults name, by place
abbrev pub all_nodes_named : EnvValue → List FaultValue → List PlacedNode
all_nodes_named env faults =
    filter_map (node_named env faults) (places_of_nodes (cells_of env))

abbrev pub cells_named : EnvValue → List FaultValue → NamedCellsValue
cells_named env faults =
    record { links = all_links_named env faults; nodes = all_nodes_named env faults }
