-- How the code finds the cells that faults name, and which of them changed; `NamedCells` and `Changes`
-- have the rules. This project's own.
use Rattle.std.specs.Prelude.{◌≡◌, ℕ, List, [], map, Option, option_and_then}
use Rattle.std.specs.declared.cmp.Ordering.{Ordering}
use Rattle.std.specs.List.{list_any}
use Rattle.std.specs.List.Sorted.{IsStrictlySortedBy}
use Rattle.std.specs.Ordering.{nat_cmp, ordering_then}
use Rattle.jh_env.specs.Faults.{FaultValue, names_link, names_node}
use Rattle.jh_env.specs.Faults.FaultValue.{Cut, Slow, Loss, Fix, Pause, Kill, Bump}
use Rattle.jh_env.specs.Overlay.{EnvValue, link_of, node_of}
use Rattle.jh_nemesis.specs.Changed.{fault_names_link, fault_names_node}
use Rattle.jh_test_parts.specs.NamedCells.{PlacedLink, PlacedNode}
use Rattle.jh_test_parts.specs.Changes.{link_if_other, node_if_other}
use Rattle.jh_test_parts.specs.declared.records.ChangedLink.{ChangedLink}
use Rattle.jh_test_parts.specs.declared.records.ChangedNode.{ChangedNode}

-- the links that a fault names
abbrev pub links_of_fault : FaultValue → List (ℕ × ℕ)
links_of_fault (Cut links) = links
links_of_fault (Slow ms links) = links
links_of_fault (Loss level links) = links
links_of_fault (Fix ms links) = links
links_of_fault (Pause nodes) = []
links_of_fault (Kill nodes) = []
links_of_fault (Bump bumps) = []

-- the nodes that a fault names
abbrev pub nodes_of_fault : FaultValue → List ℕ
nodes_of_fault (Cut links) = []
nodes_of_fault (Slow ms links) = []
nodes_of_fault (Loss level links) = []
nodes_of_fault (Fix ms links) = []
nodes_of_fault (Pause nodes) = nodes
nodes_of_fault (Kill nodes) = nodes
nodes_of_fault (Bump bumps) = map (λ b. b.0) bumps

-- the order of links: by source and then by destination
abbrev pub link_cmp : (ℕ × ℕ) → (ℕ × ℕ) → Ordering
link_cmp k l = ordering_then (nat_cmp k.0 l.0) (nat_cmp k.1 l.1)

-- these are the links that the faults name, in order and each once
pub record AreNamedLinks (faults : List FaultValue) (links : List (ℕ × ℕ)) : Type 0 where
  pub order : IsStrictlySortedBy link_cmp links
  pub named : (a b : ℕ) → names_link links a b ≡ list_any (fault_names_link a b) faults

-- these are the nodes that the faults name, in order and each once
pub record AreNamedNodes (faults : List FaultValue) (nodes : List ℕ) : Type 0 where
  pub order : IsStrictlySortedBy nat_cmp nodes
  pub named : (a : ℕ) → names_node nodes a ≡ list_any (fault_names_node a) faults

-- a link with what it now is, where it is another one in this environment
abbrev pub link_if_changed : EnvValue → PlacedLink → Option ChangedLink
link_if_changed after was = option_and_then (link_if_other was.0 was.1 was.2) (link_of after was.0 was.1)

-- a node, likewise
abbrev pub node_if_changed : EnvValue → PlacedNode → Option ChangedNode
node_if_changed after was = option_and_then (node_if_other was.0 was.1) (node_of after was.0)
