-- What a step changed: each cell of the environment that it changed, with what it now is, and no
-- other. The cells are what the active faults make of those at the start. This project's own.
use Rattle.std.specs.Prelude.{ℕ, ◌==◌, ◌&&◌, Bool, true, false, List, length, flat_map}
use Rattle.std.specs.Prelude.{filter_map, Option, Some, None, option_and_then, if◌then◌else◌}
use Rattle.std.specs.Bool.{beq}
use Rattle.std.specs.List.{range_with_len}
use Rattle.std.specs.Ordering.{int_eq}
use Rattle.jh_env.specs.Cells.{Table, Life, Link, NodeCell, Running, Paused, Killed}
use Rattle.jh_env.specs.Cells.{link_at, node_at}
use Rattle.jh_env.specs.Faults.{FaultValue}
use Rattle.jh_env.specs.Overlay.{link_over, node_over}
use Rattle.jh_test_parts.specs.declared.records.ChangedLink.{ChangedLink}
use Rattle.jh_test_parts.specs.declared.records.ChangedNode.{ChangedNode}

-- the links and the nodes that a step changed, each with what it now is
pub record ChangedCells : Type 0 where
  pub links : List ChangedLink
  pub nodes : List ChangedNode

abbrev pub are_same_links : Link → Link → Bool
are_same_links l k = beq l.cut k.cut && (l.delay == k.delay && l.loss == k.loss)

abbrev pub is_same_life : Life → Life → Bool
is_same_life Running Running = true
is_same_life Paused Paused = true
is_same_life Killed Killed = true
is_same_life _ _ = false

abbrev pub are_same_nodes : NodeCell → NodeCell → Bool
are_same_nodes n m = is_same_life n.process m.process && int_eq n.clock m.clock

-- a link with what it now is, where it was another one
abbrev pub link_if_other : ℕ → ℕ → Link → Link → Option ChangedLink
link_if_other source destination was is =
    if are_same_links was is then None
    else Some (record { source = source; destination = destination; link = is })

abbrev pub node_if_other : ℕ → NodeCell → NodeCell → Option ChangedNode
node_if_other node was is =
    if are_same_nodes was is then None else Some (record { node = node; cell = is })

-- the link from a to b, where it is another one since other faults are active over this start
abbrev pub changed_link : Table → List FaultValue → List FaultValue → ℕ → ℕ → Option ChangedLink
changed_link start before after a b =
    option_and_then (λ l. link_if_other a b (link_over before a b l) (link_over after a b l))
    (link_at start a b)

abbrev pub changed_node : Table → List FaultValue → List FaultValue → ℕ → Option ChangedNode
changed_node start before after a =
    option_and_then (λ n. node_if_other a (node_over before a n) (node_over after a n))
    (node_at start a)

-- the places of the nodes
abbrev pub places_of_nodes : Table → List ℕ
places_of_nodes start = range_with_len 0 (length start.nodes)

-- the links that are others, by source and then by destination
abbrev pub changed_links : Table → List FaultValue → List FaultValue → List ChangedLink
changed_links start before after =
    flat_map (λ a. filter_map (changed_link start before after a) (places_of_nodes start)) (places_of_nodes start)

-- the nodes that are others, by place
abbrev pub changed_nodes : Table → List FaultValue → List FaultValue → List ChangedNode
changed_nodes start before after = filter_map (changed_node start before after) (places_of_nodes start)

abbrev pub changed_cells : Table → List FaultValue → List FaultValue → ChangedCells
changed_cells start before after =
    record { links = changed_links start before after; nodes = changed_nodes start before after }
