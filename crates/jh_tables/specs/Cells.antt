-- The cells of an environment (this project's own): what a link and a node are like, and the table
-- of all.
use Rattle.std.specs.Prelude.{ℕ, ◌+◌, ◌*◌, ◌==◌, ◌&&◌, false, List, length, if◌then◌else◌, not}
use Rattle.std.specs.Prelude.{nat_lt, Option, Some, None, pos, slice_get, slice_index_or}
use Rattle.jh_tables.specs.declared.cells.Life.TheVariants.{Running}
use Rattle.jh_tables.specs.declared.cells.Link.{Link}
use Rattle.jh_tables.specs.declared.cells.NodeCell.{NodeCell}

-- a link as it should be
abbrev pub calm_link : Link
calm_link = record { cut = false; delay = 0; loss = 0 }

-- a node as it should be
abbrev pub running_node : NodeCell
running_node = record { process = Running; clock = pos 0 }

-- the cells of n nodes: the link from a to b stands at a * n + b, and each node at its place
pub record Table : Type 0 where
  pub links : List Link
  pub nodes : List NodeCell

-- the link from a to b: there is one between two different nodes
abbrev pub link_at : Table → ℕ → ℕ → Option Link
link_at t a b =
    if nat_lt a (length t.nodes) && (nat_lt b (length t.nodes) && not (a == b))
    then Some (slice_index_or t.links (a * length t.nodes + b) calm_link)
    else None

-- the cell of the node at this place, where there is one
abbrev pub node_at : Table → ℕ → Option NodeCell
node_at t a = slice_get t.nodes a
