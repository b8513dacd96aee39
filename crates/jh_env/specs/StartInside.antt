-- What a contract sees of a starting environment's fields, and what holds of them.
-- This project's own.
use Rattle.std.specs.Prelude.{◌≡◌, ◌*◌, ◌≤◌, length}
use Rattle.std.specs.List.{All}
use Rattle.jh_tables.specs.Limits.{max_nodes}
use Rattle.jh_env.specs.Names.{AreFew, AreNodeNames}
use Rattle.jh_env.specs.Starting.{StartValue, IsStartingLink, IsStartingNode}
use Rattle.jh_env.specs.declared.starting.Start.TheInside.{Inside}

-- the names and the cells
abbrev pub view_start : Inside → StartValue
view_start a = record {
  names = a.names;
  cells = record { links = a.link_cells.items; nodes = a.node_cells.items };
}

-- good names, a cell for each pair of nodes and each node, and amounts within their ranges
pub record IsSetUp (a : Inside) : Type 0 where
  pub names : AreFew a.names × AreNodeNames a.names
  pub few : length a.node_cells.items ≤ max_nodes
  pub named : length a.node_cells.items ≡ length a.names
  pub square : length a.link_cells.items ≡ length a.node_cells.items * length a.node_cells.items
  pub links : All IsStartingLink a.link_cells.items
  pub nodes : All IsStartingNode a.node_cells.items
