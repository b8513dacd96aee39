-- What the laws of the text of an environment say (this project's own).
use Rattle.std.specs.Prelude.{◌≡◌, ℕ, length, Some}
use Rattle.jh_tables.specs.declared.cells.Link.{Link}
use Rattle.jh_tables.specs.declared.cells.NodeCell.{NodeCell}
use Rattle.jh_env.specs.Cells.{Table, link_at, node_at}
use Rattle.jh_env.specs.Names.{AreNodeNames, AreFew}
use Rattle.jh_env.specs.Overlay.{EnvValue, cells_of, link_of, node_of}
use Rattle.jh_env.specs.Starting.{IsStartingLink, IsStartingNode}

-- an environment could start as this one is now: its names are good, each node has a cell, and each
-- amount is in its range
pub record CanStart (env : EnvValue) : Type 0 where
  pub few : AreFew env.names
  pub named : AreNodeNames env.names
  pub whole : length (cells_of env).nodes ≡ length env.names
  pub links : (a b : ℕ) (link : Link) → link_of env a b ≡ Some link → IsStartingLink link
  pub nodes : (a : ℕ) (cell : NodeCell) → node_of env a ≡ Some cell → IsStartingNode cell

-- the same links and nodes
pub record AreSameCells (cells others : Table) : Type 0 where
  pub links : (a b : ℕ) → link_at cells a b ≡ link_at others a b
  pub nodes : (a : ℕ) → node_at cells a ≡ node_at others a
