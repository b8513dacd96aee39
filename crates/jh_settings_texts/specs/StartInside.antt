-- When the cells of an environment are as they may be at a start (this project's own).
use Rattle.std.specs.Prelude.{◌≡◌, ℕ, IfSome, Some}
use Rattle.jh_tables.specs.declared.cells.Link.{Link}
use Rattle.jh_tables.specs.declared.cells.NodeCell.{NodeCell}
use Rattle.jh_env.specs.Overlay.{EnvValue, link_of, node_of}
use Rattle.jh_env.specs.Starting.{IsStartingLink, IsStartingNode}

-- the cell of a link or a node, where there is one, is as one may be at a start
abbrev pub MayStartLink : EnvValue → ℕ → ℕ → Type 0
MayStartLink env a b = IfSome (link_of env a b) IsStartingLink

abbrev pub MayStartNode : EnvValue → ℕ → Type 0
MayStartNode env a = IfSome (node_of env a) IsStartingNode

-- Each link and each node is as it may be at a start. `CanStart` of jh_env asks for good names and a
-- cell for each node besides.
pub record HasStartingCells (env : EnvValue) : Type 0 where
  pub links : (a b : ℕ) (link : Link) → link_of env a b ≡ Some link → IsStartingLink link
  pub nodes : (a : ℕ) (cell : NodeCell) → node_of env a ≡ Some cell → IsStartingNode cell
