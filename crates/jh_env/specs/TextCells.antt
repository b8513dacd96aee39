-- What the text of an environment means for each link and node (this project's own).
use Rattle.std.specs.Prelude.{◌≡◌, ℕ, ◌==◌, ◌&&◌, Bool, true, false, not, nat_abs, List, length}
use Rattle.std.specs.Prelude.{if◌then◌else◌, nat_lt, fold, Option, Some, None}
use Rattle.jh_edn.specs.Edn.{Edn}
use Rattle.jh_tables.specs.declared.cells.Life.TheVariants.{Paused, Killed}
use Rattle.jh_tables.specs.declared.cells.Link.{Link}
use Rattle.jh_tables.specs.declared.cells.NodeCell.{NodeCell}
use Rattle.jh_env.specs.declared.texts.entries.LinkChange.{LinkChange}
use Rattle.jh_env.specs.declared.texts.entries.NodeChange.{NodeChange}
use Rattle.jh_env.specs.Cells.{Table, calm_link, running_node, link_at, node_at}
use Rattle.jh_env.specs.Names.{AreNodeNames, AreFew}
use Rattle.jh_env.specs.Text.{Entry, OfLink, OfNode, Shape}
use Rattle.jh_env.specs.TextErrors.{place_of, AreSound, HasShape}

-- the link with this change
abbrev pub link_with : LinkChange → Link → Link
link_with LinkChange.Cut link = record link { cut = true }
link_with (LinkChange.Delay ms) link = record link { delay = nat_abs ms }
link_with (LinkChange.Loss level) link = record link { loss = nat_abs level }

-- the node with this change
abbrev pub node_with : NodeChange → NodeCell → NodeCell
node_with NodeChange.Pause node = record node { process = Paused }
node_with NodeChange.Kill node = record node { process = Killed }
node_with (NodeChange.Clock ms) node = record node { clock = ms }

-- there is a place, and it is a
abbrev pub is_place : Option ℕ → ℕ → Bool
is_place None a = false
is_place (Some place) a = a == place

-- what an entry makes of the link from the a-th node to the b-th
abbrev pub link_after : List (List ℕ) → ℕ → ℕ → Link → Entry → Link
link_after names a b link (OfLink from to says) =
    if is_place (place_of names from) a && is_place (place_of names to) b then link_with says link
    else link
link_after names a b link (OfNode node says) = link

-- what an entry makes of the a-th node
abbrev pub node_after : List (List ℕ) → ℕ → NodeCell → Entry → NodeCell
node_after names a cell (OfLink from to says) = cell
node_after names a cell (OfNode node says) =
    if is_place (place_of names node) a then node_with says cell else cell

-- the cells are those that the entries mean: what no entry mentions is calm, and runs
pub record AreCellsOf (names : List (List ℕ)) (entries : List Entry) (cells : Table) : Type 0 where
  pub links : (a b : ℕ) → link_at cells a b
      ≡ (if nat_lt a (length names) && (nat_lt b (length names) && not (a == b))
      then Some (fold (link_after names a b) calm_link entries) else None)
  pub nodes : (a : ℕ)
      → node_at cells a
      ≡ (if nat_lt a (length names) then Some (fold (node_after names a) running_node entries)
      else None)

-- The value spells an environment: it is of a good shape, has good names and no entry in error, and
-- these are its names and its cells.
abbrev pub SpellsEnv : Edn → List (List ℕ) → Table → Type 0
SpellsEnv value names cells =
    (shape : Shape) × HasShape value shape × (shape.names ≡ names) × AreFew names
    × AreNodeNames names
    × AreSound names shape.entries × AreCellsOf names shape.entries cells
