-- What a contract sees of what a program reads of a text (this project's own).
use Rattle.std.specs.Prelude.{◌≡◌, ◌<◌, ℕ, List, length, ◌++◌, map, Option, Some}
use Rattle.std.specs.Prelude.{None, option_map, ⊤, Bool, true, pos, int_le}
use Rattle.jh_tables.specs.declared.cells.Link.{Link}
use Rattle.jh_tables.specs.declared.cells.NodeCell.{NodeCell}
use Rattle.jh_env.specs.declared.names.NodesError.{NodesError}
use Rattle.jh_env.specs.declared.texts.EnvTextError.{EnvTextError}
use Rattle.jh_env.specs.declared.texts.EnvTextError.TheVariants.{NoNodes, TooManyNodes, BadName}
use Rattle.jh_env.specs.declared.texts.EnvTextError.TheVariants.{DuplicateName, BadEntry}
use Rattle.jh_env.specs.declared.texts.EnvTextError.TheVariants.{UnknownNode, SelfLink, BadAmount}
use Rattle.jh_env.specs.declared.texts.EnvTextError.TheVariants.{OutOfMemory}
use Rattle.jh_env.specs.declared.texts.entries.Entry.{Entry}
use Rattle.jh_env.specs.declared.starting.StartError.{StartError}
use Rattle.jh_env.specs.Cells.{link_at, node_at}
use Rattle.jh_env.specs.Starting.{StartValue, IsStartingLink, IsStartingNode}
use Rattle.jh_env.specs.Text as text
use Rattle.jh_env.specs.declared.texts.entries.LinkChange.{LinkChange}
use Rattle.jh_env.specs.TextCells.{link_after, node_after}
use Rattle.jh_env.specs.TextErrors.{is_within}

-- an entry, by the names that it borrows
abbrev pub entry_parsed : Entry → text.Entry
entry_parsed (Entry.Link from to says) = text.OfLink from.now to.now says
entry_parsed (Entry.Node node says) = text.OfNode node.now says

-- entries, by the names that they borrow
abbrev pub entries_parsed : List Entry → List text.Entry
entries_parsed entries = map entry_parsed entries

-- what is parsed, after what was parsed before
abbrev pub list_with_front : {A : Type 0} → List A → Option (List A) → Option (List A)
list_with_front front parsed = option_map (λ more. front ++ more) parsed

-- the error for names that are refused
abbrev pub nodes_error : NodesError → EnvTextError
nodes_error NodesError.NoNodes = NoNodes
nodes_error NodesError.TooManyNodes = TooManyNodes
nodes_error NodesError.BadName = BadName
nodes_error NodesError.DuplicateName = DuplicateName
nodes_error NodesError.OutOfMemory = OutOfMemory

-- why values are refused by their shape: they mean nothing, or memory is refused
abbrev pub RefusesShape : {A : Type 0} → Option A → EnvTextError → Type 0
RefusesShape parsed BadEntry = parsed ≡ None
RefusesShape parsed OutOfMemory = ⊤
RefusesShape parsed _ = ⊥

-- a link can hold this change: a delay is a natural number, a level of loss a byte
abbrev pub fits_link : LinkChange → Bool
fits_link LinkChange.Cut = true
fits_link (LinkChange.Delay ms) = int_le (pos 0) ms
fits_link (LinkChange.Loss level) = is_within (pos 0) (pos 255) level

-- the error for a cell that is not set
abbrev pub cell_error : StartError → EnvTextError
cell_error StartError.UnknownNode = UnknownNode
cell_error StartError.SelfLink = SelfLink
cell_error StartError.BadAmount = BadAmount

-- each cell may be one at the start, and there is one for each node and for each link between two
-- of them
pub record AreStarting (start : StartValue) : Type 0 where
  pub links : (a b : ℕ) (link : Link) → link_at start.cells a b ≡ Some link → IsStartingLink link
  pub nodes : (a : ℕ) (cell : NodeCell) → node_at start.cells a ≡ Some cell → IsStartingNode cell
  pub no_link : (a b : ℕ) → a < length start.names → b < length start.names
      → link_at start.cells a b ≡ None → a ≡ b
  pub no_node : (a : ℕ) → a < length start.names → node_at start.cells a ≡ None → ⊥

-- each cell becomes what the entry makes of it
pub record SetsEntry (old : StartValue) (entry : text.Entry) (new : StartValue) : Type 0 where
  pub names : new.names ≡ old.names
  pub links : (a b : ℕ)
      → link_at new.cells a b
      ≡ option_map (λ link. link_after old.names a b link entry) (link_at old.cells a b)
  pub nodes : (a : ℕ)
      → node_at new.cells a
      ≡ option_map (λ cell. node_after old.names a cell entry) (node_at old.cells a)
  pub starting : AreStarting new
