-- The value that is written of an environment (this project's own): all six keys in order, and
-- under them what is not calm or not running, links by the place of their source and then of their
-- destination, nodes by place.
use Rattle.std.specs.Prelude.{ℕ, ◌==◌, Bool, false, ℤ, pos, nat_lt, List, [], ◌∷◌, map, length}
use Rattle.std.specs.Prelude.{filter_map, flat_map, if◌then◌else◌, codes, slice_get, Option, Some}
use Rattle.std.specs.Prelude.{None}
use Rattle.jh_edn.specs.Edn.{Edn, int, str, keyword, vector, mapping, items_of, members_of}
use Rattle.jh_tables.specs.declared.cells.Life.{Life}
use Rattle.jh_tables.specs.declared.cells.Life.TheVariants.{Running, Paused, Killed}
use Rattle.jh_tables.specs.declared.cells.Link.{Link}
use Rattle.jh_tables.specs.declared.cells.NodeCell.{NodeCell}
use Rattle.jh_env.specs.declared.texts.entries.Section.{Section}
use Rattle.jh_env.specs.declared.texts.entries.LinkChange.{LinkChange}
use Rattle.jh_env.specs.declared.texts.entries.NodeChange.{NodeChange}
use Rattle.jh_env.specs.Names.{node_places}
use Rattle.jh_env.specs.Overlay.{EnvValue, link_of, node_of}
use Rattle.jh_env.specs.Text.{◌>>=◌, Entry, OfLink, OfNode, keyword_of, nodes_keyword, sections}

-- what is written of a link under a key, if anything
abbrev pub link_change : Section → Link → Option LinkChange
link_change Section.Cut link = if link.cut then Some LinkChange.Cut else None
link_change Section.Slow link =
    if nat_lt 0 link.delay then Some (LinkChange.Delay (pos link.delay)) else None
link_change Section.Loss link =
    if nat_lt 0 link.loss then Some (LinkChange.Loss (pos link.loss)) else None
link_change _ link = None

-- what is written of a process, if anything
abbrev pub life_change : Life → Option NodeChange
life_change Running = None
life_change Paused = Some NodeChange.Pause
life_change Killed = Some NodeChange.Kill

-- the integer 0
abbrev pub is_zero : ℤ → Bool
is_zero (pos n) = n == 0
is_zero _ = false

-- what is written of a node under a key, if anything
abbrev pub node_change : Section → NodeCell → Option NodeChange
node_change Section.Down node = life_change node.process
node_change Section.Clock node =
    if is_zero node.clock then None else Some (NodeChange.Clock node.clock)
node_change _ node = None

-- the entry of the link from a to b under a key, if there is one
abbrev pub link_entry : EnvValue → Section → ℕ → ℕ → Option Entry
link_entry env section a b = do
  from ← slice_get env.names a
  to ← slice_get env.names b
  link ← link_of env a b
  says ← link_change section link
  Some (OfLink from to says)

-- the entry of the node a under a key, if there is one
abbrev pub node_entry : EnvValue → Section → ℕ → Option Entry
node_entry env section a = do
  name ← slice_get env.names a
  cell ← node_of env a
  says ← node_change section cell
  Some (OfNode name says)

-- the places of the nodes
abbrev pub places : EnvValue → List ℕ
places env = node_places (length env.names)

-- the entries under a key: by source and then by destination, or by node
abbrev pub entries_written : EnvValue → Section → List Entry
entries_written env Section.Down = filter_map (node_entry env Section.Down) (places env)
entries_written env Section.Clock = filter_map (node_entry env Section.Clock) (places env)
entries_written env section =
    flat_map (λ a. filter_map (link_entry env section a) (places env)) (places env)

-- the values that spell the change of a link, after its ends
abbrev pub link_amounts : LinkChange → List Edn
link_amounts LinkChange.Cut = []
link_amounts (LinkChange.Delay ms) = int ms ∷ []
link_amounts (LinkChange.Loss level) = int level ∷ []

-- the value that spells the change of a node
abbrev pub node_amount : NodeChange → Edn
node_amount NodeChange.Pause = keyword (codes "paused")
node_amount NodeChange.Kill = keyword (codes "killed")
node_amount (NodeChange.Clock ms) = int ms

-- the value that spells an entry
abbrev pub edn_of_entry : Entry → Edn
edn_of_entry (OfLink from to says) = vector (items_of (str from ∷ str to ∷ link_amounts says))
edn_of_entry (OfNode node says) = vector (items_of (str node ∷ node_amount says ∷ []))

-- a key with its entries
abbrev pub section_pair : EnvValue → Section → Edn × Edn
section_pair env section = (
  keyword (keyword_of section),
  vector
      (items_of (map edn_of_entry (entries_written env section))),
)

-- the value that spells an environment as it is now
abbrev pub edn_of_env : EnvValue → Edn
edn_of_env env =
    mapping (members_of
    ((keyword nodes_keyword, vector (items_of (map str env.names)))
    ∷ map (section_pair env) sections))
