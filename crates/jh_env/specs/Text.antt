-- The text of an environment, as an EDN value (this project's own; the kinds of element are those
-- of EDN's format description): a map of `:nodes`, the names, and of the entries under `:cut`,
-- `:slow`, `:loss`, `:down` and `:clock`.
use Rattle.std.specs.Prelude.{ℕ, Bool, List, [], ◌∷◌, map, if◌then◌else◌, codes, bytes_eq, Option}
use Rattle.std.specs.Prelude.{Some, None, option_map, option_and_then, ok_or, Result, Err}
use Rattle.std.specs.List.{list_all, list_any, flat_map}
use Rattle.std.specs.Option.{option_map_or}
use Rattle.jh_edn.specs.Edn.{Edn, int, str, keyword, mapping, elements_of, is_keyword, value_under}
use Rattle.jh_edn.specs.Edn.{pairs_in}
use Rattle.jh_env.specs.declared.texts.EnvTextError.{EnvTextError}
use Rattle.jh_env.specs.declared.texts.EnvTextError.TheVariants.{NotMap, UnknownKey, MissingNodes}
use Rattle.jh_env.specs.declared.texts.entries.Section.{Section}
use Rattle.jh_env.specs.declared.texts.entries.LinkChange.{LinkChange}
use Rattle.jh_env.specs.declared.texts.entries.NodeChange.{NodeChange}

infixl 10 ◌>>=◌
-- what f gives of a value, where there is one
abbrev pub ◌>>=◌ : {A B : Type 0} → Option A → (A → Option B) → Option B
o >>= f = option_and_then f o

-- an entry: the names of a link's ends, or of a node, and what is written of it
pub data Entry : Type 0 where
  OfLink : List ℕ → List ℕ → LinkChange → Entry
  OfNode : List ℕ → NodeChange → Entry

-- the text of a string
abbrev pub text_of_string : Edn → Option (List ℕ)
text_of_string (str text) = Some text
text_of_string _ = None

-- the entry that these values spell under a key
abbrev pub entry_of : Section → List Edn → Option Entry
entry_of Section.Cut (str from ∷ str to ∷ []) = Some (OfLink from to LinkChange.Cut)
entry_of Section.Slow (str from ∷ str to ∷ int ms ∷ []) =
    Some (OfLink from to (LinkChange.Delay ms))
entry_of Section.Loss (str from ∷ str to ∷ int level ∷ []) =
    Some (OfLink from to (LinkChange.Loss level))
entry_of Section.Down (str node ∷ keyword life ∷ []) =
    if bytes_eq life (codes "paused") then Some (OfNode node NodeChange.Pause)
    else if bytes_eq life (codes "killed") then Some (OfNode node NodeChange.Kill)
    else None
entry_of Section.Clock (str node ∷ int ms ∷ []) = Some (OfNode node (NodeChange.Clock ms))
entry_of _ _ = None

-- what f gives of each, where it gives something of all
abbrev pub each_of : {A B : Type 0} → (A → Option B) → List A → Option (List B)
each_of f [] = Some []
each_of f (x ∷ xs) = do
  y ← f x
  ys ← each_of f xs
  Some (y ∷ ys)

-- the keyword under which a section's entries stand, without its colon
abbrev pub keyword_of : Section → List ℕ
keyword_of Section.Cut = codes "cut"
keyword_of Section.Slow = codes "slow"
keyword_of Section.Loss = codes "loss"
keyword_of Section.Down = codes "down"
keyword_of Section.Clock = codes "clock"

-- the sections, in their order
abbrev pub sections : List Section
sections = Section.Cut ∷ Section.Slow ∷ Section.Loss ∷ Section.Down ∷ Section.Clock ∷ []

-- the keyword of the names, without its colon
abbrev pub nodes_keyword : List ℕ
nodes_keyword = codes "nodes"

-- a pair whose key is one of the six
abbrev pub has_known_key : (Edn × Edn) → Bool
has_known_key pair =
    list_any (λ name. is_keyword name pair.0) (nodes_keyword ∷ map keyword_of sections)

-- the names: strings
abbrev pub names_of : Edn → Option (List (List ℕ))
names_of value = elements_of value >>= each_of text_of_string

-- the entry that one value spells under a key: a sequence
abbrev pub entry_in : Section → Edn → Option Entry
entry_in section value = elements_of value >>= entry_of section

-- the entries of the value under a key: a sequence of them
abbrev pub entries_of : Section → Edn → Option (List Entry)
entries_of section value = elements_of value >>= each_of (entry_in section)

-- the entries of a section: a missing key means none
abbrev pub entries_under : List (Edn × Edn) → Section → Option (List Entry)
entries_under pairs section =
    option_map_or (entries_of section) (value_under (keyword_of section) pairs) (Some [])

-- the names and entries of a text
pub record Shape : Type 0 where
  pub names : List (List ℕ)
  pub entries : List Entry

-- the value under `:nodes`, and all pairs
pub record Keys : Type 0 where
  pub nodes : Edn
  pub pairs : List (Edn × Edn)

-- the keys of a text: it is a map, each key is known, and the names are there
abbrev pub text_keys : Edn → Result Keys EnvTextError
text_keys (mapping ms) =
    if list_all has_known_key (pairs_in ms)
    then ok_or (option_map (λ nodes. record { nodes = nodes; pairs = pairs_in ms })
    (value_under nodes_keyword (pairs_in ms))) MissingNodes
    else Err UnknownKey
text_keys _ = Err NotMap

-- all entries, section by section
abbrev pub all_entries : List (Edn × Edn) → Option (List Entry)
all_entries pairs =
    option_map (flat_map (λ entries. entries)) (each_of (entries_under pairs) sections)

-- the names and entries, where each value is of its shape
abbrev pub shape_of : Keys → Option Shape
shape_of keys = do
  names ← names_of keys.nodes
  entries ← all_entries keys.pairs
  Some (record { names = names; entries = entries })
