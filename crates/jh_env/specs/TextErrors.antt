-- Why the text of an environment is refused (this project's own): its keys, the shape of its
-- values, its names, then the first entry in error.
use Rattle.std.specs.Prelude.{◌≡◌, ℕ, ◌-◌, ◌<◌, ◌&&◌, Bool, true, false, not, ℤ, pos, negsuc}
use Rattle.std.specs.Prelude.{int_le, List, [], ◌∷◌, take, if◌then◌else◌, slice_get, position}
use Rattle.std.specs.Prelude.{bytes_eq, Option, Some, None, is_some, option_and_then, Ok, Err}
use Rattle.std.specs.List.{list_all, list_any}
use Rattle.std.specs.Option.{option_or}
use Rattle.jh_edn.specs.Edn.{Edn}
use Rattle.jh_tables.specs.Limits.{max_loss, max_start_delay_ms, max_start_offset_ms}
use Rattle.jh_env.specs.declared.names.NodesError.{NodesError}
use Rattle.jh_env.specs.declared.texts.EnvTextError.{EnvTextError}
use Rattle.jh_env.specs.declared.texts.EnvTextError.TheVariants.{NotMap, UnknownKey, MissingNodes}
use Rattle.jh_env.specs.declared.texts.EnvTextError.TheVariants.{BadEntry, NoNodes, TooManyNodes}
use Rattle.jh_env.specs.declared.texts.EnvTextError.TheVariants.{BadName, DuplicateName}
use Rattle.jh_env.specs.declared.texts.EnvTextError.TheVariants.{UnknownNode, SelfLink, BadAmount}
use Rattle.jh_env.specs.declared.texts.EnvTextError.TheVariants.{RepeatedEntry, OutOfMemory}
use Rattle.jh_env.specs.declared.texts.entries.LinkChange.{LinkChange}
use Rattle.jh_env.specs.declared.texts.entries.NodeChange.{NodeChange}
use Rattle.jh_env.specs.Names.{AreNodeNames, AreFew, RefusesNames}
use Rattle.jh_env.specs.Text.{Entry, OfLink, OfNode, Keys, text_keys, Shape, shape_of}

-- the place of a name among the names
abbrev pub place_of : List (List ℕ) → List ℕ → Option ℕ
place_of names name = position (bytes_eq name) names

-- the names that an entry mentions
abbrev pub names_used : Entry → List (List ℕ)
names_used (OfLink from to says) = from ∷ to ∷ []
names_used (OfNode node says) = node ∷ []

-- each name that it mentions is a node's
abbrev pub names_nodes : List (List ℕ) → Entry → Bool
names_nodes names entry = list_all (λ name. is_some (place_of names name)) (names_used entry)

-- a link from a node to itself
abbrev pub links_itself : Entry → Bool
links_itself (OfLink from to says) = bytes_eq from to
links_itself (OfNode node says) = false

-- a number from the least to the most
abbrev pub is_within : ℤ → ℤ → ℤ → Bool
is_within least most z = int_le least z && int_le z most

-- a link's change is in its range: from 0 to the greatest delay or level of loss at the start
abbrev pub is_link_change_amount : LinkChange → Bool
is_link_change_amount LinkChange.Cut = true
is_link_change_amount (LinkChange.Delay ms) = is_within (pos 0) (pos max_start_delay_ms) ms
is_link_change_amount (LinkChange.Loss level) = is_within (pos 0) (pos max_loss) level

-- a node's change is in its range: a clock that is off by so much at most, either way
abbrev pub is_node_change_amount : NodeChange → Bool
is_node_change_amount (NodeChange.Clock ms) =
    is_within (negsuc (max_start_offset_ms - 1)) (pos max_start_offset_ms) ms
is_node_change_amount _ = true

-- the change of an entry is in its range
abbrev pub is_amount : Entry → Bool
is_amount (OfLink from to says) = is_link_change_amount says
is_amount (OfNode node says) = is_node_change_amount says

-- the error of an entry by itself
abbrev pub entry_error : List (List ℕ) → Entry → Option EnvTextError
entry_error names entry =
    if not (names_nodes names entry) then Some UnknownNode
    else if links_itself entry then Some SelfLink
    else if not (is_amount entry) then Some BadAmount
    else None

-- both stand under one key
abbrev pub is_same_link_key : LinkChange → LinkChange → Bool
is_same_link_key LinkChange.Cut LinkChange.Cut = true
is_same_link_key (LinkChange.Delay x) (LinkChange.Delay y) = true
is_same_link_key (LinkChange.Loss x) (LinkChange.Loss y) = true
is_same_link_key _ _ = false

-- both stand under one key: `:clock`, or `:down`
abbrev pub is_same_node_key : NodeChange → NodeChange → Bool
is_same_node_key (NodeChange.Clock x) (NodeChange.Clock y) = true
is_same_node_key (NodeChange.Clock x) _ = false
is_same_node_key _ (NodeChange.Clock y) = false
is_same_node_key _ _ = true

-- both name the same link or the same node, under one key
abbrev pub repeats : Entry → Entry → Bool
repeats (OfLink a b x) (OfLink c d y) = bytes_eq a c && (bytes_eq b d && is_same_link_key x y)
repeats (OfNode a x) (OfNode b y) = bytes_eq a b && is_same_node_key x y
repeats _ _ = false

-- the error of an entry, judged against those before it
abbrev pub entry_error_after : List (List ℕ) → List Entry → Entry → Option EnvTextError
entry_error_after names before entry =
    option_or (entry_error names entry)
    (if list_any (repeats entry) before then Some RepeatedEntry else None)

-- the error of the entry at a place
abbrev pub entry_error_at : List (List ℕ) → List Entry → ℕ → Option EnvTextError
entry_error_at names entries place =
    option_and_then (entry_error_after names (take place entries)) (slice_get entries place)

-- no entry is in error
abbrev pub AreSound : List (List ℕ) → List Entry → Type 0
AreSound names entries = (place : ℕ) → entry_error_at names entries place ≡ None

-- the first entry in error has this error
abbrev pub HasEntryError : List (List ℕ) → List Entry → EnvTextError → Type 0
HasEntryError names entries error =
    (place : ℕ) × (entry_error_at names entries place ≡ Some error)
    × ((earlier : ℕ) → earlier < place → entry_error_at names entries earlier ≡ None)

-- these are the names and entries of the text
abbrev pub HasShape : Edn → Shape → Type 0
HasShape value shape = (keys : Keys) × (text_keys value ≡ Ok keys) × (shape_of keys ≡ Some shape)

-- its names are refused
abbrev pub RefusesTextNames : Edn → NodesError → Type 0
RefusesTextNames value error =
    (shape : Shape) × HasShape value shape × RefusesNames shape.names error

-- its first entry in error has this error
abbrev pub RefusesEntry : Edn → EnvTextError → Type 0
RefusesEntry value error =
    (shape : Shape) × HasShape value shape × AreFew shape.names × AreNodeNames shape.names
    × HasEntryError shape.names shape.entries error

-- Why a value spells no environment. Memory is needed only once its keys are good.
abbrev pub RefusesSpelledEnv : Edn → EnvTextError → Type 0
RefusesSpelledEnv value NotMap = text_keys value ≡ Err NotMap
RefusesSpelledEnv value UnknownKey = text_keys value ≡ Err UnknownKey
RefusesSpelledEnv value MissingNodes = text_keys value ≡ Err MissingNodes
RefusesSpelledEnv value BadEntry =
    (keys : Keys) × (text_keys value ≡ Ok keys) × (shape_of keys ≡ None)
RefusesSpelledEnv value NoNodes = RefusesTextNames value NodesError.NoNodes
RefusesSpelledEnv value TooManyNodes = RefusesTextNames value NodesError.TooManyNodes
RefusesSpelledEnv value BadName = RefusesTextNames value NodesError.BadName
RefusesSpelledEnv value DuplicateName = RefusesTextNames value NodesError.DuplicateName
RefusesSpelledEnv value UnknownNode = RefusesEntry value UnknownNode
RefusesSpelledEnv value SelfLink = RefusesEntry value SelfLink
RefusesSpelledEnv value BadAmount = RefusesEntry value BadAmount
RefusesSpelledEnv value RepeatedEntry = RefusesEntry value RepeatedEntry
RefusesSpelledEnv value OutOfMemory = (keys : Keys) × (text_keys value ≡ Ok keys)
