-- Names of nodes (this project's own): 1 to 64 different names, each of 1 to 64 letters, digits,
-- dots, dashes and underscores.
use Rattle.std.specs.Prelude.{◌≡◌, ℕ, ◌==◌, ◌&&◌, ◌||◌, ◌<◌, ◌≤◌, Bool, true, false, List, [], ◌∷◌}
use Rattle.jh_edn.specs.Bytes.{underscore}
use Rattle.std.specs.Prelude.{◌++◌, length, nat_le, not}
use Rattle.std.specs.Char.{is_ascii_alphanumeric}
use Rattle.std.specs.List.{list_all, list_any, range_with_len}
use Rattle.std.specs.Str.{byte, bytes_eq}
use Rattle.jh_tables.specs.Limits.{max_nodes}
use Rattle.jh_env.specs.declared.names.NodesError.{NodesError}
use Rattle.jh_env.specs.declared.names.NodesError.TheVariants.{NoNodes, TooManyNodes, BadName}
use Rattle.jh_env.specs.declared.names.NodesError.TheVariants.{DuplicateName, OutOfMemory}

-- the byte of `.`
abbrev pub dot : ℕ
dot = byte "."

-- the byte of `-`
abbrev pub dash : ℕ
dash = byte "-"

-- a byte of a name
abbrev pub is_name_byte : ℕ → Bool
is_name_byte b = (is_ascii_alphanumeric b || (b == dot)) || ((b == dash) || (b == underscore))

-- how many bytes a name has, at most
abbrev pub max_name_bytes : ℕ
max_name_bytes = 64

-- a text that may name a node
abbrev pub is_node_name : List ℕ → Bool
is_node_name name =
    not (length name == 0) && (nat_le (length name) max_name_bytes && list_all is_name_byte name)

-- the name is one of these
abbrev pub is_name_among : List (List ℕ) → List ℕ → Bool
is_name_among names name = list_any (bytes_eq name) names

-- the name may stand after these: it may name a node and is none of them
abbrev pub MayFollow : List (List ℕ) → List ℕ → Type 0
MayFollow names name = (is_node_name name ≡ true) × (is_name_among names name ≡ false)

-- each may name a node, and none stands twice
abbrev pub AreNodeNames : List (List ℕ) → Type 0
AreNodeNames names =
    (before after : List (List ℕ)) (name : List ℕ) → names ≡ before ++ (name ∷ after)
    → MayFollow before name

-- as many names as an environment may have
abbrev pub AreFew : List (List ℕ) → Type 0
AreFew names = (0 < length names) × (length names ≤ max_nodes)

-- the places of so many nodes, in order
abbrev pub node_places : ℕ → List ℕ
node_places count = range_with_len 0 count

-- why a name is refused after these, in this order: it is bad, it stands there already, memory was
-- refused
abbrev pub RefusesName : List (List ℕ) → List ℕ → NodesError → Type 0
RefusesName names name BadName = is_node_name name ≡ false
RefusesName names name DuplicateName =
    (is_node_name name ≡ true) × (is_name_among names name ≡ true)
RefusesName names name OutOfMemory = MayFollow names name
RefusesName names name NoNodes = ⊥
RefusesName names name TooManyNodes = ⊥

-- the first name that is refused, and why
abbrev pub RefusesSomeName : List (List ℕ) → NodesError → Type 0
RefusesSomeName names error =
    (before after : List (List ℕ)) × (name : List ℕ) × (names ≡ before ++ (name ∷ after))
    × AreNodeNames before × RefusesName before name error

-- why names are refused: their number, else the first name that is refused
abbrev pub RefusesNames : List (List ℕ) → NodesError → Type 0
RefusesNames names NoNodes = names ≡ []
RefusesNames names TooManyNodes = max_nodes < length names
RefusesNames names BadName = AreFew names × RefusesSomeName names BadName
RefusesNames names DuplicateName = AreFew names × RefusesSomeName names DuplicateName
RefusesNames names OutOfMemory = AreFew names × RefusesSomeName names OutOfMemory
