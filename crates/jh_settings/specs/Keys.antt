-- The keys of the settings of `run` and of `drive`, and which keys a document has (this project's
-- own; documents as TOML 1.1 has them).
use Rattle.std.specs.Prelude.{◌≡◌, ℕ, Bool, true, false, not, List, [], ◌∷◌, codes, Contains, find}
use Rattle.std.specs.Prelude.{Option, Some, is_some}
use Rattle.std.specs.Str.{bytes_eq, IsUtf8}
use Rattle.std.specs.List.{list_all, list_any}
use Rattle.std.specs.Ordering.{nat_cmp}
use Rattle.std.specs.Cmp.Lexicographic.{slice_cmp}
use Rattle.std.specs.declared.cmp.Ordering.TheVariants.{Less}
use Rattle.toml.specs.Data.{Data, Members, no_members, member, get_member}
use Rattle.toml.specs.Parse.{parse_document}
use Rattle.jh_settings.specs.declared.keys.Key.{Key}

-- the bytes are a text in UTF-8, and this is the document that it spells
abbrev pub IsDocument : List ℕ → Members → Type 0
IsDocument bytes document = IsUtf8 bytes × (parse_document bytes ≡ Some document)

-- the bytes spell no document
abbrev pub IsNoDocument : List ℕ → Type 0
IsNoDocument bytes = (document : Members) → IsDocument bytes document → ⊥

-- a key, as a document has it
abbrev pub key_name : Key → List ℕ
key_name Key.Start = codes "start"
key_name Key.Store = codes "store"
key_name Key.Workload = codes "workload"
key_name Key.Generator = codes "generator"
key_name Key.Clients = codes "clients"
key_name Key.Ops = codes "ops"
key_name Key.TimeLimit = codes "time_limit"
key_name Key.Rate = codes "rate"
key_name Key.ThreadsPerKey = codes "threads_per_key"
key_name Key.OpsPerKey = codes "ops_per_key"
key_name Key.Recovery = codes "recovery"
key_name Key.Final = codes "final"
key_name Key.Mode = codes "mode"
key_name Key.Volatile = codes "volatile"
key_name Key.Initial = codes "initial"
key_name Key.TickEvery = codes "tick_every"
key_name Key.Rows = codes "rows"
key_name Key.Keys = codes "keys"
key_name Key.MaxTxn = codes "max_txn"
key_name Key.AppendsPerKey = codes "appends_per_key"
key_name Key.Model = codes "model"
key_name Key.Seed = codes "seed"
key_name Key.Budget = codes "budget"
key_name Key.Schedule = codes "schedule"

-- the keys of `run`, in order
abbrev pub run_keys : List Key
run_keys =
    Key.Start ∷ Key.Store ∷ Key.Workload ∷ Key.Generator ∷ Key.Clients ∷ Key.Ops ∷ Key.Mode
    ∷ Key.Volatile ∷ Key.Initial
    ∷ Key.TickEvery ∷ Key.Rows ∷ Key.Seed ∷ Key.Budget ∷ Key.Schedule ∷ []

-- those without which there is no run, in order
abbrev pub needed_run_keys : List Key
needed_run_keys =
    Key.Start ∷ Key.Store ∷ Key.Workload ∷ Key.Generator ∷ Key.Clients ∷ Key.Ops ∷ []

-- the keys of `drive`, in order
abbrev pub drive_keys : List Key
drive_keys =
    Key.Start ∷ Key.Workload ∷ Key.Generator ∷ Key.Clients ∷ Key.Ops ∷ Key.TimeLimit ∷ Key.Rate
    ∷ Key.ThreadsPerKey ∷ Key.OpsPerKey ∷ Key.Recovery ∷ Key.Final ∷ Key.Initial ∷ Key.Keys
    ∷ Key.MaxTxn ∷ Key.AppendsPerKey ∷ Key.Model ∷ Key.Seed ∷ Key.Budget ∷ Key.Schedule ∷ []

-- those without which there is no test, in order
abbrev pub needed_drive_keys : List Key
needed_drive_keys = Key.Start ∷ Key.Workload ∷ Key.Generator ∷ Key.Clients ∷ Key.Ops ∷ []

-- the value under a key
abbrev pub data_under : Key → Members → Option Data
data_under key document = get_member (key_name key) document

-- the keys that stand in a document
abbrev pub key_names_in : Members → List (List ℕ)
key_names_in no_members = []
key_names_in (member name value document) = name ∷ key_names_in document

-- one of these keys has this name
unfoldable pub is_key_name : List Key → List ℕ → Bool
is_key_name keys name = list_any (λ key. bytes_eq name (key_name key)) keys

abbrev pub HasKnownKeys : List Key → Members → Type 0
HasKnownKeys keys document = list_all (is_key_name keys) (key_names_in document) ≡ true

-- it is one of the document's unknown keys, and none of them comes before it, byte by byte
pub record IsFirstUnknown (keys : List Key) (document : Members) (name : List ℕ) : Type 0 where
  pub stands : Contains (key_names_in document) name
  pub unknown : is_key_name keys name ≡ false
  pub first : (other : List ℕ) → Contains (key_names_in document) other
      → is_key_name keys other ≡ false → slice_cmp nat_cmp other name ≡ Less → ⊥

abbrev pub is_missing : Members → Key → Bool
is_missing document key = not (is_some (data_under key document))

-- the first of these keys that a document lacks
abbrev pub first_missing : List Key → Members → Option Key
first_missing needed document = find (is_missing document) needed
