-- Which settings are refused, and in which order (this project's own). What holds of the settings of
-- every command takes which values are good, or which documents are refused, as an argument.
use Rattle.std.specs.Prelude.{◌≡◌, ◌⊎◌, ℕ, List, [], ◌∷◌, IsSome, Some}
use Rattle.toml.specs.Data.{Members}
use Rattle.jh_env.specs.Overlay.{EnvValue}
use Rattle.jh_gen.specs.Generator.{Generator}
use Rattle.jh_simnode.specs.declared.schedule.Entry.{Entry}
use Rattle.jh_settings.specs.declared.error.SettingsError.{SettingsError}
use Rattle.jh_settings.specs.declared.error.SettingsError.TheVariants.{NotToml, Unknown, Missing}
use Rattle.jh_settings.specs.declared.error.SettingsError.TheVariants.{OutOfMemory}
use Rattle.jh_settings.specs.declared.keys.Key.{Key}
use Rattle.jh_settings.specs.Keys.{IsDocument, IsNoDocument, HasKnownKeys, IsFirstUnknown}
use Rattle.jh_settings.specs.Keys.{first_missing}
use Rattle.jh_settings.specs.Parsed.{IsParsedStart, parsed_store, parsed_workload}
use Rattle.jh_settings.specs.Parsed.{IsParsedGenerator, parsed_clients, parsed_ops, parsed_mode}
use Rattle.jh_settings.specs.Parsed.{parsed_volatile, parsed_initial, parsed_tick_every}
use Rattle.jh_settings.specs.Parsed.{parsed_rows, parsed_seed, parsed_budget, IsParsedSchedule}

-- The value under a key is good by itself; a key that may be missing is good where it is. How many
-- calls there are and what is held at first is looked at beside the workload, and the schedule
-- beside the nodes of the start. A key of `drive` alone is none of a run.
abbrev pub IsGood : Members → Key → Type 0
IsGood document Key.Start = (env : EnvValue) × IsParsedStart document env
IsGood document Key.Store = IsSome (parsed_store document)
IsGood document Key.Workload = IsSome (parsed_workload document)
IsGood document Key.Generator = (g : Generator) × IsParsedGenerator document g
IsGood document Key.Clients = IsSome (parsed_clients document)
IsGood document Key.Ops = IsSome (parsed_ops document)
IsGood document Key.Mode = IsSome (parsed_mode document)
IsGood document Key.Volatile = IsSome (parsed_volatile document)
IsGood document Key.Initial = IsSome (parsed_initial document)
IsGood document Key.TickEvery = IsSome (parsed_tick_every document)
IsGood document Key.Rows = IsSome (parsed_rows document)
IsGood document Key.Seed = IsSome (parsed_seed document)
IsGood document Key.Budget = IsSome (parsed_budget document)
IsGood document Key.Schedule =
    (env : EnvValue) × (entries : List Entry) × IsParsedStart document env
    × IsParsedSchedule env.names document entries
IsGood document _ = ⊥

-- each of some keys is good
abbrev pub AreGood : (Key → Type 0) → List Key → Type 0
AreGood Good [] = Unit {0}
AreGood Good (key ∷ others) = Good key × AreGood Good others

-- of some keys it is the first whose value is bad
abbrev pub IsFirstBadKey : (Key → Type 0) → List Key → Key → Type 0
IsFirstBadKey Good [] key = ⊥
IsFirstBadKey Good (other ∷ others) key =
    ((other ≡ key) × (Good key → ⊥)) ⊎ (Good other × IsFirstBadKey Good others key)

-- why the keys of a document are refused, of these keys, some of which are needed: one is unknown,
-- or else one is missing; memory may be refused for any keys
abbrev pub RefusesDocumentKeys : List Key → List Key → Members → SettingsError → Type 0
RefusesDocumentKeys keys needed document (Unknown name) = IsFirstUnknown keys document name
RefusesDocumentKeys keys needed document (Missing key) =
    HasKnownKeys keys document × (first_missing needed document ≡ Some key)
RefusesDocumentKeys keys needed document OutOfMemory = Unit {0}
RefusesDocumentKeys keys needed document _ = ⊥

-- why bytes are refused: they spell no document, or that is refused; memory may be refused for any
-- bytes
abbrev pub RefusesSpelled : (Members → SettingsError → Type 0) → List ℕ → SettingsError → Type 0
RefusesSpelled Refuses bytes NotToml = IsNoDocument bytes
RefusesSpelled Refuses bytes OutOfMemory = Unit {0}
RefusesSpelled Refuses bytes e =
    (document : Members) × IsDocument bytes document × Refuses document e
