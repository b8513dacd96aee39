-- The settings that a document means, and why one is refused (this project's own).
use Rattle.std.specs.Prelude.{◌≡◌, ◌⊎◌, ℕ, true, List, Some, None}
use Rattle.toml.specs.Data.{Members}
use Rattle.jh_ops.specs.declared.call.Workload.{Workload}
use Rattle.jh_gen.specs.Generator.{Generator}
use Rattle.jh_gen.specs.Suits.{suits}
use Rattle.jh_simnode.specs.Plans.{PlanValue, IsFit}
use Rattle.jh_settings.specs.declared.error.SettingsError.{SettingsError}
use Rattle.jh_settings.specs.declared.error.SettingsError.TheVariants.{BadValue}
use Rattle.jh_settings.specs.declared.keys.Key.{Key}
use Rattle.jh_settings.specs.declared.choices.Mode.{Mode}
use Rattle.jh_settings.specs.Keys.{IsDocument, HasKnownKeys, first_missing}
use Rattle.jh_settings.specs.Keys.{run_keys, needed_run_keys}
use Rattle.jh_settings.specs.Parsed.{IsParsedStart, parsed_store, parsed_workload}
use Rattle.jh_settings.specs.Parsed.{IsParsedGenerator, parsed_clients, parsed_ops, parsed_mode}
use Rattle.jh_settings.specs.Parsed.{parsed_volatile, parsed_initial, parsed_tick_every}
use Rattle.jh_settings.specs.Parsed.{parsed_rows, parsed_seed, parsed_budget, IsParsedSchedule}
use Rattle.jh_settings.specs.Refusals.{IsGood, AreGood, IsFirstBadKey, RefusesDocumentKeys}
use Rattle.jh_settings.specs.Refusals.{RefusesSpelled}

-- a document means this plan, in which mode it is run, and how many configurations the judge of a register reaches at most
pub record AreSettings (document : Members) (plan : PlanValue) (run_mode : Mode)
    (most_configurations : ℕ) : Type 0 where
  pub known : HasKnownKeys run_keys document
  pub start : IsParsedStart document plan.env
  pub store : parsed_store document ≡ Some plan.database.store
  pub workload : parsed_workload document ≡ Some plan.database.workload
  pub generator : IsParsedGenerator document plan.generator
  pub clients : parsed_clients document ≡ Some plan.clients
  pub ops : parsed_ops document ≡ Some plan.ops
  pub mode : parsed_mode document ≡ Some run_mode
  pub volatile : parsed_volatile document ≡ Some plan.database.volatile
  pub initial : parsed_initial document ≡ Some plan.database.initial
  pub tick_every : parsed_tick_every document ≡ Some plan.tick_every
  pub rows : parsed_rows document ≡ Some plan.rows
  pub seed : parsed_seed document ≡ Some plan.seed
  pub budget : parsed_budget document ≡ Some most_configurations
  pub schedule : IsParsedSchedule plan.env.names document plan.schedule
  pub fit : IsFit plan

-- the settings that bytes spell
abbrev pub AreSettingsOf : List ℕ → PlanValue → Mode → ℕ → Type 0
AreSettingsOf bytes plan mode most_configurations =
    (document : Members) × IsDocument bytes document
    × AreSettings document plan mode most_configurations

-- each value is good by itself, but the generator does not suit the workload and the number of
-- clients
abbrev pub IsUnsuited : Members → Type 0
IsUnsuited document =
    (workload : Workload) × (clients : ℕ) × (g : Generator) × AreGood (IsGood document) run_keys
    × (parsed_workload document ≡ Some workload)
    × (parsed_clients document ≡ Some clients) × IsParsedGenerator document g
    × (suits workload clients g ≡ true → ⊥)

-- the first value that is bad by itself, and then the generator
abbrev pub IsBadValue : Members → Key → Type 0
IsBadValue document key =
    IsFirstBadKey (IsGood document) run_keys key ⊎ ((key ≡ Key.Generator) × IsUnsuited document)

-- why a document is refused: an unknown key, then a missing one, then a bad value
abbrev pub RefusesDocument : Members → SettingsError → Type 0
RefusesDocument document (BadValue key) =
    HasKnownKeys run_keys document × (first_missing needed_run_keys document ≡ None)
    × IsBadValue document key
RefusesDocument document e = RefusesDocumentKeys run_keys needed_run_keys document e

-- why bytes are refused
abbrev pub RefusesSettings : List ℕ → SettingsError → Type 0
RefusesSettings bytes e = RefusesSpelled RefusesDocument bytes e
