-- What the parts of the code say to each other (this project's own).
use Rattle.std.specs.Prelude.{◌≡◌, ℕ, List, [], ◌∷◌, Option, Some, MatchOption}
use Rattle.toml.specs.Data.{Data, Members}
use Rattle.jh_edn.specs.Edn.{Edn}
use Rattle.jh_edn.specs.Spelling.{SpellsAll}
use Rattle.jh_env.specs.declared.texts.EnvTextError.{EnvTextError}
use Rattle.jh_settings.specs.declared.keys.Key.{Key}
use Rattle.jh_settings.specs.declared.parts.Cluster.{Cluster}
use Rattle.jh_settings.specs.declared.parts.Numbers.{Numbers}
use Rattle.jh_settings.specs.declared.parts.Load.{Load}
use Rattle.jh_gen.specs.View.{generator_of}
use Rattle.jh_simnode.specs.declared.schedule.Entry.{Entry}
use Rattle.jh_settings.specs.declared.error.SettingsError.{SettingsError}
use Rattle.jh_settings.specs.declared.error.SettingsError.TheVariants.{BadValue, OutOfMemory}
use Rattle.jh_settings.specs.Parsed.{IsMeant, IsParsedStart, parsed_store, parsed_workload}
use Rattle.jh_settings.specs.Parsed.{IsParsedGenerator, parsed_clients, parsed_ops, parsed_mode}
use Rattle.jh_settings.specs.Parsed.{parsed_volatile, parsed_initial, parsed_tick_every}
use Rattle.jh_settings.specs.Parsed.{parsed_rows, parsed_seed, parsed_budget}
use Rattle.jh_settings.specs.Settings.{IsBadValue}
use Rattle.jh_simnode.specs.Plans.{PlanValue, RefusesPlan}
use Rattle.jh_simnode.specs.declared.plan.PlanData.{PlanData}
use Rattle.jh_simnode.specs.declared.plan.PlanError.{PlanError}

-- no value is all that the text spells
abbrev pub IsNoElement : List ℕ → Type 0
IsNoElement text = (x : Edn) → SpellsAll (x ∷ []) text → ⊥

-- what is found is the entry that a value means, as a command parses its entries
abbrev pub IsEntryIn : {E : Type 0} → (Edn → Option E) → Data → Option E → Type 0
IsEntryIn {E} parsed value found =
    MatchOption found ((entry : E) → IsMeant parsed value entry → ⊥) (IsMeant parsed value)

-- what a refusal of the environment makes of the settings
abbrev pub start_refusal : EnvTextError → SettingsError
start_refusal EnvTextError.OutOfMemory = OutOfMemory
start_refusal _ = BadValue Key.Start

-- the keys of a plan's parts, some behind others, and what a document means under them
abbrev pub cluster_keys : List Key
cluster_keys = Key.Start ∷ Key.Store ∷ Key.Workload ∷ Key.Generator ∷ []

pub record IsParsedCluster (document : Members) (cluster : Cluster) : Type 0 where
  pub start : IsParsedStart document cluster.environment
  pub in_store : parsed_store document ≡ Some cluster.store
  pub of_workload : parsed_workload document ≡ Some cluster.workload
  pub source : IsParsedGenerator document (generator_of cluster.generator)

abbrev pub load_keys : List Key
load_keys = Key.Clients ∷ Key.Ops ∷ Key.Mode ∷ Key.Volatile ∷ Key.Initial ∷ []

pub record IsParsedLoad (document : Members) (load : Load) : Type 0 where
  pub by_clients : parsed_clients document ≡ Some load.clients
  pub calls : parsed_ops document ≡ Some load.ops
  pub in_mode : parsed_mode document ≡ Some load.mode
  pub forgets : parsed_volatile document ≡ Some load.volatile
  pub holds : parsed_initial document ≡ Some load.initial

abbrev pub number_keys : List Key
number_keys = Key.TickEvery ∷ Key.Rows ∷ Key.Seed ∷ Key.Budget ∷ []

pub record AreParsedNumbers (document : Members) (numbers : Numbers) : Type 0 where
  pub ticks : parsed_tick_every document ≡ Some numbers.tick_every
  pub of_rows : parsed_rows document ≡ Some numbers.rows
  pub from_seed : parsed_seed document ≡ Some numbers.seed
  pub within : parsed_budget document ≡ Some numbers.budget

-- the data of a plan of these parts
abbrev pub data_of_parts : Cluster → Load → Numbers → List Entry → PlanData
data_of_parts cluster load numbers schedule = record {
  environment = cluster.environment;
  database = record {
    store = cluster.store;
    volatile = load.volatile;
    workload = cluster.workload;
    initial = load.initial;
  };
  clients = load.clients;
  ops = load.ops;
  generator = cluster.generator;
  schedule = schedule;
  tick_every = numbers.tick_every;
  rows = numbers.rows;
  seed = numbers.seed;
}

-- why values are refused
abbrev pub RefusesDocumentValues : Members → SettingsError → Type 0
RefusesDocumentValues document (BadValue key) = IsBadValue document key
RefusesDocumentValues document OutOfMemory = Unit {0}
RefusesDocumentValues document _ = ⊥

-- what a refusal of the plan makes of the settings
abbrev pub plan_refusal : PlanError → SettingsError
plan_refusal PlanError.BadClients = BadValue Key.Clients
plan_refusal PlanError.BadOps = BadValue Key.Ops
plan_refusal PlanError.BadRows = BadValue Key.Rows
plan_refusal PlanError.BadGenerator = BadValue Key.Generator
plan_refusal PlanError.BadStep = BadValue Key.Schedule
plan_refusal PlanError.OutOfMemory = OutOfMemory

-- why a plan is refused, as the settings say it
abbrev pub RefusesWith : PlanValue → SettingsError → Type 0
RefusesWith plan e = (error : PlanError) × RefusesPlan plan error × (e ≡ plan_refusal error)
