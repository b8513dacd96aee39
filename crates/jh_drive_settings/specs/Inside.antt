-- What the parts of the code say to each other (this project's own).
use Rattle.std.specs.Prelude.{◌≡◌, ◌⊎◌, ℕ, List, [], ◌∷◌, All, length, Option, Some, None, option_map}
use Rattle.toml.specs.Data.{Members}
use Rattle.jh_env.specs.Overlay.{StandsFor}
use Rattle.jh_gen.specs.View.{generator_of}
use Rattle.jh_nemesis.specs.Steps.{FitsNodes}
use Rattle.jh_settings.specs.declared.error.SettingsError.{SettingsError}
use Rattle.jh_settings.specs.declared.error.SettingsError.TheVariants.{Missing, BadValue}
use Rattle.jh_settings.specs.declared.error.SettingsError.TheVariants.{OutOfMemory}
use Rattle.jh_settings.specs.declared.keys.Key.{Key}
use Rattle.jh_settings.specs.Keys.{drive_keys}
use Rattle.jh_settings.specs.Parsed.{IsParsedStart, IsParsedGenerator, parsed_clients, parsed_seed}
use Rattle.jh_settings.specs.Parsed.{parsed_budget}
use Rattle.jh_settings.specs.Refusals.{AreGood}
use Rattle.jh_test_parts.specs.declared.parts.KeyShares.{KeyShares}
use Rattle.jh_test_parts.specs.declared.parts.TransactionShape.{TransactionShape}
use Rattle.jh_test_parts.specs.declared.test.TestError.{TestError}
use Rattle.jh_test_parts.specs.Test.{TestValue, IsFitTest, RefusesTest}
use Rattle.jh_drive_settings.specs.declared.parts.Asked.{Asked}
use Rattle.jh_drive_settings.specs.declared.parts.Details.{Details}
use Rattle.jh_drive_settings.specs.declared.parts.Pace.{Pace}
use Rattle.jh_drive_settings.specs.declared.parts.Parts.{Parts}
use Rattle.jh_drive_settings.specs.Parsed.{parsed_test_workload, parsed_test_ops}
use Rattle.jh_drive_settings.specs.Parsed.{parsed_time_limit}
use Rattle.jh_drive_settings.specs.Parsed.{parsed_rate, parsed_threads_per_key, parsed_ops_per_key}
use Rattle.jh_drive_settings.specs.Parsed.{parsed_recovery, IsParsedFinal, parsed_test_initial}
use Rattle.jh_drive_settings.specs.Parsed.{parsed_keys, parsed_max_txn, parsed_appends_per_key}
use Rattle.jh_drive_settings.specs.Parsed.{parsed_model, IsParsedTestSchedule}
use Rattle.jh_drive_settings.specs.Refusals.{IsGoodForTest}
use Rattle.jh_drive_settings.specs.Settings.{IsBadDriveValue, IsFinalAllowed, IsShareKeyMissing}

-- the keys of a test's parts, some behind others, and what a document means under them
abbrev pub asked_keys : List Key
asked_keys = Key.Start ∷ Key.Workload ∷ Key.Generator ∷ []

pub record IsParsedAsked (document : Members) (asked : Asked) : Type 0 where
  pub start : IsParsedStart document asked.environment
  pub workload : parsed_test_workload document ≡ Some asked.workload
  pub generator : IsParsedGenerator document (generator_of asked.generator)

abbrev pub pace_keys : List Key
pace_keys =
    Key.Clients ∷ Key.Ops ∷ Key.TimeLimit ∷ Key.Rate ∷ Key.ThreadsPerKey ∷ Key.OpsPerKey
    ∷ Key.Recovery ∷ []

pub record IsParsedPace (document : Members) (pace : Pace) : Type 0 where
  pub by_clients : parsed_clients document ≡ Some pace.clients
  pub so_many : parsed_test_ops document ≡ Some pace.ops
  pub until : parsed_time_limit document ≡ Some pace.time_limit
  pub at_rate : parsed_rate document ≡ Some pace.rate
  pub by_threads : parsed_threads_per_key document ≡ Some pace.threads_per_key
  pub by_calls : parsed_ops_per_key document ≡ Some pace.ops_per_key
  pub recovers : parsed_recovery document ≡ Some pace.recovery

abbrev pub shape_keys : List Key
shape_keys = Key.Keys ∷ Key.MaxTxn ∷ Key.AppendsPerKey ∷ []

pub record IsParsedShape (document : Members) (shape : TransactionShape) : Type 0 where
  pub over_keys : parsed_keys document ≡ Some shape.keys
  pub at_most : parsed_max_txn document ≡ Some shape.most
  pub of_appends : parsed_appends_per_key document ≡ Some shape.appends

abbrev pub detail_keys : List Key
detail_keys =
    Key.Initial ∷ Key.Keys ∷ Key.MaxTxn ∷ Key.AppendsPerKey ∷ Key.Model ∷ Key.Seed ∷ Key.Budget ∷ []

pub record AreParsedDetails (document : Members) (details : Details) : Type 0 where
  pub holds : parsed_test_initial document ≡ Some details.initial
  pub shape : IsParsedShape document details.transactions
  pub keeps : parsed_model document ≡ Some details.model
  pub from_seed : parsed_seed document ≡ Some details.seed
  pub within : parsed_budget document ≡ Some details.budget

pub record AreParsedParts (document : Members) (parts : Parts) : Type 0 where
  pub asked : IsParsedAsked document parts.asked
  pub pace : IsParsedPace document parts.pace
  pub final_calls : IsParsedFinal document (option_map generator_of parts.final_calls)
  pub details : AreParsedDetails document parts.details
  pub entries : IsParsedTestSchedule parts.asked.environment.names document parts.schedule.items
  pub steps : All (λ entry. FitsNodes (length parts.asked.environment.names) entry.step) parts.schedule.items
  pub calm : StandsFor parts.asked.environment []

-- the test of these parts, with keys shared so
abbrev pub test_of_parts : Parts → Option KeyShares → TestValue
test_of_parts parts shares = record {
  start = parts.asked.environment;
  workload = parts.asked.workload;
  generator = generator_of parts.asked.generator;
  final_calls = option_map generator_of parts.final_calls;
  clients = parts.pace.clients;
  ops = parts.pace.ops;
  time_limit = parts.pace.time_limit;
  rate = parts.pace.rate;
  keys = shares;
  transactions = parts.details.transactions;
  recovery = parts.pace.recovery;
  seed = parts.details.seed;
  schedule = parts.schedule.items;
}

-- the one of the two numbers that is missing, where the other one is there
abbrev pub missing_share_key : Option ℕ → Option ℕ → Option Key
missing_share_key None (Some calls) = Some Key.ThreadsPerKey
missing_share_key (Some threads) None = Some Key.OpsPerKey
missing_share_key _ _ = None

abbrev pub RefusesShares : Option ℕ → Option ℕ → SettingsError → Type 0
RefusesShares threads calls (Missing key) = missing_share_key threads calls ≡ Some key
RefusesShares threads calls _ = ⊥

-- what a refusal of the test makes of the settings
abbrev pub test_refusal : TestError → SettingsError
test_refusal TestError.BadClients = BadValue Key.Clients
test_refusal TestError.BadOps = BadValue Key.Ops
test_refusal TestError.BadKeys = BadValue Key.ThreadsPerKey
test_refusal TestError.BadGenerator = BadValue Key.Generator
test_refusal TestError.BadFinal = BadValue Key.Final
test_refusal TestError.BadSchedule = BadValue Key.Schedule
test_refusal TestError.BadTransactions = BadValue Key.Keys
test_refusal TestError.OutOfMemory = OutOfMemory

-- why a test is refused, as the settings say it
abbrev pub RefusesAsTest : TestValue → SettingsError → Type 0
RefusesAsTest test e = (error : TestError) × RefusesTest test error × (e ≡ test_refusal error)

-- and where it is fit, for its final calls
abbrev pub RefusesAllowed : TestValue → SettingsError → Type 0
RefusesAllowed test e =
    RefusesAsTest test e
    ⊎ ((e ≡ BadValue Key.Final) × IsFitTest test × (IsFinalAllowed test → ⊥))

-- why values are refused
abbrev pub RefusesDriveValues : Members → SettingsError → Type 0
RefusesDriveValues document (BadValue key) = IsBadDriveValue document key
RefusesDriveValues document (Missing key) =
    AreGood (IsGoodForTest document) drive_keys × IsShareKeyMissing document key
RefusesDriveValues document OutOfMemory = Unit {0}
RefusesDriveValues document _ = ⊥
