-- The settings of a test that a document means, and why one is refused (this project's own).
use Rattle.std.specs.Prelude.{◌≡◌, ◌⊎◌, ℕ, ℤ, true, false, ◌&&◌, List, Option, Some, None, is_some}
use Rattle.std.specs.Prelude.{option_map}
use Rattle.toml.specs.Data.{Members}
use Rattle.jh_txn.specs.declared.model.ConsistencyModel.{ConsistencyModel}
use Rattle.jh_settings.specs.declared.error.SettingsError.{SettingsError}
use Rattle.jh_settings.specs.declared.error.SettingsError.TheVariants.{NotToml, Unknown, Missing}
use Rattle.jh_settings.specs.declared.error.SettingsError.TheVariants.{BadValue, OutOfMemory}
use Rattle.jh_settings.specs.declared.keys.Key.{Key}
use Rattle.jh_settings.specs.Keys.{IsDocument, HasKnownKeys, IsFirstUnknown, first_missing}
use Rattle.jh_settings.specs.Keys.{is_missing, drive_keys, needed_drive_keys}
use Rattle.jh_settings.specs.Parsed.{IsParsedStart, IsParsedGenerator, parsed_clients, parsed_seed}
use Rattle.jh_settings.specs.Parsed.{parsed_budget}
use Rattle.jh_settings.specs.Refusals.{AreGood, IsFirstBadKey, RefusesSpelled}
use Rattle.jh_test_parts.specs.Test.{TestValue, IsFitTest, FitsKeys, HasTestGenerator, FitsFinal}
use Rattle.jh_drive_settings.specs.Parsed.{parsed_test_workload, parsed_test_ops}
use Rattle.jh_drive_settings.specs.Parsed.{parsed_time_limit}
use Rattle.jh_drive_settings.specs.Parsed.{parsed_rate, parsed_threads_per_key, parsed_ops_per_key}
use Rattle.jh_drive_settings.specs.Parsed.{parsed_recovery, IsParsedFinal, parsed_test_initial}
use Rattle.jh_drive_settings.specs.Parsed.{parsed_keys, parsed_max_txn, parsed_appends_per_key}
use Rattle.jh_drive_settings.specs.Parsed.{parsed_model, IsParsedTestSchedule}
use Rattle.jh_drive_settings.specs.Refusals.{IsGoodForTest}

-- each part of a test is what a document means under its key
pub record IsParsedTest (document : Members) (test : TestValue) : Type 0 where
  pub start : IsParsedStart document test.start
  pub workload : parsed_test_workload document ≡ Some test.workload
  pub generator : IsParsedGenerator document test.generator
  pub clients : parsed_clients document ≡ Some test.clients
  pub ops : parsed_test_ops document ≡ Some test.ops
  pub time_limit : parsed_time_limit document ≡ Some test.time_limit
  pub rate : parsed_rate document ≡ Some test.rate
  -- keys are independent where both of these stand there
  pub threads_per_key : parsed_threads_per_key document ≡ Some (option_map (λ s. s.threads) test.keys)
  pub ops_per_key : parsed_ops_per_key document ≡ Some (option_map (λ s. s.calls) test.keys)
  pub recovery : parsed_recovery document ≡ Some test.recovery
  pub final : IsParsedFinal document test.final_calls
  pub keys : parsed_keys document ≡ Some test.transactions.keys
  pub max_txn : parsed_max_txn document ≡ Some test.transactions.most
  pub appends_per_key : parsed_appends_per_key document ≡ Some test.transactions.appends
  pub seed : parsed_seed document ≡ Some test.seed
  pub schedule : IsParsedTestSchedule test.start.names document test.schedule

-- final calls would ask nothing of the keys before the last ones, so there are none where keys are
-- independent
abbrev pub IsFinalAllowed : TestValue → Type 0
IsFinalAllowed test = (is_some test.keys && is_some test.final_calls) ≡ false

-- a document means this test, and how its history is judged: from what a register holds at first, by
-- this model, reaching at most so many configurations
pub record AreDriveSettings (document : Members) (test : TestValue) (held : Option ℤ)
    (consistency : ConsistencyModel) (most_configurations : ℕ) : Type 0 where
  pub known : HasKnownKeys drive_keys document
  pub parsed : IsParsedTest document test
  pub initial : parsed_test_initial document ≡ Some held
  pub model : parsed_model document ≡ Some consistency
  pub budget : parsed_budget document ≡ Some most_configurations
  pub fit : IsFitTest test
  pub allowed : IsFinalAllowed test

-- the settings that bytes spell
abbrev pub AreDriveSettingsOf : List ℕ → TestValue → Option ℤ → ConsistencyModel → ℕ → Type 0
AreDriveSettingsOf bytes test held consistency most_configurations =
    (document : Members) × IsDocument bytes document
    × AreDriveSettings document test held consistency most_configurations

-- it is the one that is missing of the two keys that say how keys are shared, and the other one is not
abbrev pub IsShareKeyMissing : Members → Key → Type 0
IsShareKeyMissing document Key.ThreadsPerKey =
    (is_missing document Key.ThreadsPerKey ≡ true) × (is_missing document Key.OpsPerKey ≡ false)
IsShareKeyMissing document Key.OpsPerKey =
    (is_missing document Key.OpsPerKey ≡ true) × (is_missing document Key.ThreadsPerKey ≡ false)
IsShareKeyMissing document _ = ⊥

-- the first key whose value does not fit the others, in a test whose values are good by themselves
abbrev pub IsFirstUnfitKey : TestValue → Key → Type 0
IsFirstUnfitKey test Key.ThreadsPerKey = FitsKeys test → ⊥
IsFirstUnfitKey test Key.Generator = FitsKeys test × (HasTestGenerator test → ⊥)
IsFirstUnfitKey test Key.Final =
    FitsKeys test × HasTestGenerator test × (FitsFinal test × IsFinalAllowed test → ⊥)
IsFirstUnfitKey test _ = ⊥

-- the first value that is bad by itself, and then what is wrong with the test
abbrev pub IsBadDriveValue : Members → Key → Type 0
IsBadDriveValue document key =
    IsFirstBadKey (IsGoodForTest document) drive_keys key
    ⊎ ((test : TestValue) × AreGood (IsGoodForTest document) drive_keys
    × IsParsedTest document test × IsFirstUnfitKey test key)

-- the first needed key, or where each value is good by itself one of the two that stand together
abbrev pub IsMissingKey : Members → Key → Type 0
IsMissingKey document key =
    (first_missing needed_drive_keys document ≡ Some key)
    ⊎ ((first_missing needed_drive_keys document ≡ None)
    × AreGood (IsGoodForTest document) drive_keys × IsShareKeyMissing document key)

-- why a document is refused: an unknown key, then a missing one, then a bad value, then a share without
-- the other, then what is wrong with the test
abbrev pub RefusesDriveDocument : Members → SettingsError → Type 0
RefusesDriveDocument document NotToml = ⊥
RefusesDriveDocument document (Unknown name) = IsFirstUnknown drive_keys document name
RefusesDriveDocument document (Missing key) =
    HasKnownKeys drive_keys document × IsMissingKey document key
RefusesDriveDocument document (BadValue key) =
    HasKnownKeys drive_keys document × (first_missing needed_drive_keys document ≡ None)
    × IsBadDriveValue document key
RefusesDriveDocument document OutOfMemory = Unit {0}

-- why bytes are refused
abbrev pub RefusesDriveSettings : List ℕ → SettingsError → Type 0
RefusesDriveSettings bytes e = RefusesSpelled RefusesDriveDocument bytes e
