-- The settings of tests that differ in their seeds and their schedules alone (this project's own).
use Rattle.std.specs.Prelude.{ℕ, ℤ, List, Option}
use Rattle.toml.specs.Data.{Members}
use Rattle.jh_txn.specs.declared.model.ConsistencyModel.{ConsistencyModel}
use Rattle.jh_test_parts.specs.declared.parts.TestEntry.{TestEntry}
use Rattle.jh_test_parts.specs.Test.{TestValue, test_with_schedule}
use Rattle.jh_drive_settings.specs.Settings.{AreDriveSettings}

-- a document means this test, but with some schedule and some seed, and how its history is judged
abbrev pub AreSettingsUpToSeedAndSchedule : Members → TestValue → Option ℤ → ConsistencyModel → ℕ
    → Type 0
AreSettingsUpToSeedAndSchedule document test held consistency most_configurations =
    (schedule : List TestEntry) × (seed : ℕ)
    × AreDriveSettings document (test_with_schedule test schedule seed)
    held consistency most_configurations
