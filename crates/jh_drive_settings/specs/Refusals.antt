-- Which value of a test's settings is good by itself (this project's own).
use Rattle.std.specs.Prelude.{List, IsSome, Option}
use Rattle.toml.specs.Data.{Members}
use Rattle.jh_env.specs.Overlay.{EnvValue}
use Rattle.jh_gen.specs.Generator.{Generator}
use Rattle.jh_settings.specs.declared.keys.Key.{Key}
use Rattle.jh_settings.specs.Parsed.{IsParsedStart, IsParsedGenerator, parsed_clients, parsed_seed}
use Rattle.jh_settings.specs.Parsed.{parsed_budget}
use Rattle.jh_test_parts.specs.declared.parts.TestEntry.{TestEntry}
use Rattle.jh_drive_settings.specs.Parsed.{parsed_test_workload, parsed_test_ops}
use Rattle.jh_drive_settings.specs.Parsed.{parsed_time_limit}
use Rattle.jh_drive_settings.specs.Parsed.{parsed_rate, parsed_threads_per_key, parsed_ops_per_key}
use Rattle.jh_drive_settings.specs.Parsed.{parsed_recovery, IsParsedFinal, parsed_test_initial}
use Rattle.jh_drive_settings.specs.Parsed.{parsed_keys, parsed_max_txn, parsed_appends_per_key}
use Rattle.jh_drive_settings.specs.Parsed.{parsed_model, IsParsedTestSchedule}

-- The value under a key is good by itself; a key that may be missing is good where it is. What may
-- stand of some databases alone is looked at beside the workload, and the schedule beside the nodes of
-- the start. A key of `run` alone is none of a test.
abbrev pub IsGoodForTest : Members → Key → Type 0
IsGoodForTest document Key.Start = (env : EnvValue) × IsParsedStart document env
IsGoodForTest document Key.Workload = IsSome (parsed_test_workload document)
IsGoodForTest document Key.Generator = (g : Generator) × IsParsedGenerator document g
IsGoodForTest document Key.Clients = IsSome (parsed_clients document)
IsGoodForTest document Key.Ops = IsSome (parsed_test_ops document)
IsGoodForTest document Key.TimeLimit = IsSome (parsed_time_limit document)
IsGoodForTest document Key.Rate = IsSome (parsed_rate document)
IsGoodForTest document Key.ThreadsPerKey = IsSome (parsed_threads_per_key document)
IsGoodForTest document Key.OpsPerKey = IsSome (parsed_ops_per_key document)
IsGoodForTest document Key.Recovery = IsSome (parsed_recovery document)
IsGoodForTest document Key.Final = (g : Option Generator) × IsParsedFinal document g
IsGoodForTest document Key.Initial = IsSome (parsed_test_initial document)
IsGoodForTest document Key.Keys = IsSome (parsed_keys document)
IsGoodForTest document Key.MaxTxn = IsSome (parsed_max_txn document)
IsGoodForTest document Key.AppendsPerKey = IsSome (parsed_appends_per_key document)
IsGoodForTest document Key.Model = IsSome (parsed_model document)
IsGoodForTest document Key.Seed = IsSome (parsed_seed document)
IsGoodForTest document Key.Budget = IsSome (parsed_budget document)
IsGoodForTest document Key.Schedule =
    (env : EnvValue) × (entries : List TestEntry) × IsParsedStart document env
    × IsParsedTestSchedule env.names document entries
IsGoodForTest document _ = ⊥
