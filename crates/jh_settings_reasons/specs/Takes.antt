-- The keys of settings and what each takes, as a line says it (this project's own; the words are those
-- of docs/settings.md and docs/drive.md).
use Rattle.std.specs.Prelude.{ℕ, List, [], codes, Option, Some, None}
use Rattle.std.specs.Option.{option_map_or}
use Rattle.jh_settings.specs.declared.keys.Key.{Key}
use Rattle.jh_settings_reasons.specs.declared.key_texts.SettingsKind.{SettingsKind}

abbrev pub known_keys_text : SettingsKind → List ℕ
known_keys_text SettingsKind.Run =
    codes "keys: start, store, workload, generator, clients, ops, mode, volatile, initial, tick_every, rows, seed, budget, schedule"
known_keys_text SettingsKind.Test =
    codes "keys: start, workload, generator, clients, ops, time_limit, rate, threads_per_key, ops_per_key, recovery, final, initial, keys, max_txn, appends_per_key, model, seed, budget, schedule"

-- what `workload` takes
abbrev pub workload_text : SettingsKind → List ℕ
workload_text SettingsKind.Run =
    codes "workload: \"register\", \"counter\", \"set\" or \"unique-ids\""
workload_text SettingsKind.Test =
    codes "workload: \"register\", \"counter\", \"set\", \"unique-ids\" or \"list-append\""

-- what `ops` takes
abbrev pub ops_text : SettingsKind → List ℕ
ops_text SettingsKind.Run =
    codes "ops: 1 to 10,000; of a set 1 to 1,000"
ops_text SettingsKind.Test =
    codes "ops: 1 to 1,000,000"

-- what a key takes that only settings of a test have
abbrev pub test_key_text : Key → Option (List ℕ)
test_key_text Key.TimeLimit =
    Some (codes "time_limit: milliseconds, 1 to 86,400,000")
test_key_text Key.Rate =
    Some (codes "rate: calls a second, 1 to 1,000,000")
test_key_text Key.ThreadsPerKey =
    Some (codes "threads_per_key: 1 to 16, and it divides clients; with ops_per_key, not with list-append")
test_key_text Key.OpsPerKey =
    Some (codes "ops_per_key: 1 to 1,000,000; with threads_per_key, not with list-append")
test_key_text Key.Recovery =
    Some (codes "recovery: milliseconds, 0 to 3,600,000")
test_key_text Key.Final =
    Some (codes "final: a text of EDN, a generator; not where keys are independent")
test_key_text Key.Keys =
    Some (codes "keys: 1 to 1,000, and only with list-append")
test_key_text Key.MaxTxn =
    Some (codes "max_txn: 1 to 100, and only with list-append")
test_key_text Key.AppendsPerKey =
    Some (codes "appends_per_key: 1 to 10,000, and only with list-append")
test_key_text Key.Model =
    Some (codes "model: \"strict-serializable\", \"serializable\", \"strong-snapshot-isolation\" or \"snapshot-isolation\", and only with list-append")
test_key_text _ = None

-- what a key takes, where it takes the same in settings of both kinds
abbrev pub shared_text : Key → Option (List ℕ)
shared_text Key.Start =
    Some (codes "start: a text of EDN, an environment")
shared_text Key.Store =
    Some (codes "store: \"quorum\", \"lww\" or \"local\"")
shared_text Key.Generator =
    Some (codes "generator: a text of EDN, a generator")
shared_text Key.Clients =
    Some (codes "clients: 1 to 16")
shared_text Key.Mode =
    Some (codes "mode: \"threads\" or \"serial\"")
shared_text Key.Volatile =
    Some (codes "volatile: true or false")
shared_text Key.Initial =
    Some (codes "initial: an integer of 64 bits, and only of a register")
shared_text Key.TickEvery =
    Some (codes "tick_every: 0 to 10,000; 0 for never")
shared_text Key.Rows =
    Some (codes "rows: 1 to 65,536")
shared_text Key.Seed =
    Some (codes "seed: 0 to 9,223,372,036,854,775,807")
shared_text Key.Budget =
    Some (codes "budget: 0 to 10,000,000")
shared_text Key.Schedule =
    Some (codes "schedule: an array of texts of EDN, at most 1,024")
shared_text _ = None

-- what a key takes that settings of both kinds have, or those of a test alone
abbrev pub text_or_test_text : Option (List ℕ) → Key → List ℕ
text_or_test_text (Some text) key = text
text_or_test_text None key = option_map_or (λ text. text) (test_key_text key) []

-- what a key takes
abbrev pub key_takes : SettingsKind → Key → List ℕ
key_takes kind Key.Workload = workload_text kind
key_takes kind Key.Ops = ops_text kind
key_takes kind key = text_or_test_text (shared_text key) key
