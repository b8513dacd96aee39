-- What each setting of a test of a real database means, key by key (this project's own). Settings that
-- mean what they mean of a run are those of `jh_settings`. A new setting is a new definition here, a key
-- of `drive_keys` and a line of `IsGoodForTest`.
use Rattle.std.specs.Prelude.{◌≡◌, ℕ, ℤ, pos, Bool, true, false, not, ◌||◌, List, [], ◌∷◌, codes}
use Rattle.std.specs.Prelude.{nat_le, if◌then◌else◌, Option, Some, None, option_map, option_and_then}
use Rattle.std.specs.Prelude.{Result, Ok, Err}
use Rattle.std.specs.Str.{bytes_eq}
use Rattle.toml.specs.Data.{Members}
use Rattle.jh_edn.specs.Edn.{Edn, int, keyword, elements_of}
use Rattle.jh_step_texts.specs.StepText.{parsed_step}
use Rattle.jh_nemesis.specs.declared.steps.Step.{Step}
use Rattle.jh_checkers.specs.Models.{model_named}
use Rattle.jh_gen.specs.DriverState.{max_calls, max_clients}
use Rattle.jh_gen.specs.Generator.{Generator}
use Rattle.jh_txn.specs.declared.model.ConsistencyModel.{ConsistencyModel}
use Rattle.jh_settings.specs.declared.keys.Key.{Key}
use Rattle.jh_settings.specs.Keys.{data_under, is_missing}
use Rattle.jh_settings.specs.Kinds.{needed_value, value_or_default, choice_in, choice_under}
use Rattle.jh_settings.specs.Kinds.{whole_number_in}
use Rattle.jh_settings.specs.Limits.{max_time_ms}
use Rattle.jh_settings.specs.Parsed.{IsGeneratorUnder, IsScheduleUnder, initial_of}
use Rattle.jh_test_parts.specs.Limits.{max_key_appends, max_transaction_keys, max_transaction_ops}
use Rattle.jh_test_parts.specs.Workloads.{test_workload_named}
use Rattle.jh_test_parts.specs.declared.parts.TestEntry.{TestEntry}
use Rattle.jh_test_parts.specs.declared.parts.When.{When}
use Rattle.jh_test_parts.specs.declared.workload.TestWorkload.{TestWorkload}
use Rattle.jh_drive_settings.specs.Limits.{max_rate, max_recovery_ms}
use Rattle.jh_drive_settings.specs.Limits.{default_keys, default_max_txn, default_appends_per_key}

-- what is asked of the database
abbrev pub parsed_test_workload : Members → Option TestWorkload
parsed_test_workload document = choice_under test_workload_named Key.Workload document

abbrev pub is_register_workload : TestWorkload → Bool
is_register_workload TestWorkload.Register = true
is_register_workload _ = false

abbrev pub are_transactions : TestWorkload → Bool
are_transactions TestWorkload.ListAppend = true
are_transactions _ = false

-- what is meant under a key that may stand there of some databases alone
abbrev pub where_workload : {A : Type 0} → (TestWorkload → Bool) → Key → Members → Option A → Option A
where_workload may key document parsed =
    option_and_then (λ workload. if may workload || is_missing document key then parsed else None)
    (parsed_test_workload document)

-- how many calls
abbrev pub parsed_test_ops : Members → Option ℕ
parsed_test_ops document = needed_value (whole_number_in 1 max_calls) Key.Ops document

-- a whole number, or nothing where nothing stands under the key
abbrev pub optional_number : ℕ → ℕ → Key → Members → Option (Option ℕ)
optional_number least most key document =
    value_or_default None (λ value. option_map Some (whole_number_in least most value)) key document

abbrev pub parsed_time_limit : Members → Option (Option ℕ)
parsed_time_limit document = optional_number 1 max_time_ms Key.TimeLimit document

abbrev pub parsed_rate : Members → Option (Option ℕ)
parsed_rate document = optional_number 1 max_rate Key.Rate document

-- how keys are shared: not of transactions, which have keys of their own
abbrev pub parsed_share : ℕ → Key → Members → Option (Option ℕ)
parsed_share most key document =
    where_workload (λ workload. not (are_transactions workload)) key document
    (optional_number 1 most key document)

abbrev pub parsed_threads_per_key : Members → Option (Option ℕ)
parsed_threads_per_key document = parsed_share max_clients Key.ThreadsPerKey document

abbrev pub parsed_ops_per_key : Members → Option (Option ℕ)
parsed_ops_per_key document = parsed_share max_calls Key.OpsPerKey document

abbrev pub parsed_recovery : Members → Option ℕ
parsed_recovery document = value_or_default 0 (whole_number_in 0 max_recovery_ms) Key.Recovery document

-- a generator of the final calls, or none
abbrev pub IsParsedFinal : Members → Option Generator → Type 0
IsParsedFinal document None = is_missing document Key.Final ≡ true
IsParsedFinal document (Some g) = IsGeneratorUnder Key.Final document g

abbrev pub parsed_test_initial : Members → Option (Option ℤ)
parsed_test_initial document =
    option_and_then
    (λ workload. initial_of (is_register_workload workload) (data_under Key.Initial document))
    (parsed_test_workload document)

-- how transactions are made, by default and at most; nothing may say so of anything else
abbrev pub transaction_number : ℕ → ℕ → Key → Members → Option ℕ
transaction_number default most key document =
    where_workload are_transactions key document
    (value_or_default default (whole_number_in 1 most) key document)

abbrev pub parsed_keys : Members → Option ℕ
parsed_keys document = transaction_number default_keys max_transaction_keys Key.Keys document

abbrev pub parsed_max_txn : Members → Option ℕ
parsed_max_txn document = transaction_number default_max_txn max_transaction_ops Key.MaxTxn document

abbrev pub parsed_appends_per_key : Members → Option ℕ
parsed_appends_per_key document =
    transaction_number default_appends_per_key max_key_appends Key.AppendsPerKey document

-- the consistency model of a name, as `--model` has it, and the strict one where none is named
abbrev pub model_or_strict : Members → Option ConsistencyModel
model_or_strict document =
    value_or_default ConsistencyModel.StrictSerializable (choice_in model_named) Key.Model document

abbrev pub parsed_model : Members → Option ConsistencyModel
parsed_model document =
    where_workload are_transactions Key.Model document (model_or_strict document)

-- when an entry is due: after so many answered calls, or at `[:ms T]`, so many milliseconds after the
-- test began

abbrev pub calls_due : ℤ → Option When
calls_due (pos n) = if nat_le n max_calls then Some (When.Calls n) else None
calls_due _ = None

abbrev pub milliseconds_of : ℤ → Option When
milliseconds_of (pos n) = if nat_le n max_time_ms then Some (When.Milliseconds n) else None
milliseconds_of _ = None

abbrev pub when_of_elements : List Edn → Option When
when_of_elements (keyword name ∷ int z ∷ []) =
    if bytes_eq name (codes "ms") then milliseconds_of z else None
when_of_elements _ = None

abbrev pub parsed_when : Edn → Option When
parsed_when (int z) = calls_due z
parsed_when x = option_and_then when_of_elements (elements_of x)

-- an entry, where its step is parsed
abbrev pub test_entry_at : {E : Type 0} → When → Result Step E → Option TestEntry
test_entry_at when (Ok step) = Some (record { at = when; step = step })
test_entry_at when (Err refusal) = None

-- AT and STEP, over nodes with these names
abbrev pub test_entry_of_elements : List (List ℕ) → List Edn → Option TestEntry
test_entry_of_elements names (at ∷ step ∷ []) =
    option_and_then (λ when. test_entry_at when (parsed_step names step)) (parsed_when at)
test_entry_of_elements names _ = None

-- the entry that an element means: a vector or a list of the two
abbrev pub parsed_test_entry : List (List ℕ) → Edn → Option TestEntry
parsed_test_entry names x = option_and_then (test_entry_of_elements names) (elements_of x)

abbrev pub IsParsedTestSchedule : List (List ℕ) → Members → List TestEntry → Type 0
IsParsedTestSchedule names document entries =
    IsScheduleUnder (parsed_test_entry names) document entries
