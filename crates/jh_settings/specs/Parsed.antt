-- What each setting of a run means, key by key (this project's own). A new setting is a new definition
-- here, a key in Keys and a line of `IsGood`. Settings of `drive` mean the same where they are here.
use Rattle.std.specs.Prelude.{◌≡◌, ℕ, ◌≤◌, ℤ, pos, Bool, true, false, List, [], ◌∷◌, length, codes}
use Rattle.std.specs.Prelude.{nat_le, if◌then◌else◌, Option, Some, None, option_map}
use Rattle.std.specs.Prelude.{option_and_then, Result, Ok, Err}
use Rattle.std.specs.Str.{bytes_eq}
use Rattle.toml.specs.Data.{Data, array, Items, no_items, item, Members, as_bool, as_integer}
use Rattle.jh_edn.specs.Edn.{Edn, int, elements_of}
use Rattle.jh_env.specs.Overlay.{EnvValue, StandsFor}
use Rattle.jh_env.specs.TextCells.{SpellsEnv}
use Rattle.jh_step_texts.specs.StepText.{parsed_step}
use Rattle.jh_nemesis.specs.declared.steps.Step.{Step}
use Rattle.jh_ops.specs.declared.call.Workload.{Workload}
use Rattle.jh_gen.specs.DriverState.{max_clients}
use Rattle.jh_gen.specs.Generator.{Generator}
use Rattle.jh_gen.specs.GeneratorText.{parsed_generator}
use Rattle.jh_ops.specs.Requests.{workload_named, max_calls_of}
use Rattle.jh_simnode.specs.Limits.{max_entries, max_rows}
use Rattle.jh_simnode.specs.StoreNames.{store_named}
use Rattle.jh_simnode.specs.declared.database.Store.{Store}
use Rattle.jh_simnode.specs.declared.schedule.Entry.{Entry}
use Rattle.jh_settings.specs.declared.keys.Key.{Key}
use Rattle.jh_settings.specs.declared.choices.Mode.{Mode}
use Rattle.jh_settings.specs.Keys.{data_under}
use Rattle.jh_settings.specs.Limits.{default_budget, default_rows, max_budget, max_due_at}
use Rattle.jh_settings.specs.Limits.{max_seed, max_tick_every}
use Rattle.jh_settings.specs.Kinds.{needed_value, value_or_default, choice_in, choice_under}
use Rattle.jh_settings.specs.Kinds.{whole_number_in, IsElement, HoldsElement}

-- an environment on which no fault is laid
abbrev pub IsParsedStart : Members → EnvValue → Type 0
IsParsedStart document env =
    (x : Edn) × HoldsElement Key.Start document x × SpellsEnv x env.names env.start
    × StandsFor env []

abbrev pub parsed_store : Members → Option Store
parsed_store document = choice_under store_named Key.Store document

abbrev pub parsed_workload : Members → Option Workload
parsed_workload document = choice_under workload_named Key.Workload document

-- the generator under a key
abbrev pub IsGeneratorUnder : Key → Members → Generator → Type 0
IsGeneratorUnder key document g =
    (x : Edn) × HoldsElement key document x × (parsed_generator x ≡ Some g)

abbrev pub IsParsedGenerator : Members → Generator → Type 0
IsParsedGenerator document g = IsGeneratorUnder Key.Generator document g

abbrev pub parsed_clients : Members → Option ℕ
parsed_clients document = needed_value (whole_number_in 1 max_clients) Key.Clients document

-- how many calls: a set may have fewer than the others
abbrev pub parsed_ops : Members → Option ℕ
parsed_ops document =
    option_and_then
    (λ workload. needed_value (whole_number_in 1 (max_calls_of workload)) Key.Ops document)
    (parsed_workload document)

-- the mode of this name
abbrev pub mode_of : List ℕ → Option Mode
mode_of choice =
    if bytes_eq choice (codes "threads") then Some Mode.Threads
    else if bytes_eq choice (codes "serial") then Some Mode.Serial
    else None

-- how the run goes: on threads by default
abbrev pub parsed_mode : Members → Option Mode
parsed_mode document = value_or_default Mode.Threads (choice_in mode_of) Key.Mode document

abbrev pub parsed_volatile : Members → Option Bool
parsed_volatile document = value_or_default false as_bool Key.Volatile document

abbrev pub is_register : Workload → Bool
is_register Workload.Register = true
is_register _ = false

-- what a register holds at first: an integer, or nothing; of anything else it may not be given
abbrev pub initial_of : Bool → Option Data → Option (Option ℤ)
initial_of of_register None = Some None
initial_of true (Some value) = option_map Some (as_integer value)
initial_of false (Some value) = None

abbrev pub parsed_initial : Members → Option (Option ℤ)
parsed_initial document =
    option_and_then (λ workload. initial_of (is_register workload) (data_under Key.Initial document))
    (parsed_workload document)

abbrev pub parsed_tick_every : Members → Option ℕ
parsed_tick_every document = value_or_default 0 (whole_number_in 0 max_tick_every) Key.TickEvery document

abbrev pub parsed_rows : Members → Option ℕ
parsed_rows document = value_or_default default_rows (whole_number_in 1 max_rows) Key.Rows document

abbrev pub parsed_seed : Members → Option ℕ
parsed_seed document = value_or_default 0 (whole_number_in 0 max_seed) Key.Seed document

abbrev pub parsed_budget : Members → Option ℕ
parsed_budget document = value_or_default default_budget (whole_number_in 0 max_budget) Key.Budget document

-- after how many calls a step is due
abbrev pub due_of : ℤ → Option ℕ
due_of (pos n) = if nat_le n max_due_at then Some n else None
due_of _ = None

-- an entry, where its step is parsed
abbrev pub entry_at : {E : Type 0} → ℕ → Result Step E → Option Entry
entry_at at (Ok step) = Some (record { at = at; step = step })
entry_at at (Err refusal) = None

-- AT and STEP, over nodes with these names
abbrev pub entry_of_elements : List (List ℕ) → List Edn → Option Entry
entry_of_elements names (int z ∷ step ∷ []) =
    option_and_then (λ at. entry_at at (parsed_step names step)) (due_of z)
entry_of_elements names _ = None

-- the entry that an element means: a vector or a list of the two
abbrev pub parsed_entry : List (List ℕ) → Edn → Option Entry
parsed_entry names x = option_and_then (entry_of_elements names) (elements_of x)

-- a value means an entry: it is a text of one element, and a command parses this element as the entry
abbrev pub IsMeant : {E : Type 0} → (Edn → Option E) → Data → E → Type 0
IsMeant parsed value entry = (x : Edn) × IsElement value x × (parsed x ≡ Some entry)

abbrev pub IsParsedEntry : List (List ℕ) → Data → Entry → Type 0
IsParsedEntry names value entry = IsMeant (parsed_entry names) value entry

-- each value means an entry, in order
abbrev pub AreEach : {E : Type 0} → (Data → E → Type 0) → Items → List E → Type 0
AreEach Means no_items [] = Unit {0}
AreEach Means (item value values) (entry ∷ entries) =
    Means value entry × AreEach Means values entries
AreEach Means _ _ = ⊥

-- and there are no more than a schedule has, at most
abbrev pub AreFewEach : {E : Type 0} → (Data → E → Type 0) → Items → List E → Type 0
AreFewEach Means values entries = AreEach Means values entries × (length entries ≤ max_entries)

-- none by default
abbrev pub IsScheduleOf : {E : Type 0} → (Data → E → Type 0) → Option Data → List E → Type 0
IsScheduleOf Means None entries = entries ≡ []
IsScheduleOf Means (Some (array values)) entries = AreFewEach Means values entries
IsScheduleOf Means (Some _) entries = ⊥

-- a document has these entries under `schedule`, as a command parses its entries
abbrev pub IsScheduleUnder : {E : Type 0} → (Edn → Option E) → Members → List E → Type 0
IsScheduleUnder parsed document entries =
    IsScheduleOf (IsMeant parsed) (data_under Key.Schedule document) entries

abbrev pub AreParsedEntries : List (List ℕ) → Items → List Entry → Type 0
AreParsedEntries names values entries = AreEach (IsParsedEntry names) values entries

abbrev pub IsScheduleValue : List (List ℕ) → Option Data → List Entry → Type 0
IsScheduleValue names value entries = IsScheduleOf (IsParsedEntry names) value entries

abbrev pub IsParsedSchedule : List (List ℕ) → Members → List Entry → Type 0
IsParsedSchedule names document entries =
    IsScheduleUnder (parsed_entry names) document entries
