-- The TOML document that is written of a plan, and that of a schedule alone (this project's own; the keys and
-- the kinds of value are those of the settings of a run, and for times those of the settings of a test).
use Rattle.std.specs.Prelude.{ℕ, ◌*◌, ◌/◌, ℤ, pos, List, [], ◌∷◌, ◌++◌, map, codes, Option, Some}
use Rattle.std.specs.Prelude.{None}
use Rattle.toml.specs.Data.{Data, string, integer, boolean, array, Items, Members, no_members}
use Rattle.toml.specs.Data.{member}
use Rattle.toml.specs.View.{items_of as data_items}
use Rattle.jh_edn.specs.Edn.{Edn, int, keyword, vector, items_of}
use Rattle.jh_edn.specs.Print.{print}
use Rattle.jh_env.specs.TextWritten.{edn_of_env}
use Rattle.jh_step_texts.specs.StepWritten.{edn_of_step}
use Rattle.jh_ops.specs.Requests.{workload_name}
use Rattle.jh_gen_texts.specs.GeneratorWritten.{edn_of_generator}
use Rattle.jh_simnode.specs.StoreNames.{store_name}
use Rattle.jh_simnode.specs.declared.schedule.Entry.{Entry}
use Rattle.jh_simnode.specs.Plans.{PlanValue}
use Rattle.jh_settings.specs.declared.keys.Key.{Key}
use Rattle.jh_settings.specs.Keys.{key_name}
use Rattle.jh_settings_texts.specs.declared.schedule.Spread.{Spread}

-- the text that is printed of a value of EDN
abbrev pub printed_text : Edn → Data
printed_text x = string (print x)

-- a whole number
abbrev pub whole_number : ℕ → Data
whole_number n = integer (pos n)

-- AT: after so many answered calls; or at a time, in milliseconds, where so many calls are spread over
-- so much time
abbrev pub due_value : Option Spread → ℕ → Edn
due_value None at = int (pos at)
due_value (Some spread) at =
    vector (items_of
    (keyword (codes "ms") ∷ int (pos (at * spread.milliseconds / spread.calls)) ∷ []))

-- the value of an entry: AT and STEP, over nodes of these names
abbrev pub spread_value : List (List ℕ) → Option Spread → Entry → Edn
spread_value names spread entry =
    vector (items_of (due_value spread entry.at ∷ edn_of_step names entry.step ∷ []))

-- the same as settings of a run have it
abbrev pub entry_value : List (List ℕ) → Entry → Edn
entry_value names entry = spread_value names None entry

-- the text of each entry, in order
abbrev pub spread_texts : List (List ℕ) → Option Spread → List Entry → Items
spread_texts names spread schedule =
    data_items (map (λ entry. printed_text (spread_value names spread entry)) schedule)

abbrev pub schedule_texts : List (List ℕ) → List Entry → Items
schedule_texts names schedule = spread_texts names None schedule

-- keys and what stands under them
abbrev pub keyed_members : List (Key × Data) → Members
keyed_members [] = no_members
keyed_members (m ∷ ms) = member (key_name m.0) m.1 (keyed_members ms)

-- what stands before `initial`, in the order of the keys' bytes
abbrev pub members_before_initial : PlanValue → ℕ → List (Key × Data)
members_before_initial p budget =
    (Key.Budget, whole_number budget)
    ∷ (Key.Clients, whole_number p.clients)
    ∷ (Key.Generator, printed_text (edn_of_generator p.generator)) ∷ []

-- `initial`, where something is held at first
abbrev pub initial_member : Option ℤ → List (Key × Data)
initial_member None = []
initial_member (Some z) = (Key.Initial, integer z) ∷ []

-- what stands behind it
abbrev pub members_behind_initial : PlanValue → List (Key × Data)
members_behind_initial p =
    (Key.Mode, string (codes "serial"))
    ∷ (Key.Ops, whole_number p.ops)
    ∷ (Key.Rows, whole_number p.rows)
    ∷ (Key.Schedule, array (schedule_texts p.env.names p.schedule))
    ∷ (Key.Seed, whole_number p.seed)
    ∷ (Key.Start, printed_text (edn_of_env p.env))
    ∷ (Key.Store, string (store_name p.database.store))
    ∷ (Key.TickEvery, whole_number p.tick_every)
    ∷ (Key.Volatile, boolean p.database.volatile)
    ∷ (Key.Workload, string (workload_name p.database.workload)) ∷ []

-- the document of a plan that is run serially, whose judge reaches at most so many configurations
abbrev pub document_of : PlanValue → ℕ → Members
document_of p budget =
    keyed_members
    (members_before_initial p budget
    ++ (initial_member p.database.initial ++ members_behind_initial p))

-- the document of a schedule alone
abbrev pub schedule_document : List (List ℕ) → Option Spread → List Entry → Members
schedule_document names spread schedule =
    keyed_members ((Key.Schedule, array (spread_texts names spread schedule)) ∷ [])
