-- What the parts of the code say to each other (this project's own).
use Rattle.std.specs.Prelude.{◌≡◌, ℕ, ◌^◌, ◌<◌, ◌≤◌, ℤ, List, All, codes, length, Option, Some}
use Rattle.std.specs.Prelude.{None, IfSome}
use Rattle.std.specs.Ordering.{nat_cmp, match_ordering}
use Rattle.std.specs.Cmp.Lexicographic.{slice_cmp}
use Rattle.toml.specs.Data.{Data, string, integer, boolean, array, Members, no_members, member}
use Rattle.jh_edn.specs.Printable.{IsPrintable}
use Rattle.jh_edn.specs.Spelling.{depth_limit}
use Rattle.jh_env.specs.TextLaws.{CanStart}
use Rattle.jh_env.specs.TextWritten.{edn_of_env}
use Rattle.jh_ops.specs.declared.call.Workload.{Workload}
use Rattle.jh_ops.specs.Requests.{workload_name}
use Rattle.jh_gen.specs.GeneratorText.{parsed_generator}
use Rattle.jh_gen_texts.specs.GeneratorWritten.{edn_of_generator}
use Rattle.jh_simnode.specs.Plans.{PlanValue, IsKeptPlan}
use Rattle.jh_simnode.specs.StoreNames.{store_name}
use Rattle.jh_settings.specs.declared.keys.Key.{Key}
use Rattle.jh_settings.specs.Keys.{key_name}
use Rattle.jh_settings.specs.Limits.{max_tick_every}
use Rattle.jh_laws.specs.StepLines.{IsStepOver}
use Rattle.jh_settings_texts.specs.DocumentWritten.{printed_text, whole_number}
use Rattle.jh_settings_texts.specs.DocumentWritten.{schedule_texts}
use Rattle.jh_settings_texts.specs.SettingsWritten.{IsWritableEntry}
use Rattle.jh_settings_texts.specs.StartInside.{HasStartingCells}

-- the members with this one, at its place in the order of the keys' bytes
abbrev pub put_member : List ℕ → Data → Members → Members
put_member key value no_members = member key value no_members
put_member key value (member other held others) =
    match_ordering (slice_cmp nat_cmp key other) (member key value (member other held others))
    (member other value others) (member other held (put_member key value others))

-- the members with a key of the settings
abbrev pub put_key : Key → Data → Members → Members
put_key key value others = put_member (key_name key) value others

-- the members with those of the database and what is asked of it
abbrev pub put_cluster : PlanValue → Members → Members
put_cluster p others =
    put_key Key.Workload (string (workload_name p.database.workload))
    (put_key Key.Store (string (store_name p.database.store))
    (put_key Key.Generator (printed_text (edn_of_generator p.generator))
    (put_key Key.Start (printed_text (edn_of_env p.env)) others)))

-- the members with what is held at first, if anything
abbrev pub put_initial : Option ℤ → Members → Members
put_initial None others = others
put_initial (Some z) others = put_key Key.Initial (integer z) others

-- the members with those of how much is asked and how
abbrev pub put_load : PlanValue → Members → Members
put_load p others =
    put_initial p.database.initial
    (put_key Key.Volatile (boolean p.database.volatile)
    (put_key Key.Mode (string (codes "serial"))
    (put_key Key.Ops (whole_number p.ops)
    (put_key Key.Clients (whole_number p.clients) others))))

-- the members with those under the keys of limits
abbrev pub put_limits : PlanValue → ℕ → Members → Members
put_limits p budget others =
    put_key Key.Budget (whole_number budget)
    (put_key Key.Seed (whole_number p.seed)
    (put_key Key.Rows (whole_number p.rows)
    (put_key Key.TickEvery (whole_number p.tick_every) others)))

-- the members with the schedule
abbrev pub put_schedule : PlanValue → Members → Members
put_schedule p others =
    put_key Key.Schedule (array (schedule_texts p.env.names p.schedule)) others

-- what holds of a plan that can be written, as each that a program holds
pub record IsWhollyKnown (p : PlanValue) : Type 0 where
  pub kept : IsKeptPlan p
  pub start : CanStart p.env
  pub generator : parsed_generator (edn_of_generator p.generator) ≡ Some p.generator
  pub steps : All (λ entry. IsStepOver (length p.env.names) entry.step) p.schedule

-- only a register holds something at first, and numbers are in the ranges of their keys
pub record HasWritableNumbers (p : PlanValue) : Type 0 where
  pub initial : IfSome p.database.initial (λ _. p.database.workload ≡ Workload.Register)
  pub tick_every : p.tick_every ≤ max_tick_every
  pub seed : p.seed < 2 ^ 63

-- the start and the generator have texts that are read back
pub record HasWritableTexts (p : PlanValue) : Type 0 where
  pub start : HasStartingCells p.env
  pub generator : IsPrintable depth_limit (edn_of_generator p.generator)

-- and the numbers and the schedule can be written
pub record HasWritableLoad (p : PlanValue) : Type 0 where
  pub numbers : HasWritableNumbers p
  pub entries : All IsWritableEntry p.schedule
