-- Which entries of the schedule of a test settings can say, and what is read of them (this project's own).
use Rattle.std.specs.Prelude.{◌≤◌, map, IfSome}
use Rattle.jh_step_texts.specs.StepWritten.{step_in_order}
use Rattle.jh_gen.specs.DriverState.{max_calls}
use Rattle.jh_settings.specs.Limits.{max_time_ms}
use Rattle.jh_test_parts.specs.Test.{TestValue}
use Rattle.jh_test_parts.specs.declared.parts.TestEntry.{TestEntry}
use Rattle.jh_test_parts.specs.declared.parts.When.{When}
use Rattle.jh_test_parts.specs.declared.parts.When.TheVariants.{Calls, Milliseconds}
use Rattle.jh_settings_texts.specs.SettingsWritten.{LeadsToOthers}

-- settings can say when: after at most as many calls as a test may have, or within a day
abbrev pub IsWritableWhen : When → Type 0
IsWritableWhen (Calls n) = n ≤ max_calls
IsWritableWhen (Milliseconds n) = n ≤ max_time_ms

-- settings can say the entry: when it is due, and its step
abbrev pub IsWritableTestEntry : TestEntry → Type 0
IsWritableTestEntry entry = IsWritableWhen entry.at × LeadsToOthers entry.step

-- settings can say the time limit of the test, where it has one
abbrev pub HasWritableLimit : TestValue → Type 0
HasWritableLimit t = IfSome t.time_limit (λ ms. ms ≤ max_time_ms)

-- the same entry, with the links, nodes or bumps of its fault in order
abbrev pub test_entry_in_order : TestEntry → TestEntry
test_entry_in_order entry = record entry { step = step_in_order entry.step }

-- the same test, with the links, nodes or bumps of the faults of its schedule in order
abbrev pub test_in_order : TestValue → TestValue
test_in_order t = record t { schedule = map test_entry_in_order t.schedule }
