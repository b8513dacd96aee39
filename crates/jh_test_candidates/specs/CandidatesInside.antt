-- What is known of entries and of moments while a candidate is made (this project's own).
use Rattle.std.specs.Prelude.{◌≤◌, List, length}
use Rattle.std.specs.List.{All}
use Rattle.jh_nemesis.specs.Steps.{FitsNodes}
use Rattle.jh_test_parts.specs.Limits.{max_test_entries}
use Rattle.jh_test_parts.specs.Test.{TestValue}
use Rattle.jh_test_parts.specs.declared.parts.TestEntry.{TestEntry}
use Rattle.jh_test_parts.specs.declared.parts.When.{When}
use Rattle.jh_test_parts.specs.declared.parts.When.TheVariants.{Calls, Milliseconds}
use Rattle.jh_test_settings_texts.specs.WritableEntries.{HasWritableLimit, IsWritableTestEntry}
use Rattle.jh_test_settings_texts.specs.WritableEntries.{IsWritableWhen}

-- the moment is not the beginning
abbrev pub IsAfterBeginning : When → Type 0
IsAfterBeginning (Calls n) = 1 ≤ n
IsAfterBeginning (Milliseconds n) = 1 ≤ n

-- settings can say this moment of the test where they can say its time limit
abbrev pub IsWritableWithin : TestValue → When → Type 0
IsWritableWithin t at = HasWritableLimit t → IsWritableWhen at

-- A schedule of the test may have these entries, and settings can say them where they can say the
-- test's time limit and its own entries.
pub record AreEntriesForTest (t : TestValue) (entries : List TestEntry) : Type 0 where
  pub few : length entries ≤ max_test_entries
  pub fit : All (λ entry. FitsNodes (length t.start.names) entry.step) entries
  pub writable : HasWritableLimit t → All IsWritableTestEntry t.schedule
      → All IsWritableTestEntry entries
