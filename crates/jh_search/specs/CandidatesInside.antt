-- What is known of entries while a candidate is made (this project's own).
use Rattle.std.specs.Prelude.{◌≤◌, List, length}
use Rattle.std.specs.List.{All}
use Rattle.jh_nemesis.specs.Steps.{FitsNodes}
use Rattle.jh_simnode.specs.declared.schedule.Entry.{Entry}
use Rattle.jh_simnode.specs.Limits.{max_entries}
use Rattle.jh_simnode.specs.Plans.{PlanValue}
use Rattle.jh_settings_texts.specs.SettingsWritten.{IsWritableEntry}

-- A schedule of the plan may have these entries, and settings can say them where they can say the
-- plan's own.
pub record AreEntriesFor (p : PlanValue) (entries : List Entry) : Type 0 where
  pub few : length entries ≤ max_entries
  pub fit : All (λ entry. FitsNodes (length p.env.names) entry.step) entries
  pub writable : All IsWritableEntry p.schedule → All IsWritableEntry entries
