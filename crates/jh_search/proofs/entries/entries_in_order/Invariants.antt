use Rattle.std.proofs.Common.{◌≡◌, map, take}
use Rattle.jh_settings_texts.specs.SettingsWritten.{entry_in_order}
use Rattle.jh_search.proofs.entries.entries_in_order.Given as goal

abbrev pub invariant-loop-entry : goal.invariant-loop-entry
invariant-loop-entry l = l.ordered.items ≡ map entry_in_order (take l.entry-index l.entries)
