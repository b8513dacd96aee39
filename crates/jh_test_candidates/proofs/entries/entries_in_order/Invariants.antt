use Rattle.std.proofs.Common.{◌≡◌, map, take}
use Rattle.jh_test_settings_texts.specs.WritableEntries.{test_entry_in_order}
use Rattle.jh_test_candidates.proofs.entries.entries_in_order.Given as goal

abbrev pub invariant-loop-entry : goal.invariant-loop-entry
invariant-loop-entry l = l.ordered.items ≡ map test_entry_in_order (take l.entry-index l.entries)
