use Rattle.std.proofs.Common.{All, take}
use Rattle.jh_test_settings_texts.specs.WritableEntries.{IsWritableTestEntry}
use Rattle.jh_test_settings_texts.proofs.writable.are_writable.Given as goal

abbrev pub invariant-loop-entry : goal.invariant-loop-entry
invariant-loop-entry l = All IsWritableTestEntry (take l.entry-index l.entries)
