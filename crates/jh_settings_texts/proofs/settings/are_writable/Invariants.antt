use Rattle.std.proofs.Common.{All, take}
use Rattle.jh_settings_texts.specs.SettingsWritten.{IsWritableEntry}
use Rattle.jh_settings_texts.proofs.settings.are_writable.Given as goal

abbrev pub invariant-loop-entry : goal.invariant-loop-entry
invariant-loop-entry l = All IsWritableEntry (take l.entry-index l.entries)
