use Rattle.std.proofs.Common.{◌≡◌, All, length, take}
use Rattle.toml.specs.View.{items_view}
use Rattle.jh_laws.specs.StepLines.{IsStepOver}
use Rattle.jh_test_settings_texts.specs.DocumentWritten.{test_entry_texts}
use Rattle.jh_test_settings_texts.proofs.table.entry_texts.Given as goal

abbrev pub invariant-loop-entry : goal.invariant-loop-entry
invariant-loop-entry l = record {
  texts : items_view l.values.items ≡ test_entry_texts l.nodes (take l.entry-index l.entries);
  over : All (λ entry. IsStepOver (length l.nodes) entry.step) (take l.entry-index l.entries);
}
