use Rattle.std.proofs.Common.{subst, sym}
use Rattle.std.specs.Str.{IsUtf8}
use Rattle.jh_edn.specs.Print.{print}
use Rattle.jh_test_settings_texts.proofs.EntryLemmas.{entry_utf8}
use Rattle.jh_test_settings_texts.proofs.entries.entry_text.Goals as goal

pub printed-requires : goal.printed-requires
printed-requires c =
    subst (λ x. IsUtf8 (print x)) (sym c.in_ok-value.ensures) (entry_utf8 c.args.nodes.now c.requires.named c.args.entry.now c.requires.writable.0 c.step_has_text.ensures)
