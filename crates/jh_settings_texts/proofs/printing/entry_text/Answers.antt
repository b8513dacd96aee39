use Rattle.std.proofs.Common.{subst, sym, rules}
use Rattle.std.specs.Str.{IsUtf8}
use Rattle.jh_edn.specs.Print.{print}
use Rattle.jh_settings_texts.proofs.SettingsLemmas.{spread_utf8}
use Rattle.jh_settings_texts.proofs.printing.entry_text.Goals as goal

pub printed-requires : goal.printed-requires
printed-requires c =
    subst (λ x. IsUtf8 (print x)) (sym c.in_ok-value.ensures) (spread_utf8 c.args.nodes.now c.requires.named c.args.spread c.requires.some (search rules) c.args.entry.now c.requires.due c.step_has_text.ensures)
