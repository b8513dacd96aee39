-- A value that is refused as a generator means none.
use Rattle.std.proofs.Common.{◌≡◌, None, sym, ap, ◌∙◌}
use Rattle.toml.specs.Data.{Members}
use Rattle.jh_edn.specs.Edn.{Edn}
use Rattle.jh_gen.specs.Generator.{Generator}
use Rattle.jh_gen.specs.GeneratorText.{parsed_generator}
use Rattle.jh_settings.specs.Kinds.{HoldsElement}
use Rattle.jh_settings.specs.Parsed.{IsGeneratorUnder}
use Rattle.jh_settings.specs.declared.keys.Key.{Key}
use Rattle.jh_settings.proofs.ElementLemmas.{held_once, none_not}

pub means_no_generator : (key : Key) (document : Members) (x : Edn) → HoldsElement key document x → parsed_generator x ≡ None → ((g : Generator) × IsGeneratorUnder key document g) → ⊥
means_no_generator key document x held none h =
    none_not h.0 (sym none ∙ ap parsed_generator (held_once key document x h.1.0 held h.1.1) ∙ h.1.2)
