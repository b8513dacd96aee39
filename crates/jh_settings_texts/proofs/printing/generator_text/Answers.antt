use Rattle.std.proofs.Common.{subst, sym}
use Rattle.std.specs.Str.{IsUtf8}
use Rattle.jh_edn.specs.Print.{print}
use Rattle.jh_gen.specs.View.{generator_of}
use Rattle.jh_settings_texts.proofs.GeneratorAsciiLemmas.{generator_utf8}
use Rattle.jh_settings_texts.proofs.printing.generator_text.Goals as goal

pub printed-requires : goal.printed-requires
printed-requires c = subst (λ x. IsUtf8 (print x)) (sym c.in_ok-value.ensures.text) (generator_utf8 (generator_of c.args.source.now) c.requires)
