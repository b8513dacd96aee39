use Rattle.std.proofs.Common.{ap, codes, ◌≡◌, ◌∙◌}
use Rattle.clap.specs.declared.builder.value_parser.ValueParser.TheVariants.{Unsigned}
use Rattle.jh_arguments.specs.Line.{number_rule}
use Rattle.jh_arguments.proofs.line.from_option.Goals as goal

pub returns-clause-rule : goal.returns-clause-rule
returns-clause-rule c =
    let ranged : c.range-parser.result ≡ Unsigned 0 9223372036854775807 = rw c.value_parser.ensures at c.range-parser.ensures in
    c.number_option.ensures.rule ∙ ap (λ p. number_rule (codes "from") p (codes "0")) ranged
