use Rattle.std.proofs.Common.{ap, codes, subst, ◌≡◌, ◌∙◌}
use Rattle.std.specs.Prelude.{Some, pos}
use Rattle.std.specs.Range.{range_inclusive_end}
use Rattle.clap.specs.Words.{NarrowsTo}
use Rattle.clap.specs.declared.builder.value_parser.ValueParser.TheVariants.{Unsigned}
use Rattle.jh_arguments.specs.Line.{given_rule}
use Rattle.jh_arguments.proofs.line.show_option.Goals as goal

pub returns-clause-rule : goal.returns-clause-rule
returns-clause-rule c =
    let parser = c.value_parser.result in
    let range = c.new.ensures in
    let ends : NarrowsTo parser (Some (pos 0)) (Some (pos 9223372036854775807)) c.range.result =
    subst (λ most. NarrowsTo parser (Some (pos 0)) (Some most) c.range.result) range.end
    (subst (λ least. NarrowsTo parser (Some least) (Some (range_inclusive_end c.new.result)) c.range.result) range.start c.range.ensures) in
    let ranged : c.range.result ≡ Unsigned 0 9223372036854775807 = rw c.value_parser.ensures at ends in
    c.given_option.ensures.rule ∙ ap (given_rule (codes "show")) ranged
