use Rattle.std.proofs.Common.{ap, ◌≡◌, ◌∙◌}
use Rattle.std.specs.Prelude.{Some}
use Rattle.clap.specs.Words.{Rule, rule_of}
use Rattle.jh_arguments.specs.Line.{option, signed}
use Rattle.jh_arguments.proofs.ChainLemmas.{longed, named_once}
use Rattle.jh_arguments.proofs.line.signed_option.Goals as goal

pub returns-clause-rule : goal.returns-clause-rule
returns-clause-rule c =
    let rule = signed c.args.name.now in
    let plain : rule_of c.help.result ≡ option c.args.name.now = ap rule_of c.help.ensures ∙ (ap rule_of c.value_name.ensures
    ∙ ap named_once (ap rule_of c.long.ensures ∙ ap (longed c.args.name.now) c.new.ensures.rule)) in
    let given : c.value_parser-2.result.value_parser ≡ rule.parser = c.value_parser-2.ensures.given.1 ∙ ap Some (c.value_parser-2.ensures.given.2 ∙ c.value_parser.ensures) in
    ap rule_of c.value_parser-2.ensures.others ∙ (ap (λ p. record (rule_of c.help.result) { parser = p }) given ∙ ap (λ (r : Rule). record r { parser = rule.parser }) plain)

pub returns-clause-local : goal.returns-clause-local
returns-clause-local c = rw (c.value_parser-2.ensures.others, c.help.ensures, c.value_name.ensures, c.long.ensures) c.new.ensures.optional.1
