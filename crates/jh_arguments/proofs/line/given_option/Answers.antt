use Rattle.std.proofs.Common.{ap, ◌≡◌, ◌∙◌}
use Rattle.std.specs.Prelude.{Some}
use Rattle.clap.specs.Words.{rule_of}
use Rattle.jh_arguments.specs.Line.{option}
use Rattle.jh_arguments.proofs.ChainLemmas.{longed, named_once, parsed}
use Rattle.jh_arguments.proofs.line.given_option.Goals as goal

pub returns-clause-rule : goal.returns-clause-rule
returns-clause-rule c =
    let name = c.args.name.now in
    let plain : rule_of c.help.result ≡ option name = ap rule_of c.help.ensures ∙ (ap rule_of c.value_name.ensures
    ∙ ap named_once (ap rule_of c.long.ensures ∙ ap (longed name) c.new.ensures.rule)) in
    let given : c.value_parser.result.value_parser ≡ Some c.args.parser = c.value_parser.ensures.given.1 ∙ ap Some c.value_parser.ensures.given.2 in
    ap rule_of c.value_parser.ensures.others ∙ (ap (λ p. record (rule_of c.help.result) { parser = p }) given ∙ ap (parsed c.args.parser) plain)

pub returns-clause-local : goal.returns-clause-local
returns-clause-local c = rw (c.value_parser.ensures.others, c.help.ensures, c.value_name.ensures, c.long.ensures) c.new.ensures.optional.1
