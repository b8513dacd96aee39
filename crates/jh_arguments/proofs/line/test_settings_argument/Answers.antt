use Rattle.std.proofs.Common.{ap, codes, ◌≡◌, ◌∙◌}
use Rattle.clap.specs.Words.{rule_of}
use Rattle.jh_arguments.proofs.ChainLemmas.{named_once, wanted}
use Rattle.jh_arguments.proofs.line.test_settings_argument.Goals as goal

pub returns-clause-rule : goal.returns-clause-rule
returns-clause-rule c =
    ap rule_of c.required.ensures ∙ ap wanted (ap rule_of c.help.ensures ∙ (ap rule_of c.value_name.ensures ∙ ap named_once c.new.ensures.rule))

pub returns-clause-local : goal.returns-clause-local
returns-clause-local c = rw (c.required.ensures, c.help.ensures, c.value_name.ensures) c.new.ensures.optional.1
