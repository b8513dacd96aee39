use Rattle.std.proofs.Common.{ap, codes, ◌≡◌, ◌∙◌}
use Rattle.clap.specs.Words.{rule_of}
use Rattle.jh_arguments.proofs.ChainLemmas.{longed, named_once}
use Rattle.jh_arguments.proofs.line.tried_test_option.Goals as goal

pub returns-clause-rule : goal.returns-clause-rule
returns-clause-rule c =
    ap rule_of c.help.ensures ∙ (ap rule_of c.value_name.ensures
    ∙ ap named_once (ap rule_of c.long.ensures ∙ ap (longed (codes "drive")) c.new.ensures.rule))

pub returns-clause-local : goal.returns-clause-local
returns-clause-local c = rw (c.help.ensures, c.value_name.ensures, c.long.ensures) c.new.ensures.optional.1
