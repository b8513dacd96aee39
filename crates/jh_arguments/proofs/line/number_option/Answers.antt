use Rattle.std.proofs.Common.{ap, ◌∙◌}
use Rattle.clap.specs.Words.{rule_of}
use Rattle.jh_arguments.proofs.ChainLemmas.{defaulted}
use Rattle.jh_arguments.proofs.line.number_option.Goals as goal

pub returns-clause-rule : goal.returns-clause-rule
returns-clause-rule c = ap rule_of c.default_value.ensures ∙ ap (defaulted c.args.default.now) c.given_option.ensures.rule

pub returns-clause-local : goal.returns-clause-local
returns-clause-local c = rw c.default_value.ensures c.given_option.ensures.local
