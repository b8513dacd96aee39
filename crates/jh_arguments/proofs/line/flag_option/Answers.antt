use Rattle.std.proofs.Common.{ap, ◌∙◌}
use Rattle.clap.specs.declared.builder.action.ArgAction.TheVariants.{SetTrue}
use Rattle.clap.specs.Words.{rule_of}
use Rattle.jh_arguments.proofs.ChainLemmas.{acting, longed}
use Rattle.jh_arguments.proofs.line.flag_option.Goals as goal

pub returns-clause-rule : goal.returns-clause-rule
returns-clause-rule c =
    ap rule_of c.action.ensures ∙ ap (acting SetTrue) (ap rule_of c.help.ensures ∙ (ap rule_of c.long.ensures ∙ ap (longed c.args.name.now) c.new.ensures.rule))

pub returns-clause-local : goal.returns-clause-local
returns-clause-local c = rw (c.action.ensures, c.help.ensures, c.long.ensures) c.new.ensures.optional.1
