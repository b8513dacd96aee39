use Rattle.std.proofs.Common.{rules}
use Rattle.jh_cli.proofs.StepLemmas.{refuses_element}
use Rattle.jh_cli.proofs.env_command.steps_of.Goals as goal

pub returns-in-Err-clause-parsed : goal.returns-in-Err-clause-parsed
returns-in-Err-clause-parsed c =
    refuses_element c.args.nodes.now c.args.values.now c.loop-index.index c.index-values-index.result c.loop-index.steps.items c.in-Err.error
    c.element_error.result (search rules) c.index-values-index.is c.loop-index.invariant.parsed c.in-Err.ensures.parsed c.element_error.ensures
