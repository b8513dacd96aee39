use Rattle.std.proofs.Common.{List}
use Rattle.jh_ops.specs.Operation.{Operation, operations}
use Rattle.jh_cli.proofs.IndexedLemmas.{gathered_indexed}
use Rattle.jh_cli.proofs.run_command.run_on_threads.Goals as goal

pub returns-in-Ok-clause-text : goal.returns-in-Ok-clause-text
returns-in-Ok-clause-text g c =
    let history : List Operation = operations c.in-Ok.run'.history.items in
    let gathered = c.in-Ok.ensures.gathered in
    c.recorded_lines_are_text.ensures.lines history (gathered_indexed gathered.0 c.args.plan.now.rows history gathered.1)
