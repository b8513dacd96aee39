use Rattle.std.proofs.Common.{rules}
use Rattle.jh_ops.specs.Operation.{operations}
use Rattle.jh_judged_runs.proofs.judged.judge_run.Goals as goal

pub returns-in-Ok-clause-judged : goal.returns-in-Ok-clause-judged
returns-in-Ok-clause-judged c =
    let promised = c.in_ok-world.ensures in
    record {
      run = promised.judged.1;
      text = c.own_lines_are_text.ensures.lines c.args.plan.now c.in_ok-world.world.journal (operations c.in_ok-world.history.items) promised.judged.1 promised.text;
      found = search rules;
    }
