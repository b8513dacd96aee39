use Rattle.std.proofs.Common.{subst}
use Rattle.std.proofs.lemmas.Result.{IfOk-weaker}
use Rattle.jh_unique.specs.Tables.{AreWritersOf}
use Rattle.jh_unique.proofs.VerdictLemmas.{of_once}
use Rattle.jh_unique.proofs.judge.judge_unique.Goals as goal

pub returns-in-Once : goal.returns-in-Once
returns-in-Once c =
    let ops = c.args.ops.now in
    let initial = c.args.initial in
    let is = subst (AreWritersOf ops initial) c.in-Once.is c.in_ok-writers.ensures in
    IfOk-weaker c.judge_once.result _ _ (λ verdict right. of_once ops initial verdict is.1 right) c.judge_once.ensures
