use Rattle.std.proofs.Common.{length, subst}
use Rattle.jh_fifo.specs.declared.tables.Side.TheVariants.{In}
use Rattle.jh_fifo.specs.Tables.{IsTable, IsTableOf}
use Rattle.jh_fifo.proofs.JudgeLemmas.{are_fit}
use Rattle.jh_fifo.proofs.judge.judge_fifo.Goals as goal

pub judge_fit-requires-clause-fit : goal.judge_fit-requires-clause-fit
judge_fit-requires-clause-fit c =
    let ops = c.args.ops.now in
    let table : IsTable ops In (length ops) c.in-Once.enqueues = subst (λ t. IsTableOf ops In t) c.in-Once.is (c.in_ok-first.ensures {u = tt}) in
    are_fit ops c.in-Once.enqueues table c.in_default.ensures
