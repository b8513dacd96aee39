use Rattle.std.proofs.Common.{length, subst}
use Rattle.jh_fifo.specs.declared.tables.Side.TheVariants.{Out}
use Rattle.jh_fifo.specs.declared.verdict.FifoReason.TheVariants.{EndedBeforeInvoked, DequeuedTwice}
use Rattle.jh_fifo.specs.Reasons.{AreOfOne}
use Rattle.jh_fifo.specs.Tables.{IsTable, IsTableOf}
use Rattle.jh_fifo.proofs.JudgeLemmas.{invalid, are_sound}
use Rattle.jh_fifo.proofs.judge.judge_fit.Goals as goal

pub returns-in-Some : goal.returns-in-Some
returns-in-Some c = invalid c.args.ops.now c.requires.fit (EndedBeforeInvoked c.in-Some.place) c.in-Some.ensures

pub returns-in-Some-find_early : goal.returns-in-Some-find_early
returns-in-Some-find_early c = invalid c.args.ops.now c.requires.fit c.in-Some-find_early.reason c.in-Some-find_early.ensures

pub judge_sound-requires-clause-sound : goal.judge_sound-requires-clause-sound
judge_sound-requires-clause-sound c =
    let ops = c.args.ops.now in
    let table : IsTable ops Out (length ops) c.in-Once.dequeues = subst (λ t. IsTableOf ops Out t) c.in-Once.is (c.in_ok-first.ensures {u = tt}) in
    are_sound ops c.requires.fit c.in_default.ensures c.in_default-find_early.ensures c.in-Once.dequeues table

pub returns-in-Twice : goal.returns-in-Twice
returns-in-Twice c =
    let ops = c.args.ops.now in
    let twice : AreOfOne ops c.in-Twice.first c.in-Twice.second = subst (λ t. IsTableOf ops Out t) c.in-Twice.is (c.in_ok-first.ensures {u = tt}) in
    invalid ops c.requires.fit (DequeuedTwice c.in-Twice.first c.in-Twice.second) twice
