use Rattle.std.proofs.Common.{◌<◌, ◌+◌, length, take, subst, sym, ◌∙◌, arith}
use Rattle.std.proofs.lemmas.Bool.{false≢true}
use Rattle.jh_txn.specs.SnapshotCheckInside.{AreWritersAfter}
use Rattle.jh_txn.specs.Transactions.{IsKeyBelow}
use Rattle.jh_txn.proofs.WriterLemmas.{up_to, may_if, may_more, writers_more}
use Rattle.jh_txn.proofs.writers.write_all.Goals as goal

pub returns-then-not-write-clause-may : goal.returns-then-not-write-clause-may
returns-then-not-write-clause-may c =
    let ops = c.args.ops.now in
    let i = c.loop-op.op-index in
    let low : i < length ops = omega arith in
    let after = c.loop-op.invariant.after in
    let upto = up_to c.args.place c.args.over.now ops i c.args.last.now c.loop-op.last after c.op-item.result low c.op-item.is in (
      λ e. absurd (false≢true e),
      λ may. absurd (false≢true (sym c.if-not-write.true ∙ c.write.ensures.may.1 (may_if c.args.place c.args.over.now ops i c.args.last.now c.loop-op.last after c.op-item.result upto may))),
    )

pub loop-op-preserved : goal.loop-op-preserved
loop-op-preserved c =
    let ops = c.args.ops.now in
    let i = c.loop-op.op-index in
    let low : i < length ops = omega arith in
    let after = c.loop-op.invariant.after in
    let op = c.op-item.result in
    let upto = up_to c.args.place c.args.over.now ops i c.args.last.now c.loop-op.last after op low c.op-item.is in
    let key = subst (IsKeyBelow (length c.args.last.now)) (sym c.op-item.is) (c.requires.keys i op low) in
    record {
      may = may_more c.args.place c.args.over.now ops i c.args.last.now c.loop-op.last after op upto c.loop-op.invariant.may (c.write.ensures.may.0 c.if-not-write.false);
      after = subst (AreWritersAfter c.args.place (take (i + 1) ops) c.args.last.now) (sym (c.write.ensures.after c.if-not-write.false)) (writers_more c.args.place c.args.over.now ops i c.args.last.now c.loop-op.last after op upto key);
    }
