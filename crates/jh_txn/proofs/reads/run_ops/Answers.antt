use Rattle.std.proofs.Common.{◌≡◌, ◌<◌, Some, length, sym, ◌∙◌, refl, arith}
use Rattle.std.specs.Prelude.{slice_get}
use Rattle.std.proofs.lemmas.Bool.{false≢true}
use Rattle.std.proofs.lemmas.Option.{slice_get_read}
use Rattle.jh_txn.proofs.OrderCheckLemmas.{sees_at, reads_more, reads_all, after_more}
use Rattle.jh_txn.proofs.reads.run_ops.Goals as goal

pub returns-then-not-branch-clause-reads : goal.returns-then-not-branch-clause-reads
returns-then-not-branch-clause-reads c =
    let old = c.args.lists.now in
    let ops = c.args.ops.now in
    let i = c.loop-op.op-index in
    let low : i < length ops = omega arith in
    let at : slice_get ops i ≡ Some c.op-item.result = slice_get_read ops (length ops) i c.op-item.result refl low c.op-item.is in (
      λ e. absurd (false≢true e),
      λ reads. absurd (false≢true (sym c.if-not-branch.true ∙ c.in_ok-run_op.ensures.sees.1 (λ looks.
          sees_at (length old) ops old c.loop-op.lists i c.op-item.result c.requires.keys refl at c.loop-op.invariant.after (reads looks i)))),
    )

pub loop-op-preserved : goal.loop-op-preserved
loop-op-preserved c =
    let old = c.args.lists.now in
    let ops = c.args.ops.now in
    let i = c.loop-op.op-index in
    let low : i < length ops = omega arith in
    let at : slice_get ops i ≡ Some c.op-item.result = slice_get_read ops (length ops) i c.op-item.result refl low c.op-item.is in
    record {
      after = after_more ops old c.loop-op.lists c.run_op.new.lists i c.op-item.result low c.op-item.is c.loop-op.invariant.after c.in_ok-run_op.ensures.after;
      reads = λ looks. reads_more ops old c.loop-op.lists i c.op-item.result c.requires.keys at c.loop-op.invariant.after (c.in_ok-run_op.ensures.sees.0 c.if-not-branch.false looks) (c.loop-op.invariant.reads looks);
    }

pub returns-clause-reads : goal.returns-clause-reads
returns-clause-reads c = (λ _ looks. reads_all c.args.ops.now c.args.lists.now c.loop-op.op-index c.loop-op-test.false (c.loop-op.invariant.reads looks), λ _. refl)
