use Rattle.std.proofs.Common.{arith, length-drop, ℕ}
use Rattle.jh_lines.proofs.StreamLemmas.{appends_more}
use Rattle.jh_lines.proofs.writing.write_whole.Goals as goal

pub loop-sent-preserved : goal.loop-sent-preserved
loop-sent-preserved g c = (
  omega (arith, c.in_ok-count.ensures.bound, length-drop {A = ℕ}),
  appends_more _ _ _ c.args.bytes.now c.loop-sent.sent c.in_ok-count.count c.loop-sent.invariant.1
      c.in_ok-count.ensures.bytes,
)
