use Rattle.std.proofs.Common.{arith}
use Rattle.jh_lines.proofs.ByLinesLemmas.{no_feed_more, through_all, through_at}
use Rattle.jh_lines.proofs.by_lines.through_feed.Goals as goal

pub loop-place-init : goal.loop-place-init
loop-place-init c = λ i below. absurd (omega (arith, below))

pub returns-then-byte-eq10 : goal.returns-then-byte-eq10
returns-then-byte-eq10 c =
    through_at c.args.bytes.now c.loop-place.place c.loop-place.invariant c.loop-place-test.true c.if-byte-eq10.true

pub loop-place-preserved : goal.loop-place-preserved
loop-place-preserved c = no_feed_more c.args.bytes.now c.loop-place.place c.loop-place.invariant c.if-byte-eq10.false

pub returns : goal.returns
returns c =
    through_all c.args.bytes.now (λ i below. c.loop-place.invariant i (omega (arith, below, c.loop-place-test.false)))
