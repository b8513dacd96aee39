use Rattle.std.proofs.Common.{take}
use Rattle.jh_timeline.proofs.EndLemmas.{Going}
use Rattle.jh_timeline.proofs.lanes.bars_of.Given as goal

abbrev pub invariant-loop-call : goal.invariant-loop-call
invariant-loop-call l = Going l.held l.ends l.bars.items (take l.call-index l.calls)
