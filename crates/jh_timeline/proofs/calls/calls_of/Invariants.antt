use Rattle.std.proofs.Common.{nat_cmp}
use Rattle.std.specs.BTreeMap.{get}
use Rattle.jh_timeline.proofs.CallLemmas.{Kept}
use Rattle.jh_timeline.proofs.calls.calls_of.Given as goal

abbrev pub invariant-loop-index : goal.invariant-loop-index
invariant-loop-index l = Kept (get nat_cmp l.ahead) l.calls.items l.answers.items l.history l.index

abbrev pub decreases-loop-index : goal.decreases-loop-index
decreases-loop-index l = l.index
