use Rattle.std.proofs.Common.{nat_cmp}
use Rattle.std.specs.BTreeMap.{get}
use Rattle.jh_timeline.proofs.CallLemmas.{Answered}
use Rattle.jh_timeline.proofs.calls.answers_in.Given as goal

abbrev pub invariant-loop-op : goal.invariant-loop-op
invariant-loop-op l = Answered (get nat_cmp l.invoking) l.answers.items l.history l.op-index
