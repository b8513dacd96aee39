use Rattle.std.proofs.Common.{◌+◌, ◌-◌, length}
use Rattle.jh_unique.specs.Nils.{IsMergedSoFar}
use Rattle.jh_unique.proofs.nils.with_reads.Given as goal

abbrev pub invariant-merging : goal.invariant-merging
invariant-merging l = IsMergedSoFar l.ops l.fn.initial l.order l.nils.items l.at l.next l.all.items

abbrev pub decreases-merging : goal.decreases-merging
decreases-merging l = (length l.order - l.at) + (length l.nils.items - l.next)
