use Rattle.std.proofs.Common.{◌≡◌, length}
use Rattle.jh_timeline.specs.LanesInside.{AreKept}
use Rattle.jh_timeline.proofs.lanes.release.Given as goal

abbrev pub invariant-freed : goal.invariant-freed
invariant-freed l = AreKept l.ends l.index (length l.ends.until.items) × (l.ends.until ≡ l.fn.ends.until)

abbrev pub decreases-freed : goal.decreases-freed
decreases-freed l = length l.ends.busy.keys
