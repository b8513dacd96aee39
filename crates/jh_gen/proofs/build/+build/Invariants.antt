use Rattle.std.proofs.Common.{drop}
use Rattle.jh_gen.specs.View.{generators_of, shares_of}
use Rattle.jh_gen.specs.NodeView.{row_view, lots_view}
use Rattle.jh_gen.proofs.build.+build.Given as goal
use Rattle.jh_gen.proofs.BuildLemmas.{Rows, Copies, Parts}

abbrev pub invariant-build_row-loop-member : goal.invariant-build_row-loop-member
invariant-build_row-loop-member l = Rows (row_view l.row.items) (generators_of (drop l.member-index l.member-items)) l.members l.threads

abbrev pub invariant-build_copies-loop-thread : goal.invariant-build_copies-loop-thread
invariant-build_copies-loop-thread l = Copies (lots_view l.items.items) l.inner (drop l.thread-index l.threads) l.threads

abbrev pub invariant-build_shares-loop-count : goal.invariant-build_shares-loop-count
invariant-build_shares-loop-count l = Parts (lots_view l.items.items) l.first (shares_of (drop l.count-index l.count-items)) l.shares l.threads
