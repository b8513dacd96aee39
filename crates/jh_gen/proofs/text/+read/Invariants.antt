use Rattle.std.proofs.Common.{◌≤◌, ◌+◌, ◌*◌, drop, length}
use Rattle.jh_edn.specs.Edn.{size_of, size_list}
use Rattle.jh_edn.specs.View.{view, views}
use Rattle.jh_gen.specs.Generator.{row_of, share_list}
use Rattle.jh_gen.specs.View.{generators_of, shares_of}
use Rattle.jh_gen.specs.ShapeInside.{AreMembersSoFar, AreSharesSoFar}
use Rattle.jh_gen.proofs.text.+read.Given as goal

abbrev pub decreases-gen_in : goal.decreases-gen_in
decreases-gen_in l = 2 * size_of (view l.value.now)

abbrev pub decreases-inner_in : goal.decreases-inner_in
decreases-inner_in l = 2 * size_of (view l.value.now) + 1

abbrev pub decreases-members_in : goal.decreases-members_in
decreases-members_in l = 2 * size_list (views l.parts.now)

abbrev pub decreases-reserve_in : goal.decreases-reserve_in
decreases-reserve_in l = 2 * size_list (views l.parts.now)

abbrev pub invariant-members_in-loop-part : goal.invariant-members_in-loop-part
invariant-members_in-loop-part l = AreMembersSoFar (row_of (generators_of l.members.items)) (views (drop l.part-index l.parts)) (views l.parts)

abbrev pub invariant-reserve_in-loop-rest : goal.invariant-reserve_in-loop-rest
invariant-reserve_in-loop-rest l = record {
  so_far : AreSharesSoFar (share_list (shares_of l.shares.items)) (views l.rest) (views l.parts);
  smaller : size_list (views l.rest) ≤ size_list (views l.parts);
}

abbrev pub decreases-reserve_in-loop-rest : goal.decreases-reserve_in-loop-rest
decreases-reserve_in-loop-rest l = length l.rest
