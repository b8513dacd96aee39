use Rattle.std.proofs.Common.{◌≡◌, ◌≤◌, drop, length}
use Rattle.std.specs.Prelude.{is_some}
use Rattle.jh_edn.specs.Edn.{size_of, size_list}
use Rattle.jh_edn.specs.View.{view, views}
use Rattle.jh_gen.specs.ShapeInside.{parsed_members, parsed_reserve}
use Rattle.jh_gen.proofs.text.+judge.Given as goal

abbrev pub decreases-is_generator : goal.decreases-is_generator
decreases-is_generator l = size_of (view l.value.now)

abbrev pub decreases-are_generators : goal.decreases-are_generators
decreases-are_generators l = size_list (views l.parts.now)

abbrev pub decreases-are_reserved : goal.decreases-are_reserved
decreases-are_reserved l = size_list (views l.parts.now)

abbrev pub invariant-are_generators-loop-part : goal.invariant-are_generators-loop-part
invariant-are_generators-loop-part l = is_some (parsed_members (views l.parts)) ≡ is_some (parsed_members (views (drop l.part-index l.parts)))

abbrev pub invariant-are_reserved-loop-rest : goal.invariant-are_reserved-loop-rest
invariant-are_reserved-loop-rest l = record {
  same : is_some (parsed_reserve (views l.parts)) ≡ is_some (parsed_reserve (views l.rest));
  smaller : size_list (views l.rest) ≤ size_list (views l.parts);
}

abbrev pub decreases-are_reserved-loop-rest : goal.decreases-are_reserved-loop-rest
decreases-are_reserved-loop-rest l = length l.rest
