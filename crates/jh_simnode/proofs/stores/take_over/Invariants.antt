use Rattle.std.proofs.Common.{◌≡◌, ◌<◌, length}
use Rattle.std.specs.List.{All}
use Rattle.std.specs.Vec.Iter.{into_iter_items}
use Rattle.jh_simnode.specs.declared.stores.Taken.{Taken}
use Rattle.jh_simnode.specs.TakingInside.{replicas_with_all}
use Rattle.jh_simnode.proofs.stores.take_over.Given as goal

abbrev pub invariant-loop-one : goal.invariant-loop-one
invariant-loop-one l = record {
  can : (goal.iterator-loop-one).can_next l.one-iterator;
  ends : (goal.iterator-loop-one).is_finite l.one-iterator;
  rest : replicas_with_all l.replicas.items (into_iter_items l.one-iterator) ≡ replicas_with_all l.fn.replicas.items l.fn.taken.items;
  known : All (λ (t : Taken). t.place < length l.replicas.items) (into_iter_items l.one-iterator);
}
