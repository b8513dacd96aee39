use Rattle.std.proofs.Common.{◌≡◌, ◌++◌}
use Rattle.jh_edn.specs.View.{view}
use Rattle.jh_independent.specs.SplitInside.{view_groups, view_keyed}
use Rattle.jh_independent.proofs.SameKeyLemmas.{runs}
use Rattle.jh_independent.proofs.split.grouped.Given as goal

abbrev pub invariant-loop-next : goal.invariant-loop-next
invariant-loop-next l =
    runs (view l.initial.group.key) l.initial.group.places.items (view_keyed l.initial.next-iterator.rest.items)
    ≡ view_groups l.groups.items ++ runs (view l.group.key) l.group.places.items (view_keyed l.next-iterator.rest.items)
