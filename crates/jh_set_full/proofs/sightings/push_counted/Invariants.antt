use Rattle.std.proofs.Common.{◌≡◌, ◌++◌, ◌+◌, ◌≤◌, drop, map}
use Rattle.jh_edn.specs.View.{view, views}
use Rattle.jh_check.proofs.DistinctLemmas.{runs}
use Rattle.jh_set_full.specs.Inside.{seen, counted_by}
use Rattle.jh_set_full.proofs.sightings.push_counted.Given as goal

abbrev pub invariant-loop-next : goal.invariant-loop-next
invariant-loop-next l = record {
  all : map seen l.initial.found.items ++ map (counted_by l.pair) (runs (view l.initial.element) 1 (views l.others)) ≡ map seen l.found.items ++ map (counted_by l.pair) (runs (view l.element) l.times (views (drop l.next-index l.others)));
  few : l.times ≤ l.next-index + 1;
}
