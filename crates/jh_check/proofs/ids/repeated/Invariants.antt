use Rattle.std.proofs.Common.{◌≡◌, ◌++◌, ◌+◌, ◌≤◌, drop}
use Rattle.std.specs.List.{filter}
use Rattle.jh_edn.specs.View.{view, views}
use Rattle.jh_check.specs.Tallies.{is_repeated, view_tally}
use Rattle.jh_check.proofs.DistinctLemmas.{runs}
use Rattle.jh_check.proofs.ids.repeated.Given as goal

abbrev pub invariant-loop-next : goal.invariant-loop-next
invariant-loop-next l = record {
  all : filter is_repeated (runs (view l.initial.id) 1 (views l.others)) ≡ view_tally l.found.items ++ filter is_repeated (runs (view l.id) l.times (views (drop l.next-index l.others)));
  few : l.times ≤ l.next-index + 1;
}
