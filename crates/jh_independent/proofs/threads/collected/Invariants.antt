use Rattle.std.proofs.Common.{◌≡◌, false}
use Rattle.std.specs.Prelude.{is_err}
use Rattle.jh_tasks.proofs.DoneLemmas.{AreDoneInTurn}
use Rattle.jh_independent.specs.FoundInside.{AreCollected}
use Rattle.jh_independent.proofs.threads.collected.Given as goal

abbrev pub invariant-loop-group : goal.invariant-loop-group
invariant-loop-group g l = record {
  collected : AreCollected g.Q.Asking.asked g.G.Gate.may_refuse l.found.items l.group-iterator.a.rest.items l.group-iterator.b.rest.items;
  done : l.fn.answers.lost_thread ≡ false → AreDoneInTurn is_err l.group-iterator.b.rest.items;
}
