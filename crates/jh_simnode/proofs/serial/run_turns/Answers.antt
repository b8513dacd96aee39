use Rattle.jh_simnode.proofs.BetweenTurnsLemmas.{first_stands}
use Rattle.jh_simnode.proofs.WritableLemmas.{small_runs}
use Rattle.jh_simnode.proofs.serial.run_turns.Goals as goal

pub loop-run-init : goal.loop-run-init
loop-run-init c = first_stands c.args.plan.now c.in_ok-run.run' c.args.world.now c.in_ok-run.ensures.first c.requires.new c.requires.setup

pub returns-then-run-clause-small : goal.returns-then-run-clause-small
returns-then-run-clause-small c =
    let s = c.in_ok-apply_due.ensures.settled.stands in
    small_runs c.args.plan.now c.clients-clients.ensures.few.0 c.clients-clients.ensures.few.1 s.led.0 s.turns c.apply_due.new.world.journal s.led.1 c.journal-events.ensures.few
