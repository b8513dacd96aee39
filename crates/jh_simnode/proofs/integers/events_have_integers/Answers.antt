use Rattle.std.proofs.Common.{All, take, get_or, subst, sym}
use Rattle.std.proofs.lemmas.List.{take_all, take_more}
use Rattle.std.proofs.lemmas.List.Elements.{All-push}
use Rattle.jh_simnode.specs.Histories.{HasIntegers}
use Rattle.jh_simnode.proofs.integers.events_have_integers.Goals as goal

pub loop-event-preserved : goal.loop-event-preserved
loop-event-preserved c =
    let xs = c.args.journal.now in
    let i = c.loop-event.event-index in
    let x = c.event-item.result in
    let here : HasIntegers (get_or xs i x) = subst HasIntegers c.event-item.is c.event_has_integers.ensures in
    subst (All HasIntegers) (sym (take_more xs i x c.loop-event-test.true)) (All-push HasIntegers (take i xs) (get_or xs i x) c.loop-event.invariant here)

pub returns : goal.returns
returns c = subst (All HasIntegers) (take_all c.loop-event.event-index c.args.journal.now c.loop-event-test.false) c.loop-event.invariant
