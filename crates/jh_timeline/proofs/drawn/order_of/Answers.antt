use Rattle.jh_timeline.proofs.DrawnLemmas.{behind_is}
use Rattle.jh_timeline.proofs.drawn.order_of.Goals as goal

pub returns : goal.returns
returns c = λ number.
    behind_is c.args.window c.args.marks.now c.args.calls.now c.in_ok-notes.notes c.least_place-least.result number c.in_ok-notes.ensures c.least_place-least.ensures
