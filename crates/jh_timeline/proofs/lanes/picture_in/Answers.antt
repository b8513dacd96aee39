use Rattle.std.proofs.Common.{◌∙◌, subst, sym}
use Rattle.jh_ops.specs.Operation.{operations}
use Rattle.jh_timeline.specs.Lanes.{drawn_calls}
use Rattle.jh_timeline.specs.LanesInside.{AreCallsInOrder}
use Rattle.jh_timeline.proofs.DrawnLemmas.{drawn_in_order, follow_in_order}
use Rattle.jh_timeline.proofs.LaneApartLemmas.{kept_apart}
use Rattle.jh_timeline.proofs.lanes.picture_in.Goals as goal

pub bars_of-requires : goal.bars_of-requires
bars_of-requires c =
    let window = c.args.window in
    let history = operations c.args.history.now in
    let marks = c.args.marks.now in
    subst AreCallsInOrder (sym (c.deref.ensures.value ∙ c.in_ok-drawn.ensures.calls)) (follow_in_order window (drawn_calls window history marks) (drawn_in_order window history marks))

pub returns-clause-apart : goal.returns-clause-apart
returns-clause-apart c =
    kept_apart c.args.window (operations c.args.history.now) c.args.marks.now c.in_ok-bars.bars.items
    (record { calls = c.in_ok-bars.ensures.calls ∙ c.deref.ensures.value ∙ c.in_ok-drawn.ensures.calls; lanes = c.in_ok-bars.ensures.lanes })
