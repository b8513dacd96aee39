use Rattle.std.proofs.Common.{subst}
use Rattle.jh_txn.specs.SnapshotCheckInside.{ArePointsInTurn, ArePhases}
use Rattle.jh_txn.proofs.PhaseLemmas.{settled_if, placed_if}
use Rattle.jh_txn.proofs.phases.are_settled_behind.Goals as goal

pub returns : goal.returns
returns c =
    let txns = c.args.txns.now in
    let points = c.args.points.now in
    let phases = c.pass_all.new.phases in
    let passed = c.if-not-pass_all.false in
    let are = subst (λ n. ArePhases n points phases) c.requires.count (c.pass_all.ensures.behind passed) in
    let turn = subst (λ n. ArePointsInTurn n points) c.requires.count (c.pass_all.ensures.turn.0 passed) in
    (λ e. placed_if txns points phases are turn (c.are_settled.ensures.0 e), λ placed. c.are_settled.ensures.1 (settled_if txns points phases are placed))
