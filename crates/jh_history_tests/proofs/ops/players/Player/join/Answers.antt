use Rattle.jh_history_tests.proofs.HoldLemmas.{holds_joined}
use Rattle.jh_history_tests.proofs.ops.players.Player.join.Goals as goal

pub invariant_of-result-clause-holds : goal.invariant_of-result-clause-holds
invariant_of-result-clause-holds g c =
    holds_joined c.args.self.claim c.args.self.seat.knows c.into_seat.result.knows c.join-seat.result.knows c.args.self.rows c.join-seat.ensures.joint c.args.self.holds
