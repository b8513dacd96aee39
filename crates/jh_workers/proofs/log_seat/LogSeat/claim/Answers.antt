use Rattle.jh_workers.proofs.WriteLemmas.{took_size}
use Rattle.jh_workers.proofs.log_seat.LogSeat.claim.Goals as goal

-- the claim of one row has as many words
pub returns-clause-held : goal.returns-clause-held
returns-clause-held g c =
    let claim = c.in_ok-claim.claim in
    let claimed = c.in_ok-claim.ensures.claimed in
    ((c.in_ok-claim.ensures.held, took_size c.args.self.now.seat.knows c.claim.new.seat.knows claim.first claim.rows c.args.rows c.in_ok-claim.ensures.rows.0 c.in_ok-claim.ensures.claimed), c.in_ok-claim.ensures.rows.0)
