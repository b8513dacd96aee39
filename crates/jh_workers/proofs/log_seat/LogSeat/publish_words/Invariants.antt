use Rattle.std.proofs.Common.{◌≡◌, ◌*◌, length, take}
use Rattle.jh_slots.specs.Seats.{HoldsClaim, claim_at}
use Rattle.jh_workers.proofs.log_seat.LogSeat.publish_words.Given as goal

abbrev pub invariant-loop-place : goal.invariant-loop-place
invariant-loop-place g l = record {
  table : l.self.seat.table ≡ l.fn.self.seat.table;
  claim : l.claim ≡ l.fn.claim;
  holds : HoldsClaim l.self.seat.knows l.claim.first l.claim.rows;
  seen : l.self.seat.knows.seen ≡ l.fn.self.seat.knows.seen;
  size : length (claim_at l.self.seat.knows l.claim.first).words ≡ 5 * l.claim.rows;
  so_far : take l.place (claim_at l.self.seat.knows l.claim.first).words ≡ take l.place l.words;
}
