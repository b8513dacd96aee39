use Rattle.std.proofs.Common.{◌≡◌, ◌<◌, ◌∙◌, ap, length, arith}
use Rattle.jh_slots.specs.Seats.{Knowledge, claim_at}
use Rattle.jh_workers.proofs.WriteLemmas.{wrote_size, wrote_more}
use Rattle.jh_workers.proofs.log_seat.LogSeat.publish_words.Goals as goal

-- one word more was written
pub loop-place-preserved : goal.loop-place-preserved
loop-place-preserved g c =
    let was = c.loop-place.invariant in
    let wrote = c.write.ensures in
    let v = c.loop-place.self.seat.knows in
    let w = c.write.new.seat.knows in
    let f = c.loop-place.claim.first in
    let place = c.loop-place.place in
    let words = c.args.words.now in
    let first = ap (λ k. k.first) wrote.claim in
    let rows = ap (λ k. k.rows) wrote.claim in
    let all_rows : c.loop-place.claim.rows ≡ c.args.claim.rows = ap (λ k. k.rows) was.claim in
    let low : place < length words = omega arith in
    let room : place < length (claim_at v f).words = omega (arith, was.size, all_rows, c.requires.fits) in
    record {
      table = wrote.table ∙ was.table;
      claim = wrote.claim ∙ was.claim;
      holds = wrote.held;
      seen = ap (λ (k : Knowledge). k.seen) wrote.written ∙ was.seen;
      size = wrote_size v w f c.write.new.claim.first c.loop-place.claim.rows c.write.new.claim.rows place _ wrote.written first rows was.size;
      so_far = wrote_more v w f c.write.new.claim.first place words wrote.written first room low was.so_far;
    }
