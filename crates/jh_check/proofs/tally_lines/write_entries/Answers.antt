use Rattle.std.proofs.Common.{arith}
use Rattle.jh_edn.proofs.CitedLemmas.{appends_then}
use Rattle.jh_check.proofs.LineLemmas.{entries_push}
use Rattle.jh_check.proofs.tally_lines.write_entries.Goals as goal

pub loop-place-preserved : goal.loop-place-preserved
loop-place-preserved g c =
    let contents = g.W.Write.contents in
    let cs = c.args.entries.now in
    let entry = c.index-entries-place.result in
    let a = appends_then (contents c.args.writer.now) (contents c.loop-place.writer) (contents c.separate.new.writer) _ _ c.loop-place.invariant c.in_ok-separate.ensures.bytes in
    let b = appends_then (contents c.args.writer.now) (contents c.separate.new.writer) (contents c.write_entry.new.writer) _ _ a c.in_ok-write_entry.ensures.bytes in
    rw (entries_push cs c.loop-place.place entry (omega arith), ← c.index-entries-place.is) b
