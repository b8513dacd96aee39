use Rattle.std.proofs.Common.{subst}
use Rattle.std.specs.Io.KnownBytes.{Appends}
use Rattle.std.proofs.lemmas.Result.{on_ok_weaker}
use Rattle.jh_edn.proofs.CitedLemmas.{appends_then}
use Rattle.jh_check.proofs.LineLemmas.{tally_text}
use Rattle.jh_check.proofs.tally_lines.write_map.Goals as goal

pub returns-clause-bytes : goal.returns-clause-bytes
returns-clause-bytes g c =
    let contents = g.W.Write.contents in
    let start = contents c.args.writer.now in
    let a = appends_then start (contents c.put.new.writer) (contents c.write_entries.new.writer) _ _ c.in_ok-put.ensures.bytes c.in_ok-write_entries.ensures.bytes in
    let text = tally_text c.as_slice.result.now c.args.tally.now c.as_slice.ensures in
    on_ok_weaker c.put-2.result (λ end. subst (Appends start (contents c.put-2.new.writer)) text (appends_then start (contents c.write_entries.new.writer) (contents c.put-2.new.writer) _ _ a end)) c.put-2.ensures.bytes
