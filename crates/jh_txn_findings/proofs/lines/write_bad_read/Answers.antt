use Rattle.std.proofs.Common.{codes, subst, ap}
use Rattle.std.specs.Io.KnownBytes.{Appends}
use Rattle.std.proofs.lemmas.Result.{on_ok_weaker}
use Rattle.jh_edn.proofs.CitedLemmas.{appends_then}
use Rattle.jh_edn.specs.Edn.{keyword}
use Rattle.jh_txn_findings.specs.Findings.{anomaly_text}
use Rattle.jh_txn_findings.specs.Lines.{number_value}
use Rattle.jh_txn_findings.proofs.TextLemmas.{three_pairs}
use Rattle.jh_txn_findings.proofs.lines.write_bad_read.Goals as goal

pub returns-clause-bytes : goal.returns-clause-bytes
returns-clause-bytes g c =
    let contents = g.W.Write.contents in
    let start = contents c.args.writer.now in
    let a = appends_then start (contents c.write_keyword.new.writer) (contents c.write_count.new.writer) _ _ c.in_ok-write_keyword.ensures.bytes c.in_ok-write_count.ensures.bytes in
    let text = three_pairs (codes "anomaly") (codes "place") (codes "op") _ (keyword (anomaly_text c.args.kind)) (number_value c.args.place) (number_value c.args.index) (ap keyword c.anomaly_text.ensures) in
    on_ok_weaker c.write_count-2.result (λ end. subst (Appends start (contents c.write_count-2.new.writer)) text (appends_then start (contents c.write_count.new.writer) (contents c.write_count-2.new.writer) _ _ a end)) c.write_count-2.ensures.bytes
