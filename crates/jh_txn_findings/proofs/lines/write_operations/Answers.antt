use Rattle.std.proofs.Common.{subst}
use Rattle.std.specs.Io.KnownBytes.{Appends}
use Rattle.std.proofs.lemmas.Result.{on_ok_weaker}
use Rattle.jh_txn_findings.proofs.TextLemmas.{operations_text}
use Rattle.jh_txn_findings.proofs.lines.write_operations.Goals as goal

pub returns-clause-bytes : goal.returns-clause-bytes
returns-clause-bytes g c =
    let contents = g.W.Write.contents in
    let start = contents c.args.writer.now in
    let end = contents c.write_part.new.writer in
    let text = operations_text c.as_slice.result.now c.in-Some.operations.items c.as_slice.ensures.value in
    rw c.in-Some.is
    (on_ok_weaker c.write_part.result (λ written. subst (Appends start end) text written) c.write_part.ensures.bytes)
