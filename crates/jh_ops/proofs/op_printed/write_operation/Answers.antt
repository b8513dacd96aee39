use Rattle.std.proofs.Common.{subst}
use Rattle.std.specs.Io.KnownBytes.{Appends}
use Rattle.std.proofs.lemmas.Result.{on_ok_weaker}
use Rattle.jh_edn.proofs.CitedLemmas.{appends_then}
use Rattle.jh_ops.specs.Operation.{operation}
use Rattle.jh_ops.proofs.PrintedLemmas.{operation_text}
use Rattle.jh_ops.proofs.op_printed.write_operation.Goals as goal

pub returns-clause-bytes : goal.returns-clause-bytes
returns-clause-bytes g c =
    let contents = g.W.Write.contents in
    let start = contents c.args.writer.now in
    let a = appends_then start (contents c.put.new.writer) (contents c.write_head.new.writer) _ _ c.in_ok-put.ensures.bytes c.in_ok-write_head.ensures.bytes in
    let b = appends_then start (contents c.write_head.new.writer) (contents c.write_body.new.writer) _ _ a c.in_ok-write_body.ensures.bytes in
    on_ok_weaker c.put-2.result (λ end. subst (Appends start (contents c.put-2.new.writer)) (operation_text (operation c.args.op.now)) (appends_then start (contents c.write_body.new.writer) (contents c.put-2.new.writer) _ _ b end)) c.put-2.ensures.bytes
