use Rattle.std.proofs.Common.{subst}
use Rattle.std.specs.Io.KnownBytes.{Appends}
use Rattle.std.proofs.lemmas.Result.{on_ok_weaker}
use Rattle.jh_edn.proofs.CitedLemmas.{appends_then}
use Rattle.jh_bank.proofs.LineLemmas.{kind_text_is}
use Rattle.jh_bank.proofs.lines.write_kind.Goals as goal

pub returns-clause-bytes : goal.returns-clause-bytes
returns-clause-bytes g c =
    let contents = g.W.Write.contents in
    let start = contents c.args.writer.now in
    let a = appends_then start (contents c.separate.new.writer) (contents c.write_name.new.writer) _ _ c.in_ok-separate.ensures.bytes c.in_ok-write_name.ensures.bytes in
    let text = kind_text_is c.args.first c.args.name.now c.in-Some.errors in
    rw c.in-Some.is
    (on_ok_weaker c.write_errors.result (λ end. subst (Appends start (contents c.write_errors.new.writer)) text (appends_then start (contents c.write_name.new.writer) (contents c.write_errors.new.writer) _ _ a end)) c.write_errors.ensures.bytes)
