use Rattle.std.proofs.Common.{codes, subst}
use Rattle.std.specs.Io.KnownBytes.{Appends}
use Rattle.std.proofs.lemmas.Result.{on_ok_weaker}
use Rattle.jh_edn.proofs.CitedLemmas.{appends_then}
use Rattle.jh_bank.proofs.LineLemmas.{kinds_text}
use Rattle.jh_bank.proofs.lines.write_kinds.Goals as goal

pub returns-clause-bytes : goal.returns-clause-bytes
returns-clause-bytes g c =
    let contents = g.W.Write.contents in
    let start = contents c.args.writer.now in
    let errors = c.args.errors.now in
    let a = appends_then start (contents c.put.new.writer) (contents c.write_kind.new.writer) _ _ c.in_ok-put.ensures.bytes c.in_ok-write_kind.ensures.bytes in
    let b = appends_then start (contents c.write_kind.new.writer) (contents c.write_kind-2.new.writer) _ _ a c.in_ok-write_kind-2.ensures.bytes in
    let d = appends_then start (contents c.write_kind-2.new.writer) (contents c.write_kind-3.new.writer) _ _ b c.in_ok-write_kind-3.ensures.bytes in
    let e = appends_then start (contents c.write_kind-3.new.writer) (contents c.write_kind-4.new.writer) _ _ d c.in_ok-write_kind-4.ensures.bytes in
    let text = kinds_text (codes "unexpected-key") (codes "nil-balance") (codes "wrong-total") (codes "negative-value")
    errors.unexpected_key errors.nil_balance errors.wrong_total errors.negative_value
    c.is_first-second.result c.is_first-third.result c.is_first-fourth.result c.is_first-second.ensures c.is_first-third.ensures c.is_first-fourth.ensures in
    on_ok_weaker c.put-2.result (λ end. subst (Appends start (contents c.put-2.new.writer)) text (appends_then start (contents c.write_kind-4.new.writer) (contents c.put-2.new.writer) _ _ e end)) c.put-2.ensures.bytes
