use Rattle.std.proofs.Common.{ap, codes, subst, ◌++◌}
use Rattle.std.specs.Io.KnownBytes.{Appends}
use Rattle.std.proofs.lemmas.Result.{on_ok_weaker}
use Rattle.jh_edn.proofs.CitedLemmas.{appends_then}
use Rattle.jh_edn.specs.Parts.{behind_pair_text}
use Rattle.jh_checkers.specs.Lines.{order_value}
use Rattle.jh_checkers.proofs.lines.write_stuck_end.Goals as goal

pub returns-clause-bytes : goal.returns-clause-bytes
returns-clause-bytes g c =
    let contents = g.W.Write.contents in
    let start = contents c.args.writer.now in
    let pending = ap (λ numbers. behind_pair_text (codes "pending") (order_value numbers) ++ codes "}") c.as_slice.ensures.value in
    on_ok_weaker c.put.result (λ end. subst (Appends start (contents c.put.new.writer)) pending (appends_then start (contents c.write_part.new.writer) (contents c.put.new.writer) _ _ c.in_ok-write_part.ensures.bytes end)) c.put.ensures.bytes
