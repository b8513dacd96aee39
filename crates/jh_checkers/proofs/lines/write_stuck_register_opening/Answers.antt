use Rattle.std.proofs.Common.{ap, codes, subst, ◌++◌}
use Rattle.std.specs.Io.KnownBytes.{Appends}
use Rattle.std.proofs.lemmas.Result.{on_ok_weaker}
use Rattle.jh_edn.proofs.CitedLemmas.{appends_then}
use Rattle.jh_edn.specs.Parts.{behind_pair_text}
use Rattle.jh_checkers.specs.Lines.{held_value, order_value}
use Rattle.jh_checkers.specs.LinesInside.{stuck_opening}
use Rattle.jh_checkers.proofs.lines.write_stuck_register_opening.Goals as goal

pub returns-clause-bytes : goal.returns-clause-bytes
returns-clause-bytes g c =
    let contents = g.W.Write.contents in
    let start = contents c.args.writer.now in
    let a = appends_then start (contents c.write_stuck_opening.new.writer) (contents c.write_held.new.writer) _ _ c.in_ok-write_stuck_opening.ensures.bytes c.in_ok-write_held.ensures.bytes in
    let front = stuck_opening c.args.stuck.now c.args.explanation.now ++ behind_pair_text (codes "value") (held_value c.args.stuck.now.value) in
    let pending = ap (λ numbers. front ++ behind_pair_text (codes "pending") (order_value numbers)) c.as_slice.ensures.value in
    on_ok_weaker c.write_part.result (λ end. subst (Appends start (contents c.write_part.new.writer)) pending (appends_then start (contents c.write_held.new.writer) (contents c.write_part.new.writer) _ _ a end)) c.write_part.ensures.bytes
