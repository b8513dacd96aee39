use Rattle.std.proofs.Common.{◌∙◌, append_assoc, codes, refl, subst, sym}
use Rattle.std.specs.Io.KnownBytes.{Appends}
use Rattle.std.proofs.lemmas.Result.{on_ok_weaker}
use Rattle.jh_edn.proofs.CitedLemmas.{appends_then}
use Rattle.jh_edn.specs.Parts.{behind_pair_text}
use Rattle.jh_ops.specs.Operation.{operation}
use Rattle.jh_ops.specs.OperationWritten.{value_written}
use Rattle.jh_check.proofs.LineLemmas.{four_parts}
use Rattle.jh_check.specs.declared.verdict.Verdict.{Verdict}
use Rattle.jh_checkers.specs.Lines.{order_value}
use Rattle.jh_checkers.specs.LinesInside.{stuck_opening}
use Rattle.jh_checkers.proofs.lines.write_stuck_mutex.Goals as goal

pub returns-clause-bytes : goal.returns-clause-bytes
returns-clause-bytes g c =
    let contents = g.W.Write.contents in
    let start = contents c.args.writer.now in
    let stuck = c.args.stuck.now in
    let explanation = c.args.explanation.now in
    let completion = value_written (operation explanation.completion) in
    let pending = behind_pair_text (codes "pending") (order_value explanation.pending.items) in
    let text = sym (append_assoc (stuck_opening stuck explanation) pending (codes "}"))
    ∙ four_parts Verdict.False (codes "stuck") (codes "order") (codes "pending")
    completion (order_value stuck.order) (order_value explanation.pending.items) completion (order_value stuck.order) (order_value explanation.pending.items)
    refl refl refl in
    on_ok_weaker c.write_stuck_end.result (λ end. subst (Appends start (contents c.write_stuck_end.new.writer)) text (appends_then start (contents c.write_stuck_opening.new.writer) (contents c.write_stuck_end.new.writer) _ _ c.in_ok-write_stuck_opening.ensures.bytes end)) c.write_stuck_end.ensures.bytes
