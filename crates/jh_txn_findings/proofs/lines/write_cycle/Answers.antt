use Rattle.std.proofs.Common.{◌∙◌, codes, map, subst, ap}
use Rattle.std.specs.Io.KnownBytes.{Appends}
use Rattle.std.proofs.lemmas.Result.{on_ok_weaker}
use Rattle.jh_edn.proofs.CitedLemmas.{appends_then}
use Rattle.jh_edn.specs.Edn.{keyword}
use Rattle.jh_edn.specs.Parts.{vector_of}
use Rattle.jh_txn_findings.specs.CycleNames.{cycle_name, cycle_name_text}
use Rattle.jh_txn_findings.specs.Lines.{step_value}
use Rattle.jh_txn_findings.proofs.TextLemmas.{two_pairs}
use Rattle.jh_txn_findings.proofs.lines.write_cycle.Goals as goal

pub returns-clause-bytes : goal.returns-clause-bytes
returns-clause-bytes g c =
    let contents = g.W.Write.contents in
    let start = contents c.args.writer.now in
    let steps = c.args.steps.now in
    let text = two_pairs (codes "anomaly") (codes "cycle") _ (keyword (cycle_name_text (cycle_name steps))) (vector_of (map step_value steps)) (ap keyword (c.text.ensures ∙ ap cycle_name_text c.name_of_cycle.ensures)) in
    on_ok_weaker c.write_part.result (λ end. subst (Appends start (contents c.write_part.new.writer)) text (appends_then start (contents c.write_keyword.new.writer) (contents c.write_part.new.writer) _ _ c.in_ok-write_keyword.ensures.bytes end)) c.write_part.ensures.bytes
