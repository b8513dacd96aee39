use Rattle.std.proofs.Common.{◌∙◌, ◌∷◌, ◌++◌, [], List, codes, map, sym, subst, ap}
use Rattle.std.specs.Io.KnownBytes.{Appends}
use Rattle.std.proofs.lemmas.Result.{on_ok_weaker}
use Rattle.jh_edn.proofs.CitedLemmas.{appends_then}
use Rattle.jh_edn.specs.Edn.{Edn, keyword}
use Rattle.jh_edn.specs.Parts.{vector_of}
use Rattle.jh_txn_findings.specs.CycleNames.{cycle_name, cycle_name_text}
use Rattle.jh_txn_findings.specs.Findings.{anomaly_text}
use Rattle.jh_txn_findings.specs.Lines.{number_value, operations_pairs, step_value}
use Rattle.jh_txn_findings.specs.TextInside.{pairs_text}
use Rattle.jh_txn_findings.specs.declared.finding.FoundStep.{FoundStep}
use Rattle.jh_txn_findings.proofs.TextLemmas.{pairs_append}
use Rattle.jh_txn_findings.proofs.lines.write_others.Goals as goal

pub returns-in_ok-write_bad_read-in-BadRead-clause-bytes :
    goal.returns-in_ok-write_bad_read-in-BadRead-clause-bytes
returns-in_ok-write_bad_read-in-BadRead-clause-bytes g c =
    let contents = g.W.Write.contents in
    let start = contents c.args.writer.now in
    let end = contents c.write_operations.new.writer in
    let front : List (Edn × Edn) =
    (keyword (codes "anomaly"), keyword (anomaly_text c.in-BadRead.kind)) ∷ (keyword (codes "place"), number_value c.in-BadRead.place)
    ∷ (keyword (codes "op"), number_value c.in-BadRead.index) ∷ [] in
    let text = sym (pairs_append front (operations_pairs c.in-BadRead.operations)) in
    rw c.in-BadRead.is
    (on_ok_weaker c.write_operations.result (λ more. subst (Appends start end) text (appends_then start (contents c.write_bad_read.new.writer) end _ _ c.in_ok-write_bad_read-in-BadRead.ensures.bytes more)) c.write_operations.ensures.bytes)

pub returns-in_ok-write_cycle-in-Cycle-clause-bytes :
    goal.returns-in_ok-write_cycle-in-Cycle-clause-bytes
returns-in_ok-write_cycle-in-Cycle-clause-bytes g c =
    let contents = g.W.Write.contents in
    let start = contents c.args.writer.now in
    let end = contents c.write_operations-in-Cycle.new.writer in
    let front : List FoundStep → List (Edn × Edn) = λ steps.
    (keyword (codes "anomaly"), keyword (cycle_name_text (cycle_name steps))) ∷ (keyword (codes "cycle"), vector_of (map step_value steps)) ∷ [] in
    let behind = operations_pairs c.in-Cycle.operations in
    let text = ap (λ (steps : List FoundStep). pairs_text (front steps) ++ pairs_text behind) c.deref-in-Cycle.ensures.value ∙ sym (pairs_append (front c.in-Cycle.steps.items) behind) in
    rw c.in-Cycle.is
    (on_ok_weaker c.write_operations-in-Cycle.result (λ more. subst (Appends start end) text (appends_then start (contents c.write_cycle.new.writer) end _ _ c.in_ok-write_cycle-in-Cycle.ensures.bytes more)) c.write_operations-in-Cycle.ensures.bytes)
