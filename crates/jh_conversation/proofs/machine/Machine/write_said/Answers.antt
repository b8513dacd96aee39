use Rattle.std.proofs.Common.{◌≡◌, ◌∙◌, ◌-◌, ◌++◌, ◌≤◌, ap, subst, sym, All, List, ℕ, length, drop}
use Rattle.std.specs.List.{AllByRecursion}
use Rattle.std.proofs.lemmas.List.{length-reverse}
use Rattle.jh_ops.specs.HistoryWritten.{history_lines}
use Rattle.jh_test_parts.specs.Records.{IsWritableRecord, recorded_operations}
use Rattle.jh_conversation.proofs.TextLemmas.{all_reversed, written_on, written_over}
use Rattle.jh_conversation.proofs.machine.Machine.write_said.Goals as goal

pub write_records-requires-clause-writable : goal.write_records-requires-clause-writable
write_records-requires-clause-writable c =
    let names = c.args.test.now.start.names in
    let records = c.records-records.result.now in
    subst (λ (l : List (List ℕ)). All (IsWritableRecord (length l)) records) (sym c.nodes.ensures)
    (all_reversed (IsWritableRecord (length names)) records (subst (AllByRecursion (IsWritableRecord (length names))) c.records-records.ensures.history c.requires.7.records))

pub returns-in_ok-extend_from_slice : goal.returns-in_ok-extend_from_slice
returns-in_ok-extend_from_slice c =
    let records = c.records-records.result.now in
    written_over c.args.test.now c.args.self.now records c.count_said.result
    (let a = c.count_said.ensures.few in subst (λ n. c.count_said.result ≤ n) (ap length c.records-records.ensures.history ∙ length-reverse records) a)
    c.records-records.ensures.history c.count_said.ensures.said c.args.out.now.items c.write_records.new.out.items
    (c.in_ok-write_records.ensures ∙ ap (λ names. c.args.out.now.items ++ history_lines (recorded_operations names (length records - c.count_said.result) (drop (length records - c.count_said.result) records))) c.nodes.ensures)
    c.extend_from_slice.new.self.items c.in_ok-extend_from_slice.ensures.items (sym c.is_over.ensures ∙ c.if-is_over.true)

pub returns-else-is_over : goal.returns-else-is_over
returns-else-is_over c =
    let records = c.records-records.result.now in
    written_on c.args.test.now c.args.self.now records c.count_said.result
    (let a = c.count_said.ensures.few in subst (λ n. c.count_said.result ≤ n) (ap length c.records-records.ensures.history ∙ length-reverse records) a)
    c.records-records.ensures.history c.count_said.ensures.said c.args.out.now.items c.write_records.new.out.items
    (c.in_ok-write_records.ensures ∙ ap (λ names. c.args.out.now.items ++ history_lines (recorded_operations names (length records - c.count_said.result) (drop (length records - c.count_said.result) records))) c.nodes.ensures)
    (sym c.is_over.ensures ∙ c.if-is_over.false)
