use Rattle.std.proofs.Common.{All, List, ℕ, length, subst, sym}
use Rattle.std.specs.List.{AllByRecursion}
use Rattle.jh_test_parts.specs.Records.{IsWritableRecord}
use Rattle.jh_conversation.proofs.TextLemmas.{all_reversed, history_written, on_ok}
use Rattle.jh_conversation.proofs.machine.Machine.write_history.Goals as goal

pub write_records-requires-clause-writable : goal.write_records-requires-clause-writable
write_records-requires-clause-writable c =
    let names = c.args.test.now.start.names in
    let records = c.records.result.now in
    subst (λ (l : List (List ℕ)). All (IsWritableRecord (length l)) records) (sym c.nodes.ensures)
    (all_reversed (IsWritableRecord (length names)) records (subst (AllByRecursion (IsWritableRecord (length names))) c.records.ensures.history c.requires.7.records))

pub returns : goal.returns
returns c =
    on_ok c.write_records.result
    (history_written c.args.test.now c.args.self.now c.records.result.now c.nodes.result.now c.args.out.now.items c.write_records.new.out.items c.nodes.ensures c.records.ensures.history)
    c.write_records.ensures
