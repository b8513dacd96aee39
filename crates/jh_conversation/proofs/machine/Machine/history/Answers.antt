use Rattle.std.proofs.Common.{All, List, ℕ, length, subst, sym}
use Rattle.std.specs.List.{AllByRecursion}
use Rattle.jh_ops.specs.Operation.{operations}
use Rattle.jh_test_parts.specs.Records.{IsWritableRecord}
use Rattle.jh_conversation.proofs.TextLemmas.{all_reversed, history_is, if_ok}
use Rattle.jh_conversation.proofs.machine.Machine.history.Goals as goal

pub operations_of-requires-clause-writable : goal.operations_of-requires-clause-writable
operations_of-requires-clause-writable c =
    let names = c.args.test.now.start.names in
    let records = c.records.result.now in
    subst (λ (l : List (List ℕ)). All (IsWritableRecord (length l)) records) (sym c.nodes.ensures)
    (all_reversed (IsWritableRecord (length names)) records (subst (AllByRecursion (IsWritableRecord (length names))) c.records.ensures.history c.requires.7.records))

pub returns : goal.returns
returns c =
    if_ok c.operations_of.result
    (λ history is. history_is c.args.test.now c.args.self.now c.records.result.now c.nodes.result.now c.nodes.ensures c.records.ensures.history (operations history.items) is)
    c.operations_of.ensures
