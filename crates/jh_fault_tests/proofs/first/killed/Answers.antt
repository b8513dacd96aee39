use Rattle.std.proofs.Common.{◌≡◌, [], ◌∷◌, rules}
use Rattle.jh_tables.specs.Faults.{is_same_node}
use Rattle.jh_fault_tests.proofs.FaultLemmas.{one_apart}
use Rattle.jh_fault_tests.proofs.first.killed.Goals as goal

pub put-requires-clause-right : goal.put-requires-clause-right
put-requires-clause-right c =
    let items : c.in_ok-ok.field-0.items ≡ c.at-node.result ∷ [] = search rules in
    one_apart is_same_node c.in_ok-ok.field-0.items c.at-node.result items
