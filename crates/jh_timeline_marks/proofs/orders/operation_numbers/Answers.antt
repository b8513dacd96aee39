use Rattle.std.proofs.Common.{rules}
use Rattle.std.proofs.lemmas.Iterator.{YieldsList-from_map, YieldsList-from_slice, items_from_collect}
use Rattle.std.proofs.lemmas.Iterator.Consumers.{YieldsList-at}
use Rattle.jh_ops.specs.Operation.{operations}
use Rattle.jh_timeline_marks.specs.Marked.{operation_number}
use Rattle.jh_timeline_marks.proofs.orders.operation_numbers.Goals as goal

pub returns : goal.returns
returns c =
    items_from_collect _ c.collect.ensures.ran
    (YieldsList-from_map _ (operation_number (operations c.args.history.now))
    (YieldsList-at c.map.ensures.source (YieldsList-from_slice c.args.calls.now c.iter.ensures.rest))
    c.map.ensures.closure (λ x r q k. search rules))
