use Rattle.std.proofs.Common.{rules, tests, ℕ}
use Rattle.std.proofs.lemmas.Iterator.{YieldsList-from_map, YieldsList-from_slice, items_from_collect}
use Rattle.std.proofs.lemmas.Iterator.Consumers.{YieldsList-at, YieldsList-from_enumerate, YieldsList-from_filter}
use Rattle.jh_ops.specs.declared.operation.Op.{Op}
use Rattle.jh_timeline_marks.specs.MarkedInside.{is_invocation}
use Rattle.jh_timeline_marks.proofs.orders.invocations.Goals as goal

pub returns : goal.returns
returns c =
    items_from_collect _ c.collect.ensures.ran
    (YieldsList-from_map _ (λ (numbered : ℕ × Op). numbered.0)
    (YieldsList-at c.map.ensures.source
    (YieldsList-from_filter _ (λ (numbered : ℕ × Op). is_invocation numbered.1)
    (YieldsList-at c.filter.ensures.source (YieldsList-from_enumerate (YieldsList-at c.enumerate.ensures.source (YieldsList-from_slice c.args.history.now c.iter.ensures.rest)) c.enumerate.ensures.count))
    c.filter.ensures.closure (λ x r q k. search (rules, tests))))
    c.map.ensures.closure (λ x r q k. search (rules, tests)))
