use Rattle.std.proofs.Common.{rules}
use Rattle.std.proofs.lemmas.Iterator.{YieldsList-from_map, YieldsList-from_slice, items_from_collect}
use Rattle.std.proofs.lemmas.Iterator.Consumers.{YieldsList-at}
use Rattle.jh_txn_findings.specs.declared.finding.FoundStep.{FoundStep}
use Rattle.jh_timeline_marks.proofs.transactions.places_in.Goals as goal

pub returns : goal.returns
returns c =
    items_from_collect _ c.collect.ensures.ran
    (YieldsList-from_map _ (λ (step : FoundStep). step.place)
    (YieldsList-at c.map.ensures.source (YieldsList-from_slice c.args.steps.now c.iter.ensures.rest))
    c.map.ensures.closure (λ x r q k. search rules))
