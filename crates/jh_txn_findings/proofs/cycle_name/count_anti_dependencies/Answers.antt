use Rattle.std.proofs.Common.{◌∙◌, rules, tests}
use Rattle.std.proofs.lemmas.Iterator.{YieldsList-from_slice}
use Rattle.std.proofs.lemmas.Iterator.Consumers.{YieldsList-from_filter, count_from_yields_List}
use Rattle.std.proofs.lemmas.List.Sums.{length-filter}
use Rattle.jh_txn_findings.specs.CycleNames.{is_anti_dependency}
use Rattle.jh_txn_findings.specs.declared.finding.FoundStep.{FoundStep}
use Rattle.jh_txn_findings.proofs.cycle_name.count_anti_dependencies.Goals as goal

pub returns : goal.returns
returns c =
    let test = λ (step : FoundStep). is_anti_dependency step.why in
    count_from_yields_List c.filter.result _ c.count.ensures.ran (YieldsList-from_filter _ test (YieldsList-from_slice c.args.steps.now (cc)) c.filter.ensures.closure (λ x b q k. search (rules, tests)))
    ∙ length-filter test c.args.steps.now
