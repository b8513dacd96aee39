use Rattle.std.proofs.Common.{◌≡◌, ◌∙◌, Bool, List, ◌∷◌, sym, ap, subst}
use Rattle.std.specs.List.{list_any}
use Rattle.jh_txn_findings.specs.CycleNames.{are_anti_dependencies, is_anti_dependency, neighbours}
use Rattle.jh_txn_findings.specs.NeighboursInside.{meets_two}
use Rattle.jh_txn_findings.specs.declared.finding.FoundStep.{FoundStep}
use Rattle.jh_txn_findings.proofs.NeighbourLemmas.{meets_neighbours}
use Rattle.jh_txn_findings.proofs.cycle_name.has_neighbours.Goals as goal

pub loop-step-init : goal.loop-step-init
loop-step-init c =
    let test : FoundStep → Bool = λ step. is_anti_dependency step.why in
    let first = c.in-Some.first.now in
    let others = c.in-Some.others.now in
    let split : c.args.steps.now ≡ first ∷ others = c.in-Some.ensures.cases.0 in
    subst (λ (before : Bool). meets_two test before others (test first) ≡ list_any are_anti_dependencies (neighbours c.args.steps.now)) (sym c.is_anti_dependency-before.ensures)
    (meets_neighbours test first first others ∙ ap (λ (steps : List FoundStep). list_any are_anti_dependencies (neighbours steps)) (sym split))
