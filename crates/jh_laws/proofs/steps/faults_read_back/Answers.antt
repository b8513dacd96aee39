use Rattle.std.proofs.Common.{[], ◌∷◌, sym, subst}
use Rattle.jh_step_texts.specs.FaultWritten.{fault_in_order, edn_of_fault}
use Rattle.jh_laws.specs.StepLines.{IsTextOfFault}
use Rattle.jh_laws.proofs.FaultLemmas.{fault_again}
use Rattle.jh_laws.proofs.LineLemmas.{one_value}
use Rattle.jh_laws.proofs.StepLemmas.{fault_prints}
use Rattle.jh_laws.proofs.steps.faults_read_back.Goals as goal

pub returns-clause-written : goal.returns-clause-written
returns-clause-written c = λ names fault named h. fault_again c.order_changes_no_fault.ensures.links_kept c.order_changes_no_fault.ensures.nodes_kept names named fault h

pub returns-clause-printable : goal.returns-clause-printable
returns-clause-printable c = λ names fault named h. fault_prints names named fault h

pub returns-clause-spells : goal.returns-clause-spells
returns-clause-spells c = λ names fault named h.
    let printable = fault_prints names named fault h in
    let value = edn_of_fault names fault in
    (c.print_laws.ensures.spells value printable, λ others spelled. c.print_laws.ensures.alone value others printable spelled)

pub returns-clause-bytes : goal.returns-clause-bytes
returns-clause-bytes c = λ names fault value named h spelled.
    let same = one_value (c.print_laws.ensures.alone (edn_of_fault names fault) (value ∷ []) (fault_prints names named fault h) spelled) in
    subst (λ v. IsTextOfFault v names (fault_in_order fault)) (sym same)
    (fault_again c.order_changes_no_fault.ensures.links_kept c.order_changes_no_fault.ensures.nodes_kept names named fault h)
