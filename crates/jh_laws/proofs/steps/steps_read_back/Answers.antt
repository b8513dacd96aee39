use Rattle.std.proofs.Common.{length, map, ap, ◌∙◌}
use Rattle.std.proofs.lemmas.List.Elements.{recursion_from_All}
use Rattle.jh_step_texts.specs.StepText.{parsed_step}
use Rattle.jh_step_texts.specs.StepWritten.{edn_of_step}
use Rattle.jh_laws.specs.StepLines.{IsStepOver}
use Rattle.jh_laws.proofs.StepLemmas.{step_again, step_prints, steps_again, steps_print}
use Rattle.jh_laws.proofs.steps.steps_read_back.Goals as goal

pub returns-clause-written : goal.returns-clause-written
returns-clause-written c = λ names step named h. step_again c.order_changes_no_fault.ensures.links_kept c.order_changes_no_fault.ensures.nodes_kept names named step h

pub returns-clause-printable : goal.returns-clause-printable
returns-clause-printable c = λ names step named h. step_prints names named step h

pub returns-clause-spells : goal.returns-clause-spells
returns-clause-spells c = λ names step named h.
    let printable = step_prints names named step h in
    let value = edn_of_step names step in
    (c.print_laws.ensures.spells value printable, λ others spelled. c.print_laws.ensures.alone value others printable spelled)

pub returns-clause-lines : goal.returns-clause-lines
returns-clause-lines c = λ names steps named all. c.lines_read_back.ensures (map (edn_of_step names) steps) (steps_print names named steps all)

pub returns-clause-bytes : goal.returns-clause-bytes
returns-clause-bytes c = λ names steps values named all spelled.
    let texts = map (edn_of_step names) steps in
    let same = (c.lines_read_back.ensures texts (steps_print names named steps all)).1 values spelled in
    ap (map (parsed_step names)) same
    ∙ steps_again c.order_changes_no_fault.ensures.links_kept c.order_changes_no_fault.ensures.nodes_kept names named steps (recursion_from_All (IsStepOver (length names)) steps all)
