use Rattle.jh_edn.specs.View.{view}
use Rattle.jh_settings.proofs.ElementLemmas.{goes_on}
use Rattle.jh_settings.proofs.elements.only_element.Goals as goal

pub returns-else-branch : goal.returns-else-branch
returns-else-branch c =
    let read = rw c.in-Some.is at c.in_ok-element.ensures.element in
    let behind = rw c.if-branch.false at c.in_ok-ends_at.ensures in
    goes_on c.args.text.now (view c.in-Some.element) c.in-Some.end read behind
