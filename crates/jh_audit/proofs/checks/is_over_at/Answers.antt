use Rattle.std.proofs.lemmas.Bool.{false≢true}
use Rattle.jh_ops.specs.Operation.{operation, operations}
use Rattle.jh_audit.proofs.AuditLemmas.{op_at, over_at, over_form}
use Rattle.jh_audit.proofs.checks.is_over_at.Goals as goal

pub returns-in-Some : goal.returns-in-Some
returns-in-Some c =
    let history = c.args.history.now in
    let place = c.args.place in
    let op = c.index-history-place.result in
    let at = op_at history place op c.requires c.index-history-place.is in
    let says = c.in-Some.ensures.says in (
      λ holds. over_at (operations history) place (operation op) c.in-Some.form at says (c.is_over.ensures.0 holds),
      λ over. c.is_over.ensures.1 (over_form (operations history) place (operation op) c.in-Some.form at says over),
    )

pub returns-in-None : goal.returns-in-None
returns-in-None c = (λ never. absurd (false≢true never), λ over. absurd (c.in-None.ensures.says over.1 (over.0, over.2, over.3)))
