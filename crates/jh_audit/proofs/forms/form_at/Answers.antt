use Rattle.std.proofs.Common.{sym, ap, ◌∙◌}
use Rattle.std.specs.Prelude.{option_and_then}
use Rattle.jh_ops.specs.Operation.{operations}
use Rattle.jh_audit.specs.DecodeInside.{form_of}
use Rattle.jh_audit.proofs.FormLemmas.{form_found}
use Rattle.jh_audit.proofs.AuditLemmas.{op_at}
use Rattle.jh_audit.proofs.forms.form_at.Goals as goal

-- what is found says what the operation says
pub returns-clause-says : goal.returns-clause-says
returns-clause-says c =
    let history = c.args.history.now in
    let place = c.args.place in
    let at = op_at history place c.index-history-place.result c.requires c.index-history-place.is in
    form_found (operations history) place c.form_of.result (c.form_of.ensures ∙ sym (ap (option_and_then (form_of place)) at))
