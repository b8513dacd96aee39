use Rattle.std.proofs.Common.{◌∙◌, ap}
use Rattle.jh_edn.specs.View.{views}
use Rattle.jh_ops.specs.Operation.{operations}
use Rattle.jh_bands.specs.BandsInside.{bands_along, view_changes}
use Rattle.jh_bands.proofs.HistoryLemmas.{bands_of_history, bands_same, bands_seen}
use Rattle.jh_bands.proofs.bands.bands_of.Goals as goal

pub returns-clause-bands : goal.returns-clause-bands
returns-clause-bands c =
    bands_same c.bands_of_changes.result _ _
    (ap (λ cs. bands_along (view_changes cs)) c.deref.ensures.value
    ∙ bands_of_history (views c.args.steps.now) (operations c.args.history.now) c.in_ok-changes.changes.items c.in_ok-changes.ensures)
    c.bands_of_changes.ensures

pub returns-clause-within : goal.returns-clause-within
returns-clause-within c =
    bands_seen c.bands_of_changes.result (views c.args.steps.now) c.args.history.now _
    (ap (λ cs. bands_along (view_changes cs)) c.deref.ensures.value
    ∙ bands_of_history (views c.args.steps.now) (operations c.args.history.now) c.in_ok-changes.changes.items c.in_ok-changes.ensures)
    c.bands_of_changes.ensures
