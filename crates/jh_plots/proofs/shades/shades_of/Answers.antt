use Rattle.jh_ops.specs.Operation.{operations}
use Rattle.jh_plots.specs.Shades.{IsShadeOf}
use Rattle.jh_plots.proofs.PanelLemmas.{zip_push}
use Rattle.jh_plots.proofs.shades.shades_of.Goals as goal

pub loop-band-preserved : goal.loop-band-preserved
loop-band-preserved c =
    zip_push (IsShadeOf (operations c.args.history.now)) c.args.bands.now c.loop-band.band-index c.band-item.result c.loop-band.shades.items c.push.new.self.items c.in_ok-shade_of.field-0
    c.loop-band-test.true c.band-item.is c.in_ok-push.ensures.items c.loop-band.invariant c.in_ok-shade_of.ensures
