use Rattle.std.proofs.Common.{take}
use Rattle.jh_ops.specs.Operation.{operations}
use Rattle.jh_plots.specs.Shades.{AreShadesOf}
use Rattle.jh_plots.proofs.shades.shades_of.Given as goal

abbrev pub invariant-loop-band : goal.invariant-loop-band
invariant-loop-band l = AreShadesOf (operations l.history) (take l.band-index l.bands) l.shades.items
