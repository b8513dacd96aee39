-- Why there is no plot.
use Rattle.std.proofs.Common.{refl, List}
use Rattle.jh_ops.specs.Operation.{Operation}
use Rattle.jh_ops.specs.Pairing.{RefusesPairing}
use Rattle.jh_ops.specs.declared.pairs.PairError.{PairError}
use Rattle.jh_ops.specs.declared.pairs.PairError.TheVariants.{AfterCrash, DoubleInvoke, NoInvoke, OutOfMemory}
use Rattle.jh_plots.specs.Plots.{HasNoPlot, plot_error_of_pairing}
use Rattle.jh_plots.specs.Times.{HaveTimes}

pub refused_by_pairs : (history : List Operation) (error : PairError) → HaveTimes history → RefusesPairing history error → HasNoPlot history (plot_error_of_pairing error)
refused_by_pairs history OutOfMemory have h = have
refused_by_pairs history (AfterCrash place) have h = (have, refl, h)
refused_by_pairs history (DoubleInvoke place) have h = (have, refl, h)
refused_by_pairs history (NoInvoke place) have h = (have, refl, h)
