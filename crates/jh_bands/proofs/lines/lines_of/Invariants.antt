use Rattle.std.specs.Prelude.{option_map}
use Rattle.jh_edn.specs.View.{views}
use Rattle.jh_ops.specs.Operation.{operations}
use Rattle.jh_bands.specs.BandsInside.{view_asked}
use Rattle.jh_bands.specs.Lines.{lines_in}
use Rattle.jh_bands.proofs.LineLemmas.{Along}
use Rattle.jh_bands.proofs.lines.lines_of.Given as goal

abbrev pub invariant-loop-index : goal.invariant-loop-index
invariant-loop-index l =
    Along l.lines.items (views l.steps) (option_map view_asked l.waiting) l.history l.index (lines_in (views l.steps) (operations l.history))
