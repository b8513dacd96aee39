use Rattle.std.proofs.Common.{take}
use Rattle.std.specs.Io.KnownBytes.{Appends}
use Rattle.std.specs.List.{flat_map}
use Rattle.jh_timeline_pages.specs.Drawings.{drawn_bar}
use Rattle.jh_timeline_pages.proofs.bars.draw_bars.Given as goal

abbrev pub invariant-loop-bar : goal.invariant-loop-bar
invariant-loop-bar g l =
    let contents = g.W.Write.contents in
    Appends (contents l.fn.writer) (contents l.writer) (flat_map (drawn_bar l.frame l.section) (take l.bar-index l.bar-items))
