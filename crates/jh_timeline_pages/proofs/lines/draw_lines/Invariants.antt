use Rattle.std.proofs.Common.{take}
use Rattle.std.specs.Io.KnownBytes.{Appends}
use Rattle.std.specs.List.{flat_map}
use Rattle.jh_timeline_pages.specs.Drawings.{drawn_line}
use Rattle.jh_timeline_pages.proofs.lines.draw_lines.Given as goal

abbrev pub invariant-loop-line : goal.invariant-loop-line
invariant-loop-line g l =
    let contents = g.W.Write.contents in
    Appends (contents l.fn.writer) (contents l.writer) (flat_map (drawn_line l.frame l.section) (take l.line-index l.line-items))
