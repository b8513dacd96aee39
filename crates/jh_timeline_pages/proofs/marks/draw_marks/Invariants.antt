use Rattle.std.proofs.Common.{take}
use Rattle.std.specs.Io.KnownBytes.{Appends}
use Rattle.std.specs.List.{flat_map}
use Rattle.jh_timeline_pages.specs.Drawings.{drawn_mark}
use Rattle.jh_timeline_pages.proofs.marks.draw_marks.Given as goal

abbrev pub invariant-loop-mark : goal.invariant-loop-mark
invariant-loop-mark g l =
    let contents = g.W.Write.contents in
    Appends (contents l.fn.writer) (contents l.writer) (flat_map (drawn_mark l.number l.frame l.section) (take l.mark-index l.mark-items))
