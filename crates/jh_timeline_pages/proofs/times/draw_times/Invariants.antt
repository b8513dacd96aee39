use Rattle.std.proofs.Common.{take}
use Rattle.std.specs.Io.KnownBytes.{Appends}
use Rattle.std.specs.List.{enumerate_from, flat_map}
use Rattle.jh_timeline_pages.specs.Times.{row_time_text}
use Rattle.jh_timeline_pages.proofs.times.draw_times.Given as goal

abbrev pub invariant-loop-index : goal.invariant-loop-index
invariant-loop-index g l =
    let contents = g.W.Write.contents in
    Appends (contents l.fn.writer) (contents l.writer) (flat_map (λ numbered. row_time_text l.frame numbered.0 numbered.1.time) (take l.index (enumerate_from 0 l.history)))
