use Rattle.std.proofs.Common.{take}
use Rattle.std.specs.Io.KnownBytes.{Appends}
use Rattle.std.specs.List.{enumerate_from, flat_map}
use Rattle.jh_timeline_pages.specs.Page.{section_text}
use Rattle.jh_timeline_pages.proofs.page.write_sections.Given as goal

abbrev pub invariant-loop-number : goal.invariant-loop-number
invariant-loop-number g l =
    let contents = g.W.Write.contents in
    Appends (contents l.fn.writer) (contents l.writer) (flat_map (λ numbered. section_text numbered.0 numbered.1) (take l.number (enumerate_from 0 l.sections)))
