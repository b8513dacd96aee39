use Rattle.std.proofs.Common.{take}
use Rattle.std.specs.Io.KnownBytes.{Appends}
use Rattle.std.specs.List.{flat_map}
use Rattle.jh_plot_pages.specs.Lines.{quantile_vertex}
use Rattle.jh_plot_pages.proofs.lines.write_quantile_vertices.Given as goal

abbrev pub invariant-loop-row : goal.invariant-loop-row
invariant-loop-row g l =
    let contents = g.W.Write.contents in
    Appends (contents l.fn.writer) (contents l.writer) (flat_map (quantile_vertex l.quantile) (take l.row-index l.rows))
