use Rattle.std.proofs.Common.{◌∙◌, [], cond, sym, subst}
use Rattle.std.proofs.lemmas.Result.{on_ok_weaker}
use Rattle.std.specs.Io.KnownBytes.{Appends}
use Rattle.std.specs.List.{flat_map}
use Rattle.std.specs.Prelude.{OnOk}
use Rattle.jh_edn.proofs.CitedLemmas.{appends_then}
use Rattle.jh_plot_pages.specs.Lines.{polyline_opening, polyline_text, rate_vertex}
use Rattle.jh_plot_pages.specs.Points.{kind_class}
use Rattle.jh_plot_pages.proofs.lines.write_rate_line.Goals as goal

pub returns-clause-bytes : goal.returns-clause-bytes
returns-clause-bytes g c =
    let contents = g.W.Write.contents in
    let start = contents c.args.writer.now in
    let given = polyline_text (kind_class c.args.kind) (flat_map (rate_vertex c.args.kind) c.args.rows.now) in
    let opening = subst (λ w. Appends start (contents c.write_opening.new.writer) (polyline_opening w)) c.kind_class.ensures c.in_ok-write_opening.ensures.bytes in
    let one = appends_then start (contents c.write_opening.new.writer) (contents c.write_rate_vertices.new.writer) _ _ opening c.in_ok-write_rate_vertices.ensures.bytes in
    subst (λ none. OnOk c.put.result (Appends start (contents c.put.new.writer) (cond none [] given)))
    (sym c.if-is_empty.false ∙ c.is_empty.ensures)
    (on_ok_weaker c.put.result (λ end. appends_then start (contents c.write_rate_vertices.new.writer) (contents c.put.new.writer) _ _ one end) c.put.ensures.bytes)
