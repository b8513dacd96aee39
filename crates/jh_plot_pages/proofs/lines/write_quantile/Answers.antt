use Rattle.std.proofs.Common.{◌∙◌, [], cond, sym, subst}
use Rattle.std.proofs.lemmas.Result.{on_ok_weaker}
use Rattle.std.specs.Io.KnownBytes.{Appends}
use Rattle.std.specs.List.{flat_map}
use Rattle.std.specs.Prelude.{OnOk}
use Rattle.jh_edn.proofs.CitedLemmas.{appends_then}
use Rattle.jh_plot_pages.specs.Lines.{polyline_opening, polyline_text, quantile_vertex, quantile_class}
use Rattle.jh_plot_pages.proofs.lines.write_quantile.Goals as goal

pub returns-clause-bytes : goal.returns-clause-bytes
returns-clause-bytes g c =
    let contents = g.W.Write.contents in
    let start = contents c.args.writer.now in
    let given = polyline_text (quantile_class c.args.quantile) (flat_map (quantile_vertex c.args.quantile) c.args.rows.now) in
    let opening = subst (λ w. Appends start (contents c.write_opening.new.writer) (polyline_opening w)) c.quantile_class.ensures c.in_ok-write_opening.ensures.bytes in
    let one = appends_then start (contents c.write_opening.new.writer) (contents c.write_quantile_vertices.new.writer) _ _ opening c.in_ok-write_quantile_vertices.ensures.bytes in
    subst (λ none. OnOk c.put.result (Appends start (contents c.put.new.writer) (cond none [] given)))
    (sym c.if-is_empty.false ∙ c.is_empty.ensures)
    (on_ok_weaker c.put.result (λ end. appends_then start (contents c.write_quantile_vertices.new.writer) (contents c.put.new.writer) _ _ one end) c.put.ensures.bytes)
