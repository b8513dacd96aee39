-- The lines of percentiles and of rates, byte for byte (this project's own; SVG 2, chapter 9, has paths). A line ends with a
-- step of no length, so that a line of one vertex shows too.
use Rattle.std.specs.Prelude.{ℕ, List, [], ◌++◌, ◌==◌, codes, if◌then◌else◌, length}
use Rattle.std.specs.Fmt.{decimal}
use Rattle.std.specs.List.{flat_map}
use Rattle.jh_ops.specs.declared.operation.Kind.{Kind}
use Rattle.jh_plots.specs.declared.plot.Percentiles.{Percentiles}
use Rattle.jh_plots.specs.declared.plot.Rate.{Rate}
use Rattle.jh_plot_pages.specs.Points.{kind_class}
use Rattle.jh_plot_pages.specs.declared.lines.Quantile.{Quantile}

-- a vertex of a line: so far to the right, and so far above the lower edge
abbrev pub vertex_text : ℕ → ℕ → List ℕ
vertex_text x y = decimal x ++ (codes "-" ++ (decimal y ++ codes " "))

-- the opening of a line of a class in the style
abbrev pub polyline_opening : List ℕ → List ℕ
polyline_opening class = codes "<path class=\"" ++ (class ++ codes "\" d=\"M")

-- the line through vertices
abbrev pub polyline_text : List ℕ → List ℕ → List ℕ
polyline_text class vertices = polyline_opening class ++ vertices ++ codes "h0\"/>\n"

-- ---- percentiles

abbrev pub quantile_class : Quantile → List ℕ
quantile_class Quantile.P50 = codes "p50"
quantile_class Quantile.P95 = codes "p95"
quantile_class Quantile.P99 = codes "p99"
quantile_class Quantile.Greatest = codes "greatest"

abbrev pub quantile_height : Quantile → Percentiles → ℕ
quantile_height Quantile.P50 row = row.p50
quantile_height Quantile.P95 row = row.p95
quantile_height Quantile.P99 row = row.p99
quantile_height Quantile.Greatest row = row.greatest

abbrev pub quantile_vertex : Quantile → Percentiles → List ℕ
quantile_vertex quantile row = vertex_text row.x (quantile_height quantile row)

-- the line of a percentile; nothing where there is no row
abbrev pub quantile_text : List Percentiles → Quantile → List ℕ
quantile_text rows quantile =
    if length rows == 0 then []
    else polyline_text (quantile_class quantile) (flat_map (quantile_vertex quantile) rows)

-- ---- rates

abbrev pub rate_height : Kind → Rate → ℕ
rate_height Kind.Ok row = row.ok
rate_height Kind.Fail row = row.fail
rate_height _ row = row.info

abbrev pub rate_vertex : Kind → Rate → List ℕ
rate_vertex kind row = vertex_text row.x (rate_height kind row)

-- the line of calls that ended so; nothing where there is no row
abbrev pub rate_line_text : List Rate → Kind → List ℕ
rate_line_text rows kind =
    if length rows == 0 then []
    else polyline_text (kind_class kind) (flat_map (rate_vertex kind) rows)
