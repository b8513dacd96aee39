-- The page of a plot, byte for byte (this project's own; HTML that is XML too).
use Rattle.std.specs.Prelude.{ℕ, List, ◌++◌, ◌==◌, codes, if◌then◌else◌, length}
use Rattle.std.specs.Fmt.{decimal}
use Rattle.std.specs.List.{flat_map}
use Rattle.jh_plots.specs.declared.plot.Panel.{Panel}
use Rattle.jh_plots.specs.declared.plot.Plot.{Plot}
use Rattle.jh_plot_pages.specs.Pictures.{latencies_text, percentiles_text, rates_text}
use Rattle.jh_plot_pages.specs.declared.page.TheConstants.{HEAD, NOTHING}
use Rattle.jh_timeline_pages.specs.Markup.{escaped_bytes}

-- how many calls a panel has
abbrev pub calls_text : ℕ → List ℕ
calls_text calls = codes ", calls: " ++ (decimal calls ++ codes "</h2>\n")

-- a panel: its functions, how many calls it has, and its three pictures
abbrev pub panel_text : Plot → Panel → List ℕ
panel_text plot panel =
    codes "<section>\n<h2>" ++ escaped_bytes panel.heading.items ++ calls_text panel.calls
    ++ latencies_text plot panel ++ percentiles_text plot panel ++ rates_text plot panel
    ++ codes "</section>\n"

-- all panels; where there is none, a sentence that says so
abbrev pub panels_text : Plot → List ℕ
panels_text plot =
    if length plot.panels.items == 0 then NOTHING.now
    else flat_map (panel_text plot) plot.panels.items

-- the whole page
unfoldable pub plot_page_text : Plot → List ℕ
plot_page_text plot = HEAD.now ++ panels_text plot ++ codes "</body>\n</html>\n"
