-- What lies behind the data of a picture, byte for byte: its axes with their numbers, and the times of faults (this project's
-- own; SVG 2 within HTML that is XML too). The lower left pixel of a panel is where a picture counts from. SVG counts down, so
-- what is above that pixel has a minus.
use Rattle.std.specs.Prelude.{ℕ, List, ◌++◌, codes}
use Rattle.std.specs.Fmt.{decimal}
use Rattle.std.specs.List.{flat_map}
use Rattle.jh_plots.specs.declared.plot.Shade.{Shade}
use Rattle.jh_plots.specs.declared.plot.Tick.{Tick}
use Rattle.jh_plot_pages.specs.Labels.{latency_text, rate_text, time_text}
use Rattle.jh_plot_pages.specs.declared.axes.Axis.{Axis}
use Rattle.jh_timeline_pages.specs.Markup.{escaped_bytes}

-- ---- times of faults

-- the area of a shade: over the whole height, from one pixel to another
abbrev pub area_text : ℕ → ℕ → List ℕ
area_text from to =
    codes "<path d=\"M" ++ (decimal from ++ (codes " 0V-299H" ++ (decimal to ++ codes "V0z\"><title>")))

-- the time that a fault was active, which says what fault it is
abbrev pub shade_text : Shade → List ℕ
shade_text shade =
    area_text shade.from shade.to ++ escaped_bytes shade.label.items ++ codes "</title></path>\n"

abbrev pub shades_text : List Shade → List ℕ
shades_text shades = codes "<g class=\"shades\">\n" ++ flat_map shade_text shades ++ codes "</g>\n"

-- ---- axes

-- a line upwards from a pixel, and where its number stands: below it
abbrev pub upward_text : ℕ → List ℕ
upward_text pixel =
    codes "<path d=\"M" ++ (decimal pixel ++ (codes " 0v-299\"/><text x=\"" ++ (decimal pixel
    ++ codes "\" y=\"18\">")))

-- a line to the right from a pixel, and where its number stands: at the left of it
abbrev pub rightward_text : ℕ → List ℕ
rightward_text pixel =
    codes "<path d=\"M0-" ++ (decimal pixel ++ (codes "h899\"/><text x=\"-8\" y=\"-"
    ++ (decimal pixel ++ codes "\">")))

abbrev pub across_text : Axis → ℕ → List ℕ
across_text Axis.Times pixel = upward_text pixel
across_text _ pixel = rightward_text pixel

-- a number of an axis, with its unit
abbrev pub axis_number_text : Axis → ℕ → List ℕ
axis_number_text Axis.Times milliseconds = time_text milliseconds
axis_number_text Axis.Latencies nanoseconds = latency_text nanoseconds
axis_number_text Axis.Rates calls = rate_text calls

-- a number of an axis, with a line across the picture
abbrev pub tick_text : Axis → Tick → List ℕ
tick_text axis tick =
    across_text axis tick.pixel ++ axis_number_text axis tick.value ++ codes "</text>\n"

-- the class of an axis in the style
abbrev pub axis_class : Axis → List ℕ
axis_class Axis.Times = codes "times"
axis_class _ = codes "levels"

abbrev pub axis_text : List Tick → Axis → List ℕ
axis_text ticks axis =
    codes "<g class=\"" ++ axis_class axis ++ codes "\">\n" ++ flat_map (tick_text axis) ticks
    ++ codes "</g>\n"
