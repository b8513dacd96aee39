-- The bands of a picture, byte for byte (this project's own; SVG within HTML that is XML too): a box for
-- each fault while it is active.
use Rattle.std.specs.Prelude.{ℕ, ◌+◌, ◌-◌, ◌*◌, ◌==◌, min, max, List, [], ◌∷◌, ◌++◌, codes}
use Rattle.std.specs.Prelude.{if◌then◌else◌}
use Rattle.std.specs.Fmt.{decimal}
use Rattle.std.specs.Option.{option_map_or}
use Rattle.jh_bands.specs.declared.band.Band.{Band}
use Rattle.jh_timeline_pages.specs.Markup.{escaped_bytes}
use Rattle.jh_timeline_pages.specs.Pixels.{top_of}
use Rattle.jh_timeline_pages.specs.declared.pixels.Frame.{Frame}

-- the index of the first row of a band: that of its first record, or the first row of all
abbrev pub band_from : Frame → Band → ℕ
band_from frame band = max band.from frame.from

-- the index of the row above which it ends: that of its last record, or the end of what is drawn
abbrev pub band_to : Frame → Band → ℕ
band_to frame band = option_map_or (λ to. min to frame.end) band.to frame.end

-- how high a band is
abbrev pub band_height : Frame → Band → ℕ
band_height frame band = top_of frame (band_to frame band) - top_of frame (band_from frame band)

-- the box of a band: across all lanes, from its first row to its last
abbrev pub band_head : ℕ → ℕ → List ℕ
band_head top height =
    codes "<svg class=\"band\" y=\"" ++ (decimal top
    ++ (codes "\" width=\"100%\" height=\"" ++ (decimal height
    ++ codes "\"><rect width=\"100%\" height=\"100%\"/><title>")))

-- where the label of a band ends, at the right of the margin: below those of so many bands right before it that begin in its row
abbrev pub band_label_place : ℕ → List ℕ
band_label_place before =
    codes "</title><text x=\"236\" y=\"" ++ (decimal (28 + 16 * before) ++ codes "\">")

-- a band behind so many others that begin in its row: its box, and its label in its title and in it
abbrev pub band_text : Frame → ℕ → Band → List ℕ
band_text frame before band =
    band_head (top_of frame (band_from frame band)) (band_height frame band)
    ++ escaped_bytes band.label.items ++ band_label_place before
    ++ escaped_bytes band.label.items ++ codes "</text></svg>\n"

-- how many bands right before one begin in its row, where so many right before it begin in another row
abbrev pub bands_before : (row last count : ℕ) → ℕ
bands_before row last count = if row == last then count else 0

-- the bands of a list, where so many right before it begin in a row
abbrev pub bands_behind : Frame → (last count : ℕ) → List Band → List ℕ
bands_behind frame last count [] = []
bands_behind frame last count (band ∷ bands) =
    band_text frame (bands_before (band_from frame band) last count) band
    ++ bands_behind frame (band_from frame band)
    (bands_before (band_from frame band) last count + 1) bands

-- the bands of a picture, none of which is before the first
abbrev pub bands_text : Frame → List Band → List ℕ
bands_text frame bands = bands_behind frame 0 0 bands
