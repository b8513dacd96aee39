-- Shades: the times at which faults were active (this project's own).
use Rattle.std.specs.List.{AllZip}
use Rattle.std.specs.Prelude.{◌≡◌, List}
use Rattle.std.specs.Option.{option_map_or}
use Rattle.jh_ops.specs.Operation.{Operation}
use Rattle.jh_plots.specs.Times.{time_axis_end, moment_or_end, time_pixel}
use Rattle.jh_plots.specs.declared.plot.Shade.{Shade}
use Rattle.jh_bands.specs.declared.band.Band.{Band}

-- the shade of a fault: from the record at which it became active to that at which it ended, or to the
-- end of the time
pub record IsShadeOf (history : List Operation) (band : Band) (shade : Shade) : Type 0 where
  pub from : shade.from ≡ time_pixel (time_axis_end history) (moment_or_end history band.from)
  pub to : shade.to ≡ time_pixel (time_axis_end history)
      (option_map_or (moment_or_end history) band.to (time_axis_end history))
  pub label : shade.label.items ≡ band.label.items

-- a shade for each of them, in order
abbrev pub AreShadesOf : List Operation → List Band → List Shade → Type 0
AreShadesOf history bands shades = AllZip (IsShadeOf history) bands shades
