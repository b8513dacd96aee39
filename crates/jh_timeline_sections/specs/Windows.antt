-- Which records of a history a section shows (this project's own). Indexes count the records of the
-- whole history from 0.
use Rattle.std.specs.Prelude.{ℕ, ◌+◌, ◌-◌, Bool, ◌&&◌, List, if◌then◌else◌}
use Rattle.std.specs.Prelude.{is_none, min, nat_lt, option_and_then, option_map, slice_get, Option}
use Rattle.std.specs.Prelude.{unwrap_or}
use Rattle.jh_timeline_sections.specs.declared.window.Choice.{Choice}
use Rattle.jh_timeline.specs.Lanes.{call_end}
use Rattle.jh_timeline.specs.declared.marks.Mark.{Mark}
use Rattle.jh_timeline.specs.declared.picture.Call.{Call}
use Rattle.jh_timeline.specs.declared.picture.Window.{Window}
use Rattle.jh_timeline_pages.specs.Marks.{first_pointer}

-- of so many records all are shown where none are chosen
abbrev pub max_whole : ℕ
max_whole = 2000

-- of more, so many are shown around what is pointed at
abbrev pub shown_around : ℕ
shown_around = 1000

-- and so many of these stand before it
abbrev pub shown_before : ℕ
shown_before = 500

-- the index at which the call ends at whose mark a page is looked at first
abbrev pub focus_of : List Call → List Mark → Option ℕ
focus_of calls marks =
    option_and_then (λ mark. option_map call_end (slice_get calls mark.call)) (first_pointer marks)

-- no records are chosen, and there are too many to show all
abbrev pub is_open : Choice → ℕ → Bool
is_open choice total = is_none choice.from && is_none choice.to && nat_lt max_whole total

-- the records that are chosen, or all
abbrev pub chosen_window : Choice → ℕ → Window
chosen_window choice total =
    record {
      from = min (unwrap_or choice.from 0) total;
      to = min
          (unwrap_or choice.to total) total;
    }

-- the records around an index, or the first
abbrev pub focus_window : Option ℕ → ℕ → Window
focus_window focus total =
    let from = unwrap_or focus 0
    - shown_before in record { from = from; to = min (from + shown_around) total }

-- the records that are shown of so many
abbrev pub window_of : Choice → ℕ → Option ℕ → Window
window_of choice total focus =
    if is_open choice total then focus_window focus total else chosen_window choice total
