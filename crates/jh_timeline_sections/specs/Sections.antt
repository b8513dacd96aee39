-- A section of a page: a history, which of its records are shown, and what was found in it (this
-- project's own).
use Rattle.std.specs.Prelude.{◌≡◌, ℕ, Bool, true, ◌&&◌, nat_le, nat_lt, List, [], length, map, filter}
use Rattle.std.specs.Prelude.{Option, Some, None}
use Rattle.std.specs.Option.{option_map_or}
use Rattle.jh_bands.specs.Bands.{BandValue, bands_in, view_band}
use Rattle.jh_bands.specs.Lines.{LineValue, lines_in, view_line}
use Rattle.jh_checkers.specs.declared.finding.Finding.{Finding}
use Rattle.jh_edn.specs.Edn.{Edn}
use Rattle.jh_ops.specs.Operation.{Operation, operations}
use Rattle.jh_timeline.specs.Lanes.{AreBarsOf, AreKeptApart, AreLanesOf, calls_of, count_left_out}
use Rattle.jh_timeline.specs.declared.marks.Mark.{Mark}
use Rattle.jh_timeline.specs.declared.picture.Call.{Call}
use Rattle.jh_timeline.specs.declared.picture.Window.{Window}
use Rattle.jh_timeline_marks.specs.Marked.{marks_of, operation_number}
use Rattle.jh_timeline_pages.specs.declared.section.Section.{Section}
use Rattle.jh_timeline_sections.specs.Windows.{focus_of, window_of}
use Rattle.jh_timeline_sections.specs.declared.window.Choice.{Choice}

-- ---- marks

-- the marks at these calls of what is found, and none where nothing was judged
abbrev pub marks_in : List Operation → Option Finding → List Call → List Mark
marks_in history None calls = []
marks_in history (Some found) calls = marks_of history found calls

-- the marks at all calls of a history
abbrev pub all_marks : List Operation → Option Finding → List Mark
all_marks history found = marks_in history found (calls_of history)

-- ---- the window

-- the index at which the first call of the history ends that what is found points at
abbrev pub focus_in : List Operation → Option Finding → Option ℕ
focus_in history found = focus_of (calls_of history) (all_marks history found)

-- the records that are shown: where there are too many, those around that index
abbrev pub window_in : Choice → List Operation → Option Finding → Window
window_in choice history found = window_of choice (length history) (focus_in history found)

-- ---- the nemesis

-- the fault is active in the window: it begins before the window's end, and ends, if it does, behind
-- the window's first record
abbrev pub is_active_in : Window → BandValue → Bool
is_active_in window band =
    nat_lt band.from window.to && option_map_or (nat_lt window.from) band.to true

-- the bands of a history that are active in the window, in order
abbrev pub bands_shown : Window → List Edn → List Operation → List BandValue
bands_shown window steps history = filter (is_active_in window) (bands_in steps history)

-- the record of the line is in the window
abbrev pub is_line_in : Window → LineValue → Bool
is_line_in window line = nat_le window.from line.index && nat_lt line.index window.to

-- the lines of a history that are in the window, in order
abbrev pub lines_shown : Window → List Edn → List Operation → List LineValue
lines_shown window steps history = filter (is_line_in window) (lines_in steps history)

-- ---- sections

-- The section has this heading and this history, the window, what of the history is drawn in it,
-- no two bars over each other, the numbers by which orders name what the bars show, and a mark for
-- what was found. Steps are those of the schedule of what
-- recorded the history.
pub record IsSectionOf (heading : List ℕ) (history : List Operation) (steps : List Edn)
    (found : Option Finding) (choice : Choice) (section : Section)
    : Type 0 where
  pub titled : section.heading.items ≡ heading
  pub records : operations section.history.items ≡ history
  pub window : section.window ≡ window_in choice history found
  pub bars : AreBarsOf section.window history (all_marks history found) section.picture.bars.items
  pub apart : AreKeptApart section.window section.picture.bars.items
  pub left_out : section.picture.left_out
      ≡ count_left_out section.window history (all_marks history found)
  pub lanes : AreLanesOf section.picture.bars.items section.picture.lanes.items
  pub bands : map view_band section.bands.items ≡ bands_shown section.window steps history
  pub lines : map view_line section.lines.items ≡ lines_shown section.window steps history
  pub numbers : section.numbers.items
      ≡ map (operation_number history) (map (λ bar. bar.call) section.picture.bars.items)
  pub marks : section.marks.items
      ≡ marks_in history found (map (λ bar. bar.call) section.picture.bars.items)
