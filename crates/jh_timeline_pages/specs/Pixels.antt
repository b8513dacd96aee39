-- Where the picture of a history has what is drawn, in pixels (this project's own).
use Rattle.std.specs.Prelude.{ℕ, ◌+◌, ◌-◌, ◌*◌, min, max, Bool, ◌&&◌, nat_le, nat_lt, List}
use Rattle.std.specs.Prelude.{if◌then◌else◌, is_some, vec_len}
use Rattle.std.specs.List.{list_any}
use Rattle.std.specs.Option.{option_map_or}
use Rattle.jh_ops.specs.declared.operation.Op.{Op}
use Rattle.jh_timeline.specs.declared.picture.Bar.{Bar}
use Rattle.jh_timeline.specs.declared.picture.Call.{Call}
use Rattle.jh_timeline.specs.declared.picture.Window.{Window}
use Rattle.jh_timeline_pages.specs.declared.pixels.Frame.{Frame}
use Rattle.jh_timeline_pages.specs.declared.section.Section.{Section}

-- ---- which rows there are

-- the index before which records are drawn
abbrev pub end_in : Window → ℕ → ℕ
end_in window total = min window.to total

-- a record says when it was made
abbrev pub has_times : List Op → Bool
has_times history = list_any (λ op. is_some op.time) history

-- the rows of a section, and whether its picture has a column of times
abbrev pub frame_of : Section → Frame
frame_of section =
    record {
      from = section.window.from;
      end = end_in section.window (vec_len section.history);
      has_times = has_times section.history.items;
    }

-- the record at an index is drawn
abbrev pub is_row_drawn : Frame → ℕ → Bool
is_row_drawn frame index = nat_le frame.from index && nat_lt index frame.end

-- ---- to the right

-- how wide a lane is, the margin of the nemesis, which is at the left of all, and the column of times
abbrev pub lane_width : ℕ
lane_width = 240

abbrev pub margin_width : ℕ
margin_width = 240

abbrev pub times_width : ℕ
times_width = 80

-- how far to the right the lanes begin: behind the margin, and behind the column where there is one
abbrev pub lanes_left : Frame → ℕ
lanes_left frame = margin_width + (if frame.has_times then times_width else 0)

-- how far to the right a lane begins
abbrev pub left_of : Frame → ℕ → ℕ
left_of frame lane = lanes_left frame + lane * lane_width

-- how far to the right the middle of its bars is, each of which is 232 wide
abbrev pub middle_of : Frame → ℕ → ℕ
middle_of frame lane = left_of frame lane + 116

-- ---- down

-- how high the row of a record is
abbrev pub row_height : ℕ
row_height = 16

-- how far down the row of an index begins; what is above the first row begins there
abbrev pub top_of : Frame → ℕ → ℕ
top_of frame index = (index - frame.from) * row_height

-- how far down the records that are drawn end
abbrev pub bottom_of : Frame → ℕ
bottom_of frame = top_of frame frame.end

-- the index down to which a bar is drawn: that of its completion, but no further than the last row;
-- where there is none, that of its first record
abbrev pub end_of : Frame → Call → ℕ
end_of frame call =
    option_map_or (λ completion. min completion (frame.end - 1)) call.completion call.first

-- how many rows a bar has, one for each index: what is above the first row is cut off
abbrev pub bar_rows : Frame → Call → ℕ
bar_rows frame call = max (end_of frame call) frame.from - max call.first frame.from + 1

-- how high a bar is
abbrev pub height_of : Frame → Call → ℕ
height_of frame call = bar_rows frame call * row_height

-- how far down a bar ends
abbrev pub bar_end : Frame → Bar → ℕ
bar_end frame bar = top_of frame bar.call.first + height_of frame bar.call
