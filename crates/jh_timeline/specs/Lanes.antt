-- Which calls are drawn, and in which lanes (this project's own; that a process does one operation at
-- a time is jepsen.history's). Indexes count the records of the whole history from 0.
use Rattle.std.specs.Prelude.{◌≡◌, ℕ, ◌+◌, ◌<◌, Bool, true, false, not, ◌&&◌, ◌||◌, ◌==◌, nat_le}
use Rattle.std.specs.Prelude.{nat_lt, max, List, [], ◌∷◌, ◌++◌, if◌then◌else◌, length, map, filter}
use Rattle.std.specs.Prelude.{find, is_none, slice_get, slice_index_or, MatchOption, Option, Some}
use Rattle.std.specs.Prelude.{None, option_map, option_and_then, unwrap_or}
use Rattle.std.specs.List.{enumerate_from, filter_map, list_any}
use Rattle.std.specs.Option.{option_map_or}
use Rattle.jh_ops.specs.Operation.{Operation, is_kind}
use Rattle.jh_ops.specs.Pairing.{is_of_client, is_invoke}
use Rattle.jh_ops.specs.declared.operation.Kind.{Kind}
use Rattle.jh_ops.specs.declared.operation.Process.{Process}
use Rattle.jh_timeline.specs.declared.marks.Mark.{Mark}
use Rattle.jh_timeline.specs.declared.marks.Note.{Note}
use Rattle.jh_timeline.specs.declared.marks.Note.TheVariants.{Placed, Pending}
use Rattle.jh_timeline.specs.declared.picture.Bar.{Bar}
use Rattle.jh_timeline.specs.declared.picture.Call.{Call}
use Rattle.jh_timeline.specs.declared.picture.Lane.{Lane}
use Rattle.jh_timeline.specs.declared.picture.Window.{Window}

-- ---- calls

-- the index of the completion that an invocation of the client has among the records behind it: its
-- next record, if that is no invocation
abbrev pub completion_in : ℕ → ℕ → List Operation → Option ℕ
completion_in client index [] = None
completion_in client index (op ∷ ops) =
    if is_of_client client op.process then (if is_invoke op.kind then None else Some index)
    else completion_in client (index + 1) ops

-- the index of the last record of the client among these, if it has one
abbrev pub last_in : ℕ → ℕ → List Operation → Option ℕ
last_in client index [] = None
last_in client index (op ∷ ops) =
    if is_of_client client op.process then Some (unwrap_or (last_in client (index + 1) ops) index)
    else last_in client (index + 1) ops

-- the record before of the client, of these records before, the latest first, is an invocation
abbrev pub is_invoking : ℕ → List Operation → Bool
is_invoking client [] = false
is_invoking client (op ∷ before) =
    if is_of_client client op.process then is_invoke op.kind else is_invoking client before

-- The call that a record begins, with these records before it, the latest first, and these behind
-- it: a client's invocation begins an operation, and a completion that answers no invocation stands
-- alone.
abbrev pub call_of : Kind → Process → (before ops : List Operation) → List Call
call_of Kind.Invoke (Process.Client client) before ops =
    record {
      client = client;
      first = length before;
      completion = completion_in client (length before + 1) ops;
      last = unwrap_or (last_in client (length before + 1) ops) (length before);
    } ∷ []
call_of _ (Process.Client client) before ops =
    if is_invoking client before then []
    else record {
      client = client;
      first = length before;
      completion = Some (length before);
      last = unwrap_or (last_in client (length before + 1) ops) (length before);
    } ∷ []
call_of _ Process.Nemesis before ops = []

-- the calls that records begin, with these before them, the latest first
abbrev pub calls_behind : (before ops : List Operation) → List Call
calls_behind before [] = []
calls_behind before (op ∷ ops) =
    call_of op.kind op.process before ops ++ calls_behind (op ∷ before) ops

-- the calls of a history, in the order of their first records
abbrev pub calls_of : List Operation → List Call
calls_of history = calls_behind [] history

-- the index of a call's last record: that of its completion, if it has one
abbrev pub call_end : Call → ℕ
call_end call = unwrap_or call.completion call.first

-- ---- which of them are drawn

-- the record at an index is an `:info`
abbrev pub is_info_at : List Operation → ℕ → Bool
is_info_at history index =
    option_map_or (λ op. is_kind Kind.Info op.kind) (slice_get history index) false

-- It is not known whether the call took effect, nor when (jepsen.history: `:info` is indeterminate,
-- and so is what has no completion).
abbrev pub has_unknown_outcome : List Operation → Call → Bool
has_unknown_outcome history call = option_map_or (is_info_at history) call.completion true

-- the note of the call of a number, if it is marked: that of its first mark
abbrev pub note_at : List Mark → ℕ → Option Note
note_at marks number = option_map (λ mark. mark.note) (find (λ mark. mark.call == number) marks)

-- the number in an order that a note gives
abbrev pub place_noted : Note → Option ℕ
place_noted (Placed place) = Some place.number
place_noted (Pending (Some place)) = Some place.number
place_noted _ = None

-- the number in an order of the call of a number, if it has one
abbrev pub noted_place_at : List Mark → ℕ → Option ℕ
noted_place_at marks number = option_and_then place_noted (note_at marks number)

-- the call begins in the window
abbrev pub begins_in : Window → Call → Bool
begins_in window call = nat_le window.from call.first && nat_lt call.first window.to

-- the places in an order of the calls that begin in the window
abbrev pub places_shown : Window → List Mark → List (ℕ × Call) → List ℕ
places_shown window marks calls =
    filter_map (λ numbered. noted_place_at marks numbered.0)
    (filter (λ numbered. begins_in window numbered.1) calls)

-- By these marks the call of a number takes effect behind a call that begins in the window, of which
-- these are the places.
abbrev pub takes_effect_behind : List ℕ → List Mark → ℕ → Bool
takes_effect_behind places marks number =
    option_map_or (λ place. list_any (λ other. nat_lt other place) places) (noted_place_at marks number)
    false

-- A call that began before the window is drawn where it ends in the window or behind it. One of
-- unknown outcome ends nowhere: it is drawn where it is known to take effect behind a call that begins
-- in the window, and its process does nothing more.
abbrev pub reaches_in : Window → List Operation → List ℕ → List Mark → ℕ → Call → Bool
reaches_in window history places marks number call =
    if has_unknown_outcome history call
    then call.last == call_end call && takes_effect_behind places marks number
    else nat_le window.from (call_end call)

-- the call is drawn: its first row, which is that of the window where it began before, is in the window
abbrev pub is_call_drawn : Window → List Operation → List ℕ → List Mark → (ℕ × Call) → Bool
is_call_drawn window history places marks numbered =
    nat_lt (max window.from numbered.1.first) window.to
    && (nat_le window.from numbered.1.first
    || reaches_in window history places marks numbered.0 numbered.1)

-- its lane is held in the window, even where its process did nothing more there
abbrev pub held_in : Window → Call → Call
held_in window call = record call { last = max window.from call.last }

-- the calls that are drawn in a window, in order, where these marks stand at the calls of the history
abbrev pub drawn_calls : Window → List Operation → List Mark → List Call
drawn_calls window history marks =
    let calls = enumerate_from 0 (calls_of history) in
    map (λ numbered. held_in window numbered.1)
    (filter (is_call_drawn window history (places_shown window marks calls) marks) calls)

-- the call is of unknown outcome, began before the window, and is not drawn
abbrev pub is_left_out : Window → List Operation → List ℕ → List Mark → (ℕ × Call) → Bool
is_left_out window history places marks numbered =
    nat_lt numbered.1.first window.from
    && (has_unknown_outcome history numbered.1 && not (is_call_drawn window history places marks numbered))

-- how many calls of unknown outcome began before the window and are not drawn
abbrev pub count_left_out : Window → List Operation → List Mark → ℕ
count_left_out window history marks =
    let calls = enumerate_from 0 (calls_of history) in
    length (filter (is_left_out window history (places_shown window marks calls) marks) calls)

-- ---- lanes

-- a lane is held at an index: a process whose bar is in it has a record there or behind
abbrev pub is_held : List Bar → ℕ → ℕ → Bool
is_held bars index lane = list_any (λ bar. bar.lane == lane && nat_le index bar.call.last) bars

-- the lane is the first that none of these bars holds at the index
pub record IsFirstFree (bars : List Bar) (index lane : ℕ) : Type 0 where
  pub free : is_held bars index lane ≡ false
  pub first : (lower : ℕ) → lower < lane → is_held bars index lower ≡ true

-- the first bar of a client
abbrev pub first_bar : ℕ → List Bar → Option Bar
first_bar client bars = find (λ bar. client == bar.call.client) bars

-- A bar behind these has the lane that its process has, or else the first one that is free.
abbrev pub TakesLane : List Bar → Bar → Type 0
TakesLane before bar =
    MatchOption (first_bar bar.call.client before) (IsFirstFree before bar.call.first bar.lane)
    (λ first. bar.lane ≡ first.lane)

-- each of these bars takes its lane, behind others
abbrev pub TakeLanes : List Bar → List Bar → Type 0
TakeLanes before [] = Unit {0}
TakeLanes before (bar ∷ bars) = TakesLane before bar × TakeLanes (before ++ bar ∷ []) bars

-- ---- the picture of a history

-- a bar for each call that is drawn, each in its lane
pub record AreBarsOf (window : Window) (history : List Operation) (marks : List Mark)
    (bars : List Bar) : Type 0 where
  pub calls : map (λ bar. bar.call) bars ≡ drawn_calls window history marks
  pub lanes : TakeLanes [] bars

-- ---- what lanes are proved to be

-- the rows of a call in the window, from the first to the last: those above it are cut off
abbrev pub first_row_of : Window → Call → ℕ
first_row_of window call = max window.from call.first

abbrev pub last_row_of : Window → Call → ℕ
last_row_of window call = max window.from (call_end call)

-- Of two bars in one lane the later begins below the end of the earlier.
abbrev pub AreBarsApart : Window → List Bar → Type 0
AreBarsApart window bars =
    (j k : ℕ) (d : Bar) → j < k → k < length bars
    → (slice_index_or bars j d).lane ≡ (slice_index_or bars k d).lane
    → last_row_of window (slice_index_or bars j d).call < first_row_of window (slice_index_or bars k d).call

-- All bars of a process have one lane.
abbrev pub HaveOneLane : List Bar → Type 0
HaveOneLane bars =
    (j k : ℕ) (d : Bar) → j < length bars → k < length bars
    → (slice_index_or bars j d).call.client ≡ (slice_index_or bars k d).call.client
    → (slice_index_or bars j d).lane ≡ (slice_index_or bars k d).lane

pub record AreKeptApart (window : Window) (bars : List Bar) : Type 0 where
  pub apart : AreBarsApart window bars
  pub one_lane : HaveOneLane bars

-- ---- the processes of a lane

-- the bars that are the first of their process, among bars behind others
abbrev pub first_bars : List Bar → List Bar → List Bar
first_bars before [] = []
first_bars before (bar ∷ bars) =
    (if is_none (first_bar bar.call.client before) then bar ∷ [] else [])
    ++ first_bars (before ++ bar ∷ []) bars

-- the processes that a lane had, in order
abbrev pub clients_of : ℕ → List Bar → List ℕ
clients_of lane bars =
    map (λ bar. bar.call.client) (filter (λ bar. bar.lane == lane) (first_bars [] bars))

-- the processes that a lane of a picture has
abbrev pub lane_clients : ℕ → List Lane → List ℕ
lane_clients lane lanes = option_map_or (λ one. one.clients.items) (slice_get lanes lane) []

-- Each lane has the processes whose bars are in it.
abbrev pub AreLanesOf : List Bar → List Lane → Type 0
AreLanesOf bars lanes = (lane : ℕ) → lane_clients lane lanes ≡ clients_of lane bars
