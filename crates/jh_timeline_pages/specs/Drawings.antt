-- The picture of a history, byte for byte (this project's own; SVG within HTML that is XML too).
use Rattle.std.specs.Prelude.{ℕ, ℤ, ◌-◌, ◌==◌, ◌&&◌, Bool, true, false, List, [], ◌++◌, codes}
use Rattle.std.specs.Prelude.{if◌then◌else◌, slice_get, vec_len, Option, Some, None}
use Rattle.std.specs.Prelude.{option_map, option_and_then}
use Rattle.std.specs.Fmt.{decimal, signed_decimal}
use Rattle.std.specs.List.{flat_map}
use Rattle.std.specs.Option.{option_flatten}
use Rattle.jh_bands.specs.declared.band.Line.{Line}
use Rattle.jh_edn.specs.Edn.{Edn}
use Rattle.jh_ops.specs.Operation.{Operation, operations}
use Rattle.jh_ops.specs.Pairing.{is_invoke}
use Rattle.jh_ops.specs.declared.operation.Kind.{Kind}
use Rattle.jh_timeline.specs.declared.marks.Mark.{Mark}
use Rattle.jh_timeline.specs.declared.picture.Bar.{Bar}
use Rattle.jh_timeline.specs.declared.picture.Call.{Call}
use Rattle.jh_timeline_pages.specs.Bands.{bands_text}
use Rattle.jh_bands.specs.Words.{answered_text, asked_text}
use Rattle.jh_timeline_pages.specs.Records.{record_text}
use Rattle.jh_timeline_pages.specs.Marks.{class_of, is_pointer, meaning_text, note_text}
use Rattle.jh_timeline_pages.specs.Markup.{escaped_bytes, short_bytes}
use Rattle.jh_timeline_pages.specs.Pixels.{bar_end, bottom_of, frame_of, height_of, left_of}
use Rattle.jh_timeline_pages.specs.Pixels.{margin_width, middle_of, top_of}
use Rattle.jh_timeline_pages.specs.Times.{duration, times_text, took_text}
use Rattle.jh_timeline_pages.specs.declared.pixels.Frame.{Frame}
use Rattle.jh_timeline_pages.specs.declared.section.Section.{Section}

-- the record that a section has at an index, if there is one
abbrev pub section_record : Section → ℕ → Option Operation
section_record section index = slice_get (operations section.history.items) index

-- ---- how operations ended

-- how an operation ended, if it did
abbrev pub ending_of : Option Operation → Option Kind
ending_of completion = option_map (λ op. op.kind) completion

-- the class of a bar in the style, by how its operation ended
abbrev pub ending_class : Option Kind → List ℕ
ending_class (Some Kind.Ok) = codes "ok"
ending_class (Some Kind.Fail) = codes "fail"
ending_class (Some _) = codes "info"
ending_class None = codes "open"

-- the sign in a bar, by how its operation ended: a check mark, a cross, a question mark, or dots
abbrev pub ending_sign : Option Kind → List ℕ
ending_sign (Some Kind.Ok) = codes "&#10003; "
ending_sign (Some Kind.Fail) = codes "&#10007; "
ending_sign (Some _) = codes "? "
ending_sign None = codes "&#8230; "

-- the class of the bar of a completion that answers no invocation
abbrev pub alone_class : Kind → List ℕ
alone_class kind = codes "alone " ++ ending_class (Some kind)

-- the sign in it: an arrow before the sign of how it ended
abbrev pub alone_sign : Kind → List ℕ
alone_sign kind = codes "&#8627; " ++ ending_sign (Some kind)

-- It is not known whether an operation that ended so took effect, nor when (jepsen.history: `:info` is
-- indeterminate, and so is what has no completion).
abbrev pub may_happen_later : Option Kind → Bool
may_happen_later None = true
may_happen_later (Some Kind.Info) = true
may_happen_later ending = false

-- ---- bars

-- the label of an operation that ended so: where it happened its function with what it answered,
-- else with what it asked
abbrev pub ended_label : Kind → (f asked answered : Edn) → List ℕ
ended_label Kind.Ok f asked answered = answered_text f answered
ended_label _ f asked answered = asked_text f asked

-- the label of an operation
abbrev pub bar_label : Operation → Option Operation → List ℕ
bar_label invocation None = asked_text invocation.f invocation.value
bar_label invocation (Some completion) =
    ended_label completion.kind invocation.f invocation.value completion.value

-- both records of an operation, one above the other, and how long it took
abbrev pub records_text : Operation → Option Operation → List ℕ
records_text invocation None = record_text invocation
records_text invocation (Some completion) =
    record_text invocation ++ codes "\n" ++ record_text completion
    ++ took_text (duration invocation.time completion.time)

-- where a box begins, and how high it is
abbrev pub place_text : ℕ → ℕ → ℕ → List ℕ
place_text left top height =
    codes "\" x=\"" ++ (decimal left ++ (codes "\" y=\"" ++ (decimal top
    ++ (codes "\" width=\"232\" height=\""
    ++ (decimal height ++ codes "\"><rect width=\"100%\" height=\"100%\"/>")))))

-- the place of a bar: in its lane, from its first row to its last
abbrev pub bar_place : Frame → Bar → List ℕ
bar_place frame bar =
    place_text (left_of frame bar.lane) (top_of frame bar.call.first) (height_of frame bar.call)

-- the box of a bar, of a class in the style
abbrev pub box_text : List ℕ → Frame → Bar → List ℕ
box_text class frame bar = codes "<svg class=\"" ++ class ++ bar_place frame bar

-- the end of a bar: its label behind a sign
abbrev pub signed_text : List ℕ → List ℕ → List ℕ
signed_text sign label =
    codes "</title><text x=\"4\" y=\"12\">" ++ sign ++ short_bytes label ++ codes "</text></svg>\n"

-- this process, where it is not the first one
abbrev pub other_process : ℕ → ℕ → Option ℕ
other_process client first = if first == client then None else Some client

-- the process that a bar's label names: its own, where its lane had another one before
abbrev pub named_process : Section → Bar → Option ℕ
named_process section bar =
    option_and_then (other_process bar.call.client)
    (option_and_then (λ lane. slice_get lane.clients.items 0)
    (slice_get section.picture.lanes.items bar.lane))

-- a label, behind the process that it names, if it names one
abbrev pub named_label : Option ℕ → List ℕ → List ℕ
named_label None label = label
named_label (Some client) label = decimal client ++ (codes ": " ++ label)

-- an operation: its box, its records, and its label
abbrev pub operation_text : Frame → Bar → Option ℕ → Operation → Option Operation → List ℕ
operation_text frame bar named invocation completion =
    box_text (ending_class (ending_of completion)) frame bar ++ codes "<title>"
    ++ records_text invocation completion
    ++ signed_text (ending_sign (ending_of completion))
    (named_label named (bar_label invocation completion))

-- a completion that answers no invocation: its box, its record, and its label
abbrev pub alone_text : Frame → Bar → Option ℕ → Operation → List ℕ
alone_text frame bar named op =
    box_text (alone_class op.kind) frame bar ++ codes "<title>" ++ record_text op
    ++ signed_text (alone_sign op.kind) (named_label named (answered_text op.f op.value))

-- a bar with this first record and this completion; nothing where it has no first record
abbrev pub bar_text : Frame → Bar → Option ℕ → Option Operation → Option Operation → List ℕ
bar_text frame bar named None completion = []
bar_text frame bar named (Some first) completion =
    if is_invoke first.kind
    then operation_text frame bar named first completion
    else alone_text frame bar named first

-- a bar, with the records that it has in the history
abbrev pub drawn_bar : Frame → Section → Bar → List ℕ
drawn_bar frame section bar =
    bar_text frame bar (named_process section bar) (section_record section bar.call.first)
    (option_and_then (λ index. section_record section index) bar.call.completion)

-- ---- what is not known

-- a line from the end of a bar down to the bottom
abbrev pub tail_text : Frame → Bar → List ℕ
tail_text frame bar =
    codes "<path class=\"tail\" d=\"M" ++ (decimal (middle_of frame bar.lane) ++ (codes " "
    ++ (decimal (bar_end frame bar) ++ (codes "V"
    ++ (decimal (bottom_of frame) ++ codes "\"/>\n")))))

-- what becomes of an operation behind its bar: it may take effect at any later time where its outcome is
-- not known; nothing where there is no invocation
abbrev pub outcome_text : Frame → Bar → Option Operation → Option Kind → List ℕ
outcome_text frame bar None ending = []
outcome_text frame bar (Some first) ending =
    if is_invoke first.kind && may_happen_later ending then tail_text frame bar else []

-- the same of a bar, with the records that it has in the history
abbrev pub drawn_tail : Frame → Section → Bar → List ℕ
drawn_tail frame section bar =
    outcome_text frame bar (section_record section bar.call.first)
    (ending_of (option_and_then (λ index. section_record section index) bar.call.completion))

-- ---- lines

-- a line across all lanes, in the row of an index
abbrev pub line_head : Frame → ℕ → List ℕ
line_head frame index =
    codes "<svg class=\"fault\" y=\""
    ++ (decimal (top_of frame index)
    ++ codes "\" width=\"100%\" height=\"16\"><line x2=\"100%\"/><title>")

-- a record of the nemesis with its label, and nothing where there is no record
abbrev pub line_text : Frame → Line → Option Operation → List ℕ
line_text frame line None = []
line_text frame line (Some op) =
    line_head frame line.index ++ record_text op ++ codes "</title><text x=\"4\" y=\"12\">"
    ++ escaped_bytes line.label.items ++ codes "</text></svg>\n"

-- a line, with the record that it has in the history
abbrev pub drawn_line : Frame → Section → Line → List ℕ
drawn_line frame section line = line_text frame line (section_record section line.index)

-- ---- marks

-- the name of a mark, to which a link may lead: the numbers of its section and of its bar
abbrev pub mark_name : ℕ → ℕ → List ℕ
mark_name number bar = codes "found-" ++ (decimal number ++ (codes "-" ++ decimal bar))

-- a mark that points at something has its name
abbrev pub named_text : ℕ → Mark → List ℕ
named_text number mark =
    if is_pointer mark.note then codes "\" id=\"" ++ mark_name number mark.call else []

-- the number of a bar's operation among those of the history, by which orders name it
abbrev pub number_of_bar : Section → ℕ → Option ℕ
number_of_bar section bar = option_flatten (slice_get section.numbers.items bar)

-- that number behind a word, where there is one
abbrev pub named_operation : Option ℕ → List ℕ
named_operation None = []
named_operation (Some number) = codes "operation " ++ (decimal number ++ codes ", ")

-- the `:index` of a record; one that says none has its place in the history
abbrev pub index_text : ℕ → Option ℤ → List ℕ
index_text place None = decimal place
index_text place (Some index) = signed_decimal index

-- the same behind a word, of the record that a section has at a place; nothing where it has none
abbrev pub record_index_text : List ℕ → ℕ → Option Operation → List ℕ
record_index_text word place None = []
record_index_text word place (Some op) = word ++ index_text place op.index

-- the place of a call's completion, where that is not its first record
abbrev pub later_completion : Call → Option ℕ
later_completion call =
    option_and_then (λ place. if place == call.first then None else Some place) call.completion

-- behind a word the index of the last record of a call that has two
abbrev pub end_text : Section → Option ℕ → List ℕ
end_text section None = []
end_text section (Some place) =
    record_index_text (codes " to ") place (section_record section place)

-- a further line, which says which operation a call is, and where its records stand
abbrev pub whereabouts_text : Section → Option ℕ → Call → List ℕ
whereabouts_text section number call =
    codes "\n" ++ named_operation number
    ++ record_index_text (codes "at index ") call.first (section_record section call.first)
    ++ end_text section (later_completion call)

-- a mark, which says what it means and where, with its text at the right end of a bar; nothing where
-- there is no bar
abbrev pub mark_text : ℕ → Frame → Section → Mark → Option Bar → List ℕ
mark_text number frame section mark None = []
mark_text number frame section mark (Some bar) =
    codes "<svg class=\"" ++ class_of mark.note ++ named_text number mark ++ bar_place frame bar
    ++ codes "<title>" ++ meaning_text mark.note
    ++ whereabouts_text section (number_of_bar section mark.call) bar.call
    ++ codes "</title><text x=\"228\" y=\"12\">" ++ note_text mark.note ++ codes "</text></svg>\n"

-- a mark at the bar that it names, in the section of a number
abbrev pub drawn_mark : ℕ → Frame → Section → Mark → List ℕ
drawn_mark number frame section mark =
    mark_text number frame section mark (slice_get section.picture.bars.items mark.call)

-- ---- the picture

-- so wide and so high, on a screen
abbrev pub sides_text : ℕ → ℕ → List ℕ
sides_text width height =
    codes " width=\"" ++ (decimal width ++ (codes "\" height=\"" ++ (decimal height ++ codes "\"")))

-- the same, whatever it is made as wide as, and how far to the right it begins
abbrev pub view_text : ℕ → ℕ → ℕ → List ℕ
view_text left width height =
    codes " viewBox=\"" ++ (decimal left ++ (codes " 0 " ++ (decimal width ++ (codes " "
    ++ (decimal height ++ codes "\">\n")))))

-- the opening of a picture of this size, which begins so far to the right
abbrev pub opening_text : ℕ → ℕ → ℕ → List ℕ
opening_text left width height =
    codes "<div class=\"picture\">\n<svg xmlns=\"http://www.w3.org/2000/svg\""
    ++ sides_text width height ++ view_text left width height

-- how much is not shown at the left: the margin of the nemesis, where nothing stands in it
abbrev pub cut_off : Section → ℕ
cut_off section =
    if vec_len section.lines == 0 && vec_len section.bands == 0 then margin_width else 0

-- the opening of the picture: as wide as its lanes, with what is shown at the left of them, and as high
-- as the records that are drawn
abbrev pub picture_head : Frame → Section → List ℕ
picture_head frame section =
    opening_text (cut_off section)
    (left_of frame (vec_len section.picture.lanes) - cut_off section) (bottom_of frame)

-- of the section of a number, from the back to the front: bands, times, lines, what is not known, bars and
-- marks
abbrev pub framed_text : ℕ → Frame → Section → List ℕ
framed_text number frame section =
    picture_head frame section ++ bands_text frame section.bands.items
    ++ times_text frame section.history.items
    ++ flat_map (drawn_line frame section) section.lines.items
    ++ flat_map (drawn_tail frame section) section.picture.bars.items
    ++ flat_map (drawn_bar frame section) section.picture.bars.items ++ codes "<g class=\"marks\">\n"
    ++ flat_map (drawn_mark number frame section) section.marks.items
    ++ codes "</g>\n</svg>\n</div>\n"

abbrev pub picture_text : ℕ → Section → List ℕ
picture_text number section = framed_text number (frame_of section) section
