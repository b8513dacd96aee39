-- The page of histories, byte for byte (this project's own; HTML that is XML too).
use Rattle.std.specs.Prelude.{ℕ, Bool, ◌-◌, ◌==◌, ◌&&◌, nat_le, nat_lt, List, [], ◌++◌}
use Rattle.std.specs.Prelude.{if◌then◌else◌, codes, length, vec_len, Option, Some, None}
use Rattle.std.specs.Fmt.{decimal}
use Rattle.std.specs.List.{enumerate_from, flat_map}
use Rattle.jh_timeline_pages.specs.Drawings.{mark_name, picture_text}
use Rattle.jh_timeline_pages.specs.Markup.{escaped_bytes}
use Rattle.jh_timeline_pages.specs.Marks.{first_pointer}
use Rattle.jh_timeline_pages.specs.Pixels.{end_in}
use Rattle.jh_timeline_pages.specs.declared.section.Section.{Section}
use Rattle.jh_timeline_pages.specs.declared.top.TheConstants.{HEAD, LEGEND}
use Rattle.jh_timeline_pages.specs.declared.top.Top.{Top}
use Rattle.jh_timeline.specs.declared.marks.Mark.{Mark}
use Rattle.jh_timeline.specs.declared.picture.Lane.{Lane}
use Rattle.jh_timeline.specs.declared.picture.Window.{Window}

-- ---- the top

-- a sentence below the heading, if there is one
abbrev pub notice_text : List ℕ → List ℕ
notice_text notice =
    if length notice == 0 then []
    else codes "<p class=\"notice\">" ++ escaped_bytes notice ++ codes "</p>\n"

-- the line of the checker, if there is one: folded, so that who wants it opens it
abbrev pub folded_text : List ℕ → List ℕ
folded_text line =
    if length line == 0 then []
    else codes "<details>\n<summary>The line of the checker</summary>\n<pre>" ++ escaped_bytes line
    ++ codes "</pre>\n</details>\n"

-- all that stands above the histories: the title as a heading, and below it the rest
abbrev pub top_text : Top → List ℕ
top_text top =
    HEAD.now ++ escaped_bytes top.title.items ++ codes "</h1>\n" ++ notice_text top.notice.items
    ++ folded_text top.line.items ++ LEGEND.now

-- ---- sections

-- the end of a tag with the name of a section, or a link to it
abbrev pub anchor_text : List ℕ → ℕ → List ℕ
anchor_text tag number = tag ++ (codes "part-" ++ (decimal number ++ codes "\">"))

-- the heading of a section, where links to it lead; where it has none, its first line is where they
-- lead
abbrev pub heading_text : ℕ → List ℕ → List ℕ
heading_text number heading =
    if length heading == 0 then anchor_text (codes "<p id=\"") number
    else anchor_text (codes "<h2 id=\"") number ++ escaped_bytes heading ++ codes "</h2>\n<p>"

-- all records are drawn
abbrev pub is_whole : Window → ℕ → Bool
is_whole window total = window.from == 0 && nat_le total window.to

-- that records from one to another are drawn, of so many, and how others are
abbrev pub drawn_records_text : ℕ → ℕ → ℕ → List ℕ
drawn_records_text first last total =
    codes "Records " ++ (decimal first ++ (codes " to " ++ (decimal last ++ (codes " of "
    ++ (decimal total ++ codes "; --from and --to choose others.</p>\n")))))

-- which of so many records are drawn
abbrev pub window_text : Window → ℕ → List ℕ
window_text window total =
    if is_whole window total then codes "All " ++ (decimal total ++ codes " records.</p>\n")
    else if nat_lt window.from (end_in window total)
    then drawn_records_text window.from (end_in window total - 1) total
    else codes "No record of " ++ (decimal total ++ codes "; --from and --to choose others.</p>\n")

-- how many operations of unknown outcome began before the records that are drawn and are not drawn, if
-- there are any
abbrev pub left_out_text : ℕ → List ℕ
left_out_text count =
    if count == 0 then []
    else if count == 1
    then codes "<p>1 operation of unknown outcome began before and is not drawn.</p>\n"
    else codes "<p>" ++ (decimal count
    ++ codes " operations of unknown outcome began before and are not drawn.</p>\n")

-- a link to the first mark that points at something, if one does
abbrev pub jump_text : ℕ → Option Mark → List ℕ
jump_text number None = []
jump_text number (Some mark) =
    codes "<p><a href=\"#" ++ mark_name number mark.call ++ codes "\">Go to what was found</a></p>\n"

-- a process that a lane had
abbrev pub client_text : ℕ → List ℕ
client_text client = codes " " ++ decimal client

-- the processes that a lane had
abbrev pub lane_text : Lane → List ℕ
lane_text lane = codes "<li>process" ++ flat_map client_text lane.clients.items ++ codes "</li>\n"

-- a history: its heading, which of its records are drawn, what is left out, a link to what was found, the
-- lanes numbered from 1, and its picture
abbrev pub section_text : ℕ → Section → List ℕ
section_text number section =
    codes "<section>\n" ++ heading_text number section.heading.items
    ++ window_text section.window (vec_len section.history)
    ++ left_out_text section.picture.left_out
    ++ jump_text number (first_pointer section.marks.items) ++ codes "<ol class=\"lanes\">\n"
    ++ flat_map lane_text section.picture.lanes.items ++ codes "</ol>\n"
    ++ picture_text number section
    ++ codes "</section>\n"

-- ---- the page

-- a link to a section
abbrev pub section_link_text : ℕ → Section → List ℕ
section_link_text number section =
    anchor_text (codes
    "<li><a href=\"#") number ++ escaped_bytes section.heading.items ++ codes "</a></li>\n"

-- a link to each section, where there is more than one
abbrev pub contents_text : List Section → List ℕ
contents_text sections =
    if nat_lt 1 (length sections) then
    codes "<ul>\n"
    ++ flat_map (λ numbered. section_link_text numbered.0 numbered.1)
    (enumerate_from 0 sections) ++ codes "</ul>\n"
    else []

-- what stands below all sections
abbrev pub below_text : List ℕ → List ℕ
below_text below =
    if length below == 0 then [] else codes "<pre>" ++ escaped_bytes below ++ codes "</pre>\n"

-- the whole page
unfoldable pub page_text : Top → List Section → List ℕ → List ℕ
page_text top sections below =
    top_text top ++ contents_text sections
    ++ flat_map (λ numbered. section_text numbered.0 numbered.1) (enumerate_from 0 sections)
    ++ below_text below ++ codes "</body>\n</html>\n"
