-- The pairs of an operation, and which of them are unread (this project's own).
use Rattle.std.specs.Prelude.{ℕ, Bool, true, false, ◌&&◌, ◌||◌, ◌==◌, nat_lt, List, drop, codes}
use Rattle.std.specs.Prelude.{Option, Some, None, if◌then◌else◌}
use Rattle.std.specs.Str.{bytes_eq}
use Rattle.jh_unread.specs.declared.parts.Found.{Found}
use Rattle.jh_unread.specs.declared.parts.Found.TheVariants.{Nothing, Refused, Faulty}
use Rattle.jh_unread.specs.declared.parts.Opened.TheVariants.{Curly, Discard}
use Rattle.jh_unread.specs.declared.parts.Part.{Part}
use Rattle.jh_unread.specs.declared.parts.Part.TheVariants.{Prefix, Opens, Whole}
use Rattle.jh_unread.specs.declared.pairs.Stage.{Stage}
use Rattle.jh_unread.specs.declared.pairs.Stage.TheVariants.{Key, ReadValue, OtherValue}
use Rattle.jh_unread.specs.declared.pairs.Entry.{Entry}
use Rattle.jh_unread.specs.declared.pairs.OpenMap.{OpenMap}
use Rattle.jh_unread.specs.declared.pairs.Followed.{Followed}

-- what was found in both: Faulty over Refused over Nothing
abbrev pub worse : Found → Found → Found
worse Faulty other = Faulty
worse Refused Faulty = Faulty
worse Refused other = Refused
worse Nothing other = other

-- what is found in a lexeme
abbrev pub found_in : Part → Found
found_in (Prefix found) = found
found_in (Whole found) = found
found_in other = Nothing

-- an element begins with a lexeme
abbrev pub begins_element : Part → Bool
begins_element (Prefix found) = true
begins_element (Whole found) = true
begins_element (Opens Discard) = false
begins_element (Opens other) = true
begins_element other = false

-- the pair that begins with a lexeme directly inside the map
abbrev pub pair_from : Bool → Followed → Option Entry
pair_from true step = Some (record { start = step.at; stage = Key; found = found_in step.part })
pair_from false step = None

-- the pair that goes on with a lexeme, or else the one that begins
abbrev pub pair_on : Option Entry → OpenMap → Followed → Option Entry
pair_on (Some pair) operation step =
    Some (record {
      start = pair.start;
      stage = pair.stage;
      found = worse pair.found (found_in step.part);
    })
pair_on None operation step =
    pair_from ((step.before == operation.depth) && begins_element step.part) step

-- the pair of an operation with a lexeme
abbrev pub pair_after : OpenMap → Followed → Option Entry
pair_after operation step = pair_on operation.pair operation step

-- a key or a value of the operation ends with a lexeme
abbrev pub ends_part : OpenMap → Followed → Bool
ends_part operation step = step.is_element && (step.after == operation.depth)

-- the keys that whoever reads an operation asks for
unfoldable pub is_read_key : List ℕ → Bool
is_read_key key =
    bytes_eq key (codes ":type") || bytes_eq key (codes ":f") || bytes_eq key (codes ":process")
    || bytes_eq key (codes ":value")

-- how far a pair has come behind its key
abbrev pub stage_behind : List ℕ → Stage
stage_behind key = if is_read_key key then ReadValue else OtherValue

-- a pair behind its key, with which the text so far ends; none behind its value
abbrev pub pair_at : Stage → List ℕ → Entry → Option Entry
pair_at Key out pair =
    Some (record { start = pair.start; stage = stage_behind (drop pair.start out); found = pair.found })
pair_at ReadValue out pair = None
pair_at OtherValue out pair = None

abbrev pub pair_behind : List ℕ → Entry → Option Entry
pair_behind out pair = pair_at pair.stage out pair

-- the same of a pair, if there is one
abbrev pub pair_ended : List ℕ → Option Entry → Option Entry
pair_ended out (Some pair) = pair_behind out pair
pair_ended out None = None

-- the pair behind a lexeme with which the text so far ends
abbrev pub pair_left : List ℕ → OpenMap → Followed → Option Entry
pair_left out operation step =
    if ends_part operation step then pair_ended out (pair_after operation step)
    else pair_after operation step

-- the operation behind such a lexeme; none where its map is closed
abbrev pub operation_behind : List ℕ → OpenMap → Followed → Option OpenMap
operation_behind out operation step =
    if nat_lt step.after operation.depth then None
    else Some (record {
      start = operation.start;
      depth = operation.depth;
      pair = pair_left out operation step;
    })

-- A pair is unread behind another key, where a token was found that the reader refuses, and no fault.
abbrev pub unread_if : Stage → Found → ℕ → Option ℕ
unread_if OtherValue Refused start = Some start
unread_if stage found start = None

-- where it begins
abbrev pub unread_pair : Option Entry → Option ℕ
unread_pair (Some pair) = unread_if pair.stage pair.found pair.start
unread_pair None = None

-- where the unread pair begins that ends with a lexeme
abbrev pub unread_by : OpenMap → Followed → Option ℕ
unread_by operation step =
    if ends_part operation step then unread_pair (pair_after operation step) else None

-- an operation begins with a brace where one may
abbrev pub operation_if : Part → Bool → Followed → Option OpenMap
operation_if (Opens Curly) true step =
    Some (record { start = step.at; depth = step.after; pair = None })
operation_if part is_top step = None

abbrev pub operation_from : Followed → Option OpenMap
operation_from step = operation_if step.part step.is_top step
