-- What a mark says of an operation (what each says is the checkers'; how it is said is this
-- project's own).
use Rattle.std.specs.Prelude.{ℕ, ℤ, Bool, true, false, List, [], ◌++◌, codes, find, Option, Some, None}
use Rattle.std.specs.Fmt.{decimal, signed_decimal}
use Rattle.jh_timeline.specs.declared.marks.Mark.{Mark}
use Rattle.jh_timeline.specs.declared.marks.Note.{Note}
use Rattle.jh_timeline.specs.declared.marks.Note.TheVariants.{Placed, Stuck, Pending, Lost}
use Rattle.jh_timeline.specs.declared.marks.Note.TheVariants.{Recovered, Unexpected, Repeated}
use Rattle.jh_timeline.specs.declared.marks.Note.TheVariants.{Outside, Step, BadRead}
use Rattle.jh_timeline.specs.declared.marks.Note.TheVariants.{Stale, WrongBalances, Named}
use Rattle.jh_timeline.specs.declared.marks.Place.{Place}
use Rattle.jh_timeline.specs.declared.marks.StepKind.{StepKind}
use Rattle.jh_timeline.specs.declared.marks.StepKind.TheVariants.{WriteRead, WriteWrite}
use Rattle.jh_timeline.specs.declared.marks.StepKind.TheVariants.{FirstCommitter, ReadWrite}
use Rattle.jh_timeline.specs.declared.marks.StepKind.TheVariants.{RealTime}

-- A note that points at something: any but a place in an order, and that an operation is pending.
abbrev pub is_pointer : Note → Bool
is_pointer (Placed place) = false
is_pointer (Pending place) = false
is_pointer note = true

-- the note says that a history is stuck there
abbrev pub is_stuck : Note → Bool
is_stuck Stuck = true
is_stuck note = false

-- the first of two marks that there is
abbrev pub mark_or : Option Mark → Option Mark → Option Mark
mark_or None other = other
mark_or (Some mark) other = Some mark

-- the mark at which a page is looked at first: where a history is stuck, or else the first one that
-- points at something
abbrev pub first_pointer : List Mark → Option Mark
first_pointer marks =
    mark_or (find (λ mark. is_stuck mark.note) marks) (find (λ mark. is_pointer mark.note) marks)

-- the class of a note in the style, which is its name too
abbrev pub class_of : Note → List ℕ
class_of (Placed place) = codes "placed"
class_of Stuck = codes "stuck"
class_of (Pending place) = codes "pending"
class_of Lost = codes "lost"
class_of Recovered = codes "recovered"
class_of Unexpected = codes "unexpected"
class_of Repeated = codes "repeated"
class_of (Outside lower upper) = codes "outside"
class_of (Step place kind) = codes "step"
class_of BadRead = codes "bad-read"
class_of Stale = codes "stale"
class_of WrongBalances = codes "wrong-balances"
class_of Named = codes "named"

-- the name of a kind of step (Adya, "Weak consistency", 1999, has the first, the second and the
-- fourth; `fcw` and `rt` are this project's own)
abbrev pub step_kind_name : StepKind → List ℕ
step_kind_name WriteRead = codes "wr"
step_kind_name WriteWrite = codes "ww"
step_kind_name FirstCommitter = codes "fcw"
step_kind_name ReadWrite = codes "rw"
step_kind_name RealTime = codes "rt"

-- the place of a transaction and how it leads to the next one, as the steps of a cycle begin
abbrev pub step_text : ℕ → StepKind → List ℕ
step_text place kind = decimal place ++ (codes " :" ++ step_kind_name kind)

-- what a note says: a number in an order, that it is pending and has one, the bounds of a read, a
-- step of a cycle, that a read or balances are wrong, or its name
abbrev pub note_text : Note → List ℕ
note_text (Placed place) = decimal place.number
note_text (Pending (Some place)) = codes "pending " ++ decimal place.number
note_text (Outside lower upper) =
    codes "[" ++ (signed_decimal lower ++ (codes " " ++ (signed_decimal upper ++ codes "]")))
note_text (Step place kind) = step_text place kind
note_text BadRead = codes "bad read"
note_text WrongBalances = codes "wrong balances"
note_text note = class_of note

-- what a note means that has no number
abbrev pub plain_meaning : Note → List ℕ
plain_meaning Stuck = codes "stuck: no order has room for this operation"
plain_meaning Lost = codes "lost: it was added, and it is missing"
plain_meaning Recovered = codes "recovered: it is there, and it was not known to be added"
plain_meaning Unexpected = codes "unexpected: this gives what no add explains"
plain_meaning Repeated = codes "repeated: this gives what was given more than once"
plain_meaning BadRead = codes "bad read: no order explains it"
plain_meaning Stale = codes "stale: it was known to be there, and a read behind that lacked it"
plain_meaning WrongBalances = codes "wrong balances: the bank can't have these"
plain_meaning Named = codes "named: the verdict stands on this operation"
plain_meaning note = []

-- what a register holds behind an operation, where that is known
abbrev pub held_text : Option ℤ → List ℕ
held_text None = []
held_text (Some value) = codes "; the register then holds " ++ signed_decimal value

-- a number in an order
abbrev pub order_number_text : ℕ → List ℕ
order_number_text number = codes "number " ++ (decimal number ++ codes " in the order that was found")

-- what a place in an order means
abbrev pub place_meaning : Place → List ℕ
place_meaning place = order_number_text place.number ++ held_text place.holds

-- what it means that an operation is pending, with its place in the order of what is before, if it has
-- one
abbrev pub pending_meaning : Option Place → List ℕ
pending_meaning None = codes "pending: it was not over where the history is stuck"
pending_meaning (Some place) =
    codes "pending: it was not over where the history is stuck; " ++ place_meaning place

-- what a note means, in words
abbrev pub meaning_text : Note → List ℕ
meaning_text (Placed place) = place_meaning place
meaning_text (Pending place) = pending_meaning place
meaning_text (Outside lower upper) =
    codes "outside its bounds: " ++ (signed_decimal lower ++ (codes " to " ++ signed_decimal upper))
meaning_text (Step place kind) =
    codes "transaction " ++ (decimal place ++ codes ", with its step to the next one of the cycle")
meaning_text note = plain_meaning note
