-- The history that a seat has seen in the rows of a log (this project's own).
use Rattle.std.specs.Prelude.{◌≡◌, ℕ, ◌+◌, ◌<◌, min, Bool, true, false, List, [], ◌∷◌, filter}
use Rattle.std.specs.Prelude.{Option, Some, None, ⊤}
use Rattle.std.specs.List.{range_with_len}
use Rattle.std.specs.FinMap as map
use Rattle.jh_slots.specs.Seats.{Mark, Marks, Words, Void}
use Rattle.jh_slots.specs.Sizes.{max_log_rows}
use Rattle.jh_ops.specs.Operation.{Operation}
use Rattle.jh_ops.specs.Words.{IsRecordedAs}
use Rattle.jh_simnode.specs.Histories.{indexed_operation}
use Rattle.jh_workers.specs.declared.records.GatherError.{GatherError}
use Rattle.jh_workers.specs.declared.records.GatherError.TheVariants.{BadWords, OutOfMemory}

-- a row shows a record
abbrev pub is_record : Option Mark → Bool
is_record None = false
is_record (Some (Words words)) = true
is_record (Some Void) = false

-- the rows below a number in which a record was seen, in order
abbrev pub record_rows : Marks → ℕ → List ℕ
record_rows seen count = filter (λ row. is_record (map.get seen row)) (range_with_len 0 count)

-- the row shows the record of an operation that stands at this place of a history
pub record IsRecordOf (seen : Marks) (place row : ℕ) (op : Operation) : Type 0 where
  pub words : List ℕ
  pub recorded : Operation
  pub shown : map.get seen row ≡ Some (Words words)
  pub is : IsRecordedAs recorded words
  pub indexed : op ≡ indexed_operation place recorded

-- each row shows the record of one operation, which stand one after another from a place on
abbrev pub AreRecordsOf : Marks → ℕ → List ℕ → List Operation → Type 0
AreRecordsOf seen place [] [] = ⊤
AreRecordsOf seen place (row ∷ rows) (op ∷ ops) =
    IsRecordOf seen place row op × AreRecordsOf seen (place + 1) rows ops
AreRecordsOf seen place _ _ = ⊥

-- a log has no row below this number but those below the most that it may have
abbrev pub rows_of_log : ℕ → ℕ
rows_of_log count = min count max_log_rows

-- the history has the operations of the records below a number, in the order of their rows, and
-- nothing else
abbrev pub IsGathered : Marks → ℕ → List Operation → Type 0
IsGathered seen count history = AreRecordsOf seen 0 (record_rows seen (rows_of_log count)) history

-- what was seen of the row, if anything, is a record, and that of no operation
abbrev pub IsBadMark : Mark → Type 0
IsBadMark (Words words) = (op : Operation) → IsRecordedAs op words → ⊥
IsBadMark Void = ⊥

-- why no history is gathered: a row below the number has words of no operation, and the records
-- below it are those of a history; or memory
abbrev pub RefusesGather : Marks → ℕ → GatherError → Type 0
RefusesGather seen count (BadWords row) =
    (row < rows_of_log count) × ((history : List Operation) × IsGathered seen row history)
    × ((m : Mark) → map.get seen row ≡ Some m → IsBadMark m)
RefusesGather seen count OutOfMemory = ⊤
