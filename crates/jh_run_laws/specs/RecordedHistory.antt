-- What holds of a history whose operations were recorded as words, as that of a run on threads is
-- (this project's own): it is read back from its lines.
use Rattle.std.specs.Prelude.{◌≡◌, ℕ, ◌<◌, ◌^◌, All, List}
use Rattle.jh_ops.specs.Operation.{Operation}
use Rattle.jh_ops.specs.Words.{IsRecordedAs}
use Rattle.jh_ops.specs.HistoryWritten.{history_lines}
use Rattle.jh_laws.specs.HistoryLines.{CanPrint, IsTextOfHistory}
use Rattle.jh_simnode.specs.Histories.{indexed_operation}

-- the operation was recorded as words, and stands at a place of a history
pub record IsIndexedRecord (op : Operation) : Type 0 where
  pub place : ℕ
  pub small : place < 2 ^ 63
  pub recorded : Operation
  pub words : List ℕ
  pub is : IsRecordedAs recorded words
  pub indexed : op ≡ indexed_operation place recorded

-- each of them can be printed
abbrev pub RecordedHistoryIsPrintable : Type 0
RecordedHistoryIsPrintable =
    (history : List Operation) → All IsIndexedRecord history → All CanPrint history

-- the lines that are printed of such a history are a text of it
abbrev pub RecordedLinesAreText : Type 0
RecordedLinesAreText =
    (history : List Operation) → All IsIndexedRecord history
    → IsTextOfHistory (history_lines history) history
