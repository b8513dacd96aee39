-- Which histories are written as lines that are read back, and which bytes are a text of a history
-- (this project's own).
use Rattle.std.specs.Prelude.{ℕ, ◌-◌, List, IfSome, FitsSigned}
use Rattle.std.specs.Int.{w64}
use Rattle.jh_edn.specs.Edn.{Edn, members_of}
use Rattle.jh_edn.specs.Equality.{KeysDiffer}
use Rattle.jh_edn.specs.Printable.{IsPrintable, ArePrintablePairs}
use Rattle.jh_edn.specs.Spelling.{depth_limit, SpellsAll}
use Rattle.jh_ops.specs.HistoryText.{AreParsed}
use Rattle.jh_ops.specs.Operation.{Operation}
use Rattle.jh_ops.specs.OperationWritten.{IsWritable, pairs_written}

-- The operation can be printed: its function, its value and its other keys can be, one level down;
-- its numbers are integers of a text; and no key stands twice.
pub record CanPrint (op : Operation) : Type 0 where
  pub process : IsWritable op.process
  pub f : IsPrintable (depth_limit - 1) op.f
  pub value : IsPrintable (depth_limit - 1) op.value
  pub time : IfSome op.time (FitsSigned w64)
  pub index : IfSome op.index (FitsSigned w64)
  pub rest : ArePrintablePairs (depth_limit - 1) (members_of op.rest)
  pub keys : KeysDiffer (members_of (pairs_written op))

-- the bytes are a text of this history: they spell the values of its operations
abbrev pub IsTextOfHistory : List ℕ → List Operation → Type 0
IsTextOfHistory bytes history =
    (values : List Edn) × SpellsAll values bytes × AreParsed values history
