-- The texts of records (this project's own).
use Rattle.std.specs.Prelude.{ℕ, List}
use Rattle.jh_edn.specs.Print.{print}
use Rattle.jh_ops.specs.Operation.{Operation}
use Rattle.jh_ops.specs.OperationWritten.{value_written}
use Rattle.jh_timeline_pages.specs.Markup.{escaped_bytes}

-- a record, as it is written
abbrev pub record_text : Operation → List ℕ
record_text op = escaped_bytes (print (value_written op))
