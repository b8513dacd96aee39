-- A history as lines of bytes (Jepsen writes one operation after another to `history.edn`).
use Rattle.std.specs.Prelude.{ℕ, List, ◌++◌, codes}
use Rattle.std.specs.List.{flat_map}
use Rattle.jh_edn.specs.Print.{print}
use Rattle.jh_ops.specs.Operation.{Operation}
use Rattle.jh_ops.specs.OperationWritten.{value_written}

-- a line for each operation: what is printed of its value, and a line feed
abbrev pub history_lines : List Operation → List ℕ
history_lines history = flat_map (λ op. print (value_written op) ++ codes "\n") history
