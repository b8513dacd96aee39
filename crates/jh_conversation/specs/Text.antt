-- What is written of a conversation: each record that is said as a line, and a line behind the last
-- one. This project's own.
use Rattle.std.specs.Prelude.{ℕ, ◌-◌, List, [], ◌∷◌, ◌++◌, codes, length, reverse}
use Rattle.std.specs.Prelude.{if◌then◌else◌}
use Rattle.jh_ops.specs.Operation.{Operation}
use Rattle.jh_ops.specs.HistoryWritten.{history_lines}
use Rattle.jh_conversation.specs.Lines.{is_test_over, take_line}
use Rattle.jh_conversation.specs.Machine.{Machine}
use Rattle.jh_test_parts.specs.Records.{recorded_operations}
use Rattle.jh_test_parts.specs.Test.{TestValue}

-- the line behind the last record
abbrev pub end_line : List ℕ
end_line = codes ":end" ++ 10 ∷ []

-- what a machine has said since the last line that it read
abbrev pub said_lines : TestValue → Machine → List ℕ
said_lines t m =
    history_lines
    (recorded_operations t.start.names (length m.history - length m.said) (reverse m.said))
    ++ (if is_test_over m then end_line else [])

-- what it says to a line; nothing behind the end
abbrev pub text_to : TestValue → Machine → List ℕ → List ℕ
text_to t m line = if is_test_over m then [] else said_lines t (take_line t m line)

-- the whole history, the oldest record first: as operations, and as lines
abbrev pub recorded_history : TestValue → Machine → List Operation
recorded_history t m = recorded_operations t.start.names 0 (reverse m.history)

abbrev pub recorded_lines : TestValue → Machine → List ℕ
recorded_lines t m = history_lines (recorded_history t m)
