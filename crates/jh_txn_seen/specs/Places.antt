-- Who appends an element to a key, and bounds on a table of writers. This project's own.
use Rattle.std.specs.Prelude.{◌≡◌, ℕ, ◌<◌, ◌==◌, List, Option, Some, None, option_and_then}
use Rattle.std.specs.Prelude.{if◌then◌else◌}
use Rattle.jh_txn_writers.specs.Writers.{writer_at}
use Rattle.jh_txn_writers.specs.declared.writer.Writer.{Writer}

-- the transaction that appends an element to a key, by the table of writers
abbrev pub writer_place : List (Option Writer) → ℕ → ℕ → Option ℕ
writer_place writers key element =
    option_and_then (λ writer. if writer.key == key then Some writer.place else None)
    (writer_at writers element)

-- the writers of a table are below a number
abbrev pub AreWritersBelow : ℕ → List (Option Writer) → Type 0
AreWritersBelow count writers =
    (element : ℕ) (writer : Writer) → writer_at writers element ≡ Some writer
    → writer.place < count

-- the keys of the writers of a table are below a number
abbrev pub AreWriterKeysBelow : ℕ → List (Option Writer) → Type 0
AreWriterKeysBelow keys writers =
    (element : ℕ) (writer : Writer) → writer_at writers element ≡ Some writer
    → writer.key < keys
