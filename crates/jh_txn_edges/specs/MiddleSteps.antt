-- The steps to what stands in the middle of each key, and from it. This project's own.
use Rattle.std.specs.Prelude.{◌≡◌, ◌≢◌, ◌⊎◌, ℕ, Bool, List, Option, Some, slice_get}
use Rattle.jh_txn.specs.declared.dependency.Why.{Why}
use Rattle.jh_txn.specs.declared.dependency.Why.TheVariants.{ReadWrite}
use Rattle.jh_txn_seen.specs.Marks.{IsMarked}
use Rattle.jh_txn_seen.specs.Middles.{IsFullRead}
use Rattle.jh_txn_seen.specs.Reads.{IsAmongReads}
use Rattle.jh_txn_writers.specs.Writers.{writer_at}
use Rattle.jh_txn_seen.specs.declared.done_reads.DoneRead.{DoneRead}
use Rattle.jh_txn_seen.specs.declared.middles.Middle.{Middle}
use Rattle.jh_txn_writers.specs.declared.writer.Writer.{Writer}

-- from a read of all of its key to what stands in the middle of it
abbrev pub IsFullStep
    : List (Option DoneRead) → List Middle → DoneRead → ℕ → Why → ℕ → Type 0
IsFullStep longest middles read place why target =
    (middle : Middle) × IsFullRead longest read × (slice_get middles read.key ≡ Some middle)
    × (place ≢ target) × (place ≡ read.place) × (why ≡ middle.why) × (target ≡ middle.node)

-- from what stands in the middle of its key to the writer of an element that nobody read
abbrev pub IsUnreadStep
    : List (Option Writer) → List Bool → List Bool → List Middle → ℕ → ℕ → Why → ℕ → Type 0
IsUnreadStep writers there marks middles element place why target =
    (writer : Writer) × (middle : Middle) × (writer_at writers element ≡ Some writer)
    × IsMarked there writer.place × (¬ IsMarked marks element)
    × (slice_get middles writer.key ≡ Some middle) × (place ≢ target) × (place ≡ middle.node)
    × (why ≡ ReadWrite writer.key element) × (target ≡ writer.place)

-- the steps to the middles
abbrev pub IsAnyFullStep
    : List (Option DoneRead) → List Middle → List DoneRead → ℕ → Why → ℕ → Type 0
IsAnyFullStep longest middles reads place why target =
    (read : DoneRead) × IsAmongReads reads read × IsFullStep longest middles read place why target

-- the steps from the middles
abbrev pub IsAnyUnreadStep
    : List (Option Writer) → List Bool → List Bool → List Middle → ℕ → Why → ℕ → Type 0
IsAnyUnreadStep writers there marks middles place why target =
    (element : ℕ) × IsUnreadStep writers there marks middles element place why target

-- the steps to the middles and from them
abbrev pub IsMiddleStep
    : List (Option Writer) → List Bool → List Bool → List (Option DoneRead) → List Middle
    → List DoneRead → ℕ → Why → ℕ → Type 0
IsMiddleStep writers there marks longest middles reads place why target =
    IsAnyFullStep longest middles reads place why target
    ⊎ IsAnyUnreadStep writers there marks middles place why target
