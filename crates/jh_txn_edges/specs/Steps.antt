-- Steps between transactions: along lists of a key, to readers and from readers. Each says from which
-- node, why and to which node it leads. This project's own.
use Rattle.std.specs.Prelude.{◌≡◌, ◌≢◌, ◌⊎◌, ℕ, List, length, Option, Some, slice_get}
use Rattle.jh_txn.specs.declared.dependency.Why.{Why}
use Rattle.jh_txn.specs.declared.dependency.Why.TheVariants.{ReadWrite, WriteRead, WriteWrite}
use Rattle.jh_txn_seen.specs.Places.{writer_place}
use Rattle.jh_txn_seen.specs.Reads.{IsAmongReads, longest_of}
use Rattle.jh_txn_writers.specs.Writers.{AreNeighbours, EndsWith}
use Rattle.jh_txn_seen.specs.declared.done_reads.DoneRead.{DoneRead}
use Rattle.jh_txn_writers.specs.declared.writer.Writer.{Writer}

-- from the writer of an element to that of another one
abbrev pub IsPairStep : List (Option Writer) → ℕ → ℕ → ℕ → ℕ → Why → ℕ → Type 0
IsPairStep writers key one other place why target =
    (place ≢ target) × (writer_place writers key one ≡ Some place)
    × (writer_place writers key other ≡ Some target) × (why ≡ WriteWrite key one)

-- from writer to writer along a list of a key
abbrev pub IsAlong : List (Option Writer) → ℕ → List ℕ → ℕ → Why → ℕ → Type 0
IsAlong writers key seen place why target =
    (one other : ℕ) × AreNeighbours seen one other
    × IsPairStep writers key one other place why target

-- from the writer of an element that a read saw to its transaction
abbrev pub IsShownStep : List (Option Writer) → DoneRead → ℕ → ℕ → Why → ℕ → Type 0
IsShownStep writers read element place why target =
    (place ≢ target) × (writer_place writers read.key element ≡ Some place)
    × (target ≡ read.place) × (why ≡ WriteRead read.key element)

-- from the transaction of a read to the writer of an element that it did not see
abbrev pub IsLackedStep : List (Option Writer) → DoneRead → ℕ → ℕ → Why → ℕ → Type 0
IsLackedStep writers read element place why target =
    (place ≢ target) × (writer_place writers read.key element ≡ Some target)
    × (place ≡ read.place) × (why ≡ ReadWrite read.key element)

-- from the writer of the last element of a read
abbrev pub IsToReader : List (Option Writer) → DoneRead → ℕ → Why → ℕ → Type 0
IsToReader writers read place why target =
    (element : ℕ) × EndsWith read.seen.now element
    × IsShownStep writers read element place why target

-- to the writer of the first element that the longest read has behind this one
abbrev pub IsFromReader
    : List (Option Writer) → List (Option DoneRead) → DoneRead → ℕ → Why → ℕ → Type 0
IsFromReader writers longest read place why target =
    (element : ℕ)
    × (slice_get (longest_of longest read.key) (length read.seen.now) ≡ Some element)
    × IsLackedStep writers read element place why target

-- to the transaction of one of these reads, or from it
abbrev pub IsReadStep
    : List (Option Writer) → List (Option DoneRead) → List DoneRead → ℕ → Why → ℕ → Type 0
IsReadStep writers longest reads place why target =
    (read : DoneRead) × IsAmongReads reads read
    × (IsToReader writers read place why target
    ⊎ IsFromReader writers longest read place why target)

-- from writer to writer along the longest read of a key
abbrev pub IsAlongStep : List (Option Writer) → List (Option DoneRead) → ℕ → Why → ℕ → Type 0
IsAlongStep writers longest place why target =
    (key : ℕ) × IsAlong writers key (longest_of longest key) place why target
