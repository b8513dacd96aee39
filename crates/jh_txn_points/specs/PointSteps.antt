-- Steps between starts, commits and hubs. Each says from which node, why and to which node it leads.
-- `count` is how many transactions there are. This project's own.
use Rattle.std.specs.Prelude.{◌≡◌, ◌≢◌, ◌⊎◌, ◌==◌, ℕ, ◌+◌, ◌<◌, ◌≤◌, Bool, List, Option, Some, None, Vec}
use Rattle.std.specs.Prelude.{slice_get, slice_index_or, if◌then◌else◌}
use Rattle.std.specs.declared.alloc.Global.{Global}
use Rattle.jh_txn.specs.declared.dependency.Step.{Step}
use Rattle.jh_txn.specs.declared.dependency.Why.{Why}
use Rattle.jh_txn.specs.declared.dependency.Why.TheVariants.{FirstCommitter, ReadWrite, RealTime}
use Rattle.jh_txn.specs.declared.dependency.Why.TheVariants.{WriteWrite}
use Rattle.jh_txn_graph.specs.Graphs.{IsStepTo}
use Rattle.jh_txn_points.specs.Points.{IsArriving, IsLeaving}
use Rattle.jh_txn_seen.specs.Marks.{IsMarked}
use Rattle.jh_txn_seen.specs.Middles.{IsFullRead}
use Rattle.jh_txn_seen.specs.Places.{writer_place}
use Rattle.jh_txn_seen.specs.Reads.{IsAmongReads}
use Rattle.jh_txn_seen.specs.declared.done_reads.DoneRead.{DoneRead}
use Rattle.jh_txn_seen.specs.declared.middles.Middle.{Middle}
use Rattle.jh_txn_writers.specs.Writers.{EndsWith, writer_at}
use Rattle.jh_txn_writers.specs.declared.writer.Writer.{Writer}

-- from the start of a transaction to its commit
abbrev pub IsCommitStep : ℕ → ℕ → Why → ℕ → Type 0
IsCommitStep count place why target =
    (place < count) × (why ≡ RealTime) × (target ≡ count + place)

-- the node is the hub of a key in a graph of transactions
abbrev pub IsKeyHub : ℕ → ℕ → ℕ → Type 0
IsKeyHub count keys node = (count ≤ node) × (node < count + keys)

-- what becomes of a step of a graph of transactions which no hub of a key has a part in
abbrev pub IsStepOfPoints : ℕ → ℕ → Step → ℕ → ℕ → Why → ℕ → Type 0
IsStepOfPoints count keys step to place why target =
    (¬ IsKeyHub count keys step.place) × (¬ IsKeyHub count keys to) × (why ≡ step.why)
    × IsLeaving count step.why step.place place × IsArriving count step.why to target

-- one of those steps
abbrev pub IsKeptStep : ℕ → ℕ → List (Vec Step Global) → ℕ → Why → ℕ → Type 0
IsKeptStep count keys edges place why target =
    (to : ℕ) × (step : Step) × IsStepTo edges step to
    × IsStepOfPoints count keys step to place why target

-- from the start of one that read all of a key to the hub of the key
abbrev pub IsHubStep
    : ℕ → List (Option DoneRead) → DoneRead → ℕ → Why → ℕ → Type 0
IsHubStep count longest read place why target =
    IsFullRead longest read × (place ≡ read.place) × (why ≡ RealTime)
    × (target ≡ count + count + read.key)

-- one of those steps
abbrev pub IsAnyHubStep
    : ℕ → List (Option DoneRead) → List DoneRead → ℕ → Why → ℕ → Type 0
IsAnyHubStep count longest reads place why target =
    (read : DoneRead) × IsAmongReads reads read × IsHubStep count longest read place why target

-- from the hub of a key to the commit of one that appends an element to the key
abbrev pub IsFromHubStep : ℕ → Writer → ℕ → ℕ → Why → ℕ → Type 0
IsFromHubStep count writer element place why target =
    (place ≡ count + count + writer.key) × (why ≡ ReadWrite writer.key element)
    × (target ≡ count + writer.place)

-- Why the writer of a key's last element comes before one that appends more: because the reader of
-- the longest list saw that element, or as first committer, if it is that reader itself.
abbrev pub last_why : ℕ → ℕ → ℕ → ℕ → Why
last_why reader first key last =
    if reader == first then FirstCommitter key last else WriteWrite key last

-- from the commit of the writer of a key's last element to the start of one that appends more
abbrev pub IsLastStep
    : ℕ → List (Option Writer) → Writer → ℕ → ℕ → ℕ → Why → ℕ → Type 0
IsLastStep count writers writer reader last place why target =
    (first : ℕ) × (writer_place writers writer.key last ≡ Some first) × (first ≢ writer.place)
    × (place ≡ count + first) × (why ≡ last_why reader first writer.key last)
    × (target ≡ writer.place)

-- the same, where the key has a longest read and this has a last element
abbrev pub IsBehindStep
    : ℕ → List (Option Writer) → List (Option DoneRead) → Writer → ℕ → Why → ℕ → Type 0
IsBehindStep count writers longest writer place why target =
    (read : DoneRead) × (last : ℕ) × (slice_index_or longest writer.key None ≡ Some read)
    × EndsWith read.seen.now last
    × IsLastStep count writers writer read.place last place why target

-- from the commit of one that read all of a key and appends more, to the start of another one that
-- appends more
abbrev pub IsFirstCommitterStep : ℕ → List Middle → Writer → ℕ → Why → ℕ → Type 0
IsFirstCommitterStep count middles writer place why target =
    (middle : Middle) × (key own : ℕ) × (slice_get middles writer.key ≡ Some middle)
    × (middle.why ≡ ReadWrite key own) × (middle.node < count) × (middle.node ≢ writer.place)
    × (place ≡ count + middle.node) × (why ≡ FirstCommitter key own) × (target ≡ writer.place)

-- all steps to one that appends an element
abbrev pub IsWriterStep
    : ℕ → List (Option Writer) → List (Option DoneRead) → List Middle → Writer → ℕ → ℕ → Why → ℕ
    → Type 0
IsWriterStep count writers longest middles writer element place why target =
    IsFromHubStep count writer element place why target
    ⊎ (IsBehindStep count writers longest writer place why target
    ⊎ IsFirstCommitterStep count middles writer place why target)

-- those of an element that no read has, if its writer must be there
abbrev pub IsUnreadPointStep
    : ℕ → List (Option Writer) → List Bool → List Bool → List (Option DoneRead) → List Middle → ℕ
    → ℕ → Why → ℕ → Type 0
IsUnreadPointStep count writers there marks longest middles element place why target =
    (writer : Writer) × (writer_at writers element ≡ Some writer) × IsMarked there writer.place
    × (¬ IsMarked marks element)
    × IsWriterStep count writers longest middles writer element place why target

-- those of all elements
abbrev pub IsAnyUnreadPointStep
    : ℕ → List (Option Writer) → List Bool → List Bool → List (Option DoneRead) → List Middle
    → ℕ → Why → ℕ → Type 0
IsAnyUnreadPointStep count writers there marks longest middles place why target =
    (element : ℕ)
    × IsUnreadPointStep count writers there marks longest middles element place why target
