-- Starts and commits as nodes of a graph: of so many transactions first the starts, behind them the
-- commits, and then hubs. This project's own.
use Rattle.std.specs.Prelude.{◌≡◌, ◌⊎◌, ℕ, ◌+◌, ◌<◌, ◌≤◌}
use Rattle.jh_txn.specs.declared.dependency.Why.{Why}
use Rattle.jh_txn.specs.declared.txn.Point.{Point}
use Rattle.jh_txn.specs.declared.txn.Point.TheVariants.{Start, Commit}
use Rattle.jh_txn.specs.Keeping.{leaves_at, arrives_at}

-- the node of a point
abbrev pub node_of_point : ℕ → Point → ℕ
node_of_point count (Start place) = place
node_of_point count (Commit place) = count + place

-- Where a step of a graph of transactions leaves: at a point of its transaction, or at a hub, which
-- here stands further behind.
abbrev pub IsLeaving : ℕ → Why → ℕ → ℕ → Type 0
IsLeaving count why from node =
    ((from < count) × (node ≡ node_of_point count (leaves_at why from)))
    ⊎ ((count ≤ from) × (node ≡ count + from))

-- where it arrives, in the same way
abbrev pub IsArriving : ℕ → Why → ℕ → ℕ → Type 0
IsArriving count why to node =
    ((to < count) × (node ≡ node_of_point count (arrives_at why to)))
    ⊎ ((count ≤ to) × (node ≡ count + to))
