-- Points and steps between them, of nodes and steps of a graph: those of nodes below a count are the
-- starts, those behind them the commits. This project's own.
use Rattle.std.specs.Prelude.{ℕ, ◌+◌, ◌-◌, ◌==◌, nat_lt, Option, Some, None, List, [], ◌∷◌}
use Rattle.std.specs.Prelude.{if◌then◌else◌}
use Rattle.jh_txn.specs.Cycles.{first_place}
use Rattle.jh_txn.specs.declared.dependency.Step.{Step}
use Rattle.jh_txn.specs.declared.dependency.Why.{Why}
use Rattle.jh_txn.specs.declared.txn.Point.{Point}
use Rattle.jh_txn.specs.declared.txn.Point.TheVariants.{Start, Commit}
use Rattle.jh_txn.specs.SnapshotCheckInside.{place_of_point}

-- the point of a node
abbrev pub point_at : ℕ → ℕ → Point
point_at count node = if nat_lt node count then Start node else Commit (node - count)

-- its transaction
abbrev pub transaction_at : ℕ → ℕ → ℕ
transaction_at count node = place_of_point (point_at count node)

-- why a step leads on, unless it is from a start to its commit
abbrev pub why_to : ℕ → Step → ℕ → Option Why
why_to count step to = if to == count + step.place then None else Some step.why

-- steps of points, of steps of a graph
abbrev pub point_steps : ℕ → List Step → ℕ → List (Point × Option Why)
point_steps count [] last = []
point_steps count (step ∷ steps) last =
    (point_at count step.place, why_to count step (first_place steps last))
    ∷ point_steps count steps last
