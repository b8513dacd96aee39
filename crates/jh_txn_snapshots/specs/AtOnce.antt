-- The points of transactions one after another, of which each commits just behind its start. Of a
-- serial order these are a snapshot order: serializability implies snapshot isolation (Berenson and
-- others, "A critique of ANSI SQL isolation levels", 1995).
use Rattle.std.specs.Prelude.{ℕ, List, [], ◌∷◌}
use Rattle.jh_txn.specs.declared.txn.Point.{Point}
use Rattle.jh_txn.specs.declared.txn.Point.TheVariants.{Start, Commit}

-- the points of the transactions at these places, each of which starts and commits at once
abbrev pub at_once : List ℕ → List Point
at_once [] = []
at_once (place ∷ order) = Start place ∷ Commit place ∷ at_once order
