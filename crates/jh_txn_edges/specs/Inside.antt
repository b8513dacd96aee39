-- How steps between two nodes are added, and when a transaction is done: proofs rest on it, and no
-- public clause names it. This project's own.
use Rattle.std.specs.Prelude.{◌≡◌, ◌≢◌, ℕ, Option, None}
use Rattle.jh_txn.specs.declared.dependency.Step.{Step}
use Rattle.jh_txn.specs.declared.dependency.Why.{Why}
use Rattle.jh_txn.specs.declared.txn.Outcome.{Outcome}
use Rattle.jh_txn.specs.declared.txn.Outcome.TheVariants.{Done, Failed, Unsure}
use Rattle.jh_txn.specs.declared.txn.Txn.{Txn}
pub use Rattle.jh_txn_edges.specs.Adding.{AddsSteps, IsThis}

-- a step to a node, unless it comes from there
abbrev pub IsOther : Step → ℕ → ℕ → Why → ℕ → Type 0
IsOther step node place why target =
    (step.place ≢ node) × (place ≡ step.place) × (why ≡ step.why) × (target ≡ node)

-- what is there if this is how a transaction that is done ended
abbrev pub done_part : Outcome → Option ℕ → Option ℕ
done_part Done completed = completed
done_part Failed completed = None
done_part Unsure completed = None

-- the index at which the transaction was completed, if it is done
abbrev pub done_index : Txn → Option ℕ
done_index txn = done_part txn.outcome txn.completed
