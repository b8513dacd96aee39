-- Findings of one bad read and of one cycle, whatever the model: proofs rest on it, and no public
-- clause names it. This project's own.
use Rattle.std.specs.Prelude.{◌≡◌, Bool, List, [], ◌∷◌, map}
use Rattle.jh_ops.specs.Operation.{Operation}
use Rattle.jh_ops.specs.declared.pairs.Pair.{Pair}
use Rattle.jh_txn.specs.declared.dependency.Step.{Step}
use Rattle.jh_txn_check.specs.Found.{AreShown}
use Rattle.jh_txn_findings.specs.Found.{AreFoundSteps}
use Rattle.jh_txn_findings.specs.declared.finding.TxnFinding.{TxnFinding}
use Rattle.jh_txn_findings.specs.declared.finding.TxnFinding.TheVariants as found
use Rattle.jh_txn_histories.specs.declared.numbered.Transactions.{Transactions}
use Rattle.jh_txn_reads.specs.declared.find.BadReadAt.{BadReadAt}

-- the finding is this bad read
abbrev pub IsBadReadFound
    : List Operation → List Pair → Bool → BadReadAt → TxnFinding → Type 0
IsBadReadFound history pairs explain at (found.BadRead place index kind operations) =
    (place ≡ at.place) × (index ≡ at.index) × (kind ≡ at.kind)
    × AreShown history pairs explain (at.place ∷ []) operations
IsBadReadFound history pairs explain at _ = ⊥

-- the finding is this cycle, with the keys and elements of the history
abbrev pub IsCycleFound
    : List Operation → List Pair → Bool → Transactions → List Step → TxnFinding → Type 0
IsCycleFound history pairs explain read cycle (found.Cycle steps operations) =
    AreFoundSteps read.keys read.elements cycle steps.items
    × AreShown history pairs explain (map (λ step. step.place) cycle) operations
IsCycleFound history pairs explain read cycle _ = ⊥
