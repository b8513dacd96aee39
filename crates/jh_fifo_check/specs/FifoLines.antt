-- The line of what is found, without its line feed (this project's own): the printed text of a map.
use Rattle.std.specs.Prelude.{ℕ, pos, List, [], ◌∷◌, map, codes}
use Rattle.jh_edn.specs.Edn.{Edn, int, keyword}
use Rattle.jh_edn.specs.Parts.{vector_of}
use Rattle.jh_ops.specs.declared.operation.Op.{Op}
use Rattle.jh_check.specs.Lines.{map_with_verdict, operations_value}
use Rattle.jh_fifo.specs.declared.verdict.FifoReason.{FifoReason}
use Rattle.jh_fifo.specs.declared.verdict.FifoReason.TheVariants.{EndedBeforeInvoked, NeverEnqueued, DequeuedTwice}
use Rattle.jh_fifo.specs.declared.verdict.FifoReason.TheVariants.{DequeuedBeforeEnqueued, OutOfOrder, NeverEmpty}
use Rattle.jh_fifo.specs.declared.verdict.FifoVerdict.{FifoVerdict}
use Rattle.jh_fifo.specs.declared.verdict.FifoVerdict.TheVariants.{Valid, Invalid, EnqueuedTwice, UnknownDequeue}
use Rattle.jh_fifo_check.specs.FifoFindings.{named_by_verdict, verdict_of_fifo}
use Rattle.jh_fifo_check.specs.declared.finding.FifoFinding.{FifoFinding}

-- numbers of operations, as a vector
abbrev pub numbers_value : List ℕ → Edn
numbers_value numbers = vector_of (map (λ number. int (pos number)) numbers)

-- the name of a reason
abbrev pub reason_name : FifoReason → List ℕ
reason_name (EndedBeforeInvoked number) = codes "ended-before-invoked"
reason_name (NeverEnqueued number) = codes "never-enqueued"
reason_name (DequeuedTwice first second) = codes "dequeued-twice"
reason_name (DequeuedBeforeEnqueued dequeue enqueue) = codes "dequeued-before-enqueued"
reason_name (OutOfOrder first second) = codes "out-of-order"
reason_name (NeverEmpty number) = codes "never-empty"

-- why a verdict is not `true`
abbrev pub because_of : FifoVerdict → List ℕ
because_of (Valid order) = []
because_of (Invalid reason) = reason_name reason
because_of (EnqueuedTwice first second) = codes "enqueued-twice"
because_of (UnknownDequeue number) = codes "unknown-dequeue"

-- the operations that are shown, if there are any
abbrev pub operations_shown : List Op → List (Edn × Edn)
operations_shown [] = []
operations_shown (op ∷ ops) = (keyword (codes "operations"), operations_value (op ∷ ops)) ∷ []

-- behind a verdict that is not `true`: why, and which operations are named
abbrev pub why_pairs : List ℕ → List ℕ → List Op → List (Edn × Edn)
why_pairs because named ops =
    (keyword (codes "because"), keyword because) ∷ (keyword (codes "named"), numbers_value named)
    ∷ operations_shown ops

-- behind the verdict: the order, or why there is none or none is sought
abbrev pub pairs_found : FifoVerdict → List Op → List (Edn × Edn)
pairs_found (Valid order) ops = (keyword (codes "order"), numbers_value order.items) ∷ []
pairs_found verdict ops = why_pairs (because_of verdict) (named_by_verdict verdict) ops

abbrev pub fifo_value : FifoFinding → Edn
fifo_value found =
    map_with_verdict (verdict_of_fifo found.verdict) (pairs_found found.verdict found.operations.items)
