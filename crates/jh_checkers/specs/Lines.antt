-- The line of what is found in a history, without its line feed (this project's own; the keys are
-- those of jepsen.checker, and for transactions those of Elle): the printed text of a map.
use Rattle.std.specs.Prelude.{ℕ, ℤ, pos, List, [], ◌∷◌, map, codes, Option, Some, None}
use Rattle.jh_edn.specs.Edn.{Edn, nil, int, keyword}
use Rattle.jh_edn.specs.Parts.{vector_of}
use Rattle.jh_edn.specs.Print.{print}
use Rattle.jh_ops.specs.Operation.{operation}
use Rattle.jh_ops.specs.OperationWritten.{value_written}
use Rattle.jh_check.specs.Lines.{counter_value, ids_value, map_with_verdict, set_value}
use Rattle.jh_checkers.specs.Findings.{verdict_of_register}
use Rattle.jh_checkers.specs.declared.explanation.Explanation.{Explanation}
use Rattle.jh_checkers.specs.declared.finding.Finding.{Finding}
use Rattle.jh_checkers.specs.declared.finding.Finding.TheVariants.{Set, Counter, Ids, Register}
use Rattle.jh_checkers.specs.declared.finding.Finding.TheVariants.{ListAppend, TotalQueue, Queue}
use Rattle.jh_checkers.specs.declared.finding.Finding.TheVariants.{Bank, SetFull, Mutex, FifoQueue}
use Rattle.jh_bank.specs.BankLines.{bank_value}
use Rattle.jh_fifo_check.specs.FifoLines.{fifo_value}
use Rattle.jh_linear.specs.declared.operations.Object.{Object}
use Rattle.jh_linear.specs.declared.verdict.LinVerdict.{LinVerdict}
use Rattle.jh_linear.specs.declared.verdict.LinVerdict.TheVariants.{Valid, Invalid}
use Rattle.jh_linear.specs.declared.verdict.Stuck.{Stuck}
use Rattle.jh_queue.specs.Lines.{queue_value}
use Rattle.jh_set_full.specs.Lines.{set_full_value}
use Rattle.jh_total_queue.specs.Lines.{total_queue_value}
use Rattle.jh_txn_findings.specs.Lines.{txn_finding_value}
use Rattle.jh_unique.specs.declared.verdict.UniqueReason.{UniqueReason}
use Rattle.jh_unique.specs.declared.verdict.UniqueReason.TheVariants.{Nowhere, FromOne, Behind}

-- the numbers of operations, which are places among the pairs, as a vector
abbrev pub order_value : List ℕ → Edn
order_value order = vector_of (map (λ place. int (pos place)) order)

-- what a register holds
abbrev pub held_value : Option ℤ → Edn
held_value None = nil
held_value (Some number) = int number

-- the name of a reason why a register has no order
abbrev pub unique_reason_name : UniqueReason → List ℕ
unique_reason_name (Nowhere number) = codes "no-origin"
unique_reason_name (FromOne first second) = codes "replaced-twice"
unique_reason_name (Behind first second) = codes "out-of-order"

-- the operations that such a reason names
abbrev pub named_by_unique_reason : UniqueReason → List ℕ
named_by_unique_reason (Nowhere number) = number ∷ []
named_by_unique_reason (FromOne first second) = first ∷ second ∷ []
named_by_unique_reason (Behind first second) = first ∷ second ∷ []

-- a reason with the operations that it names, where there is one
abbrev pub because_pairs : Option UniqueReason → List (Edn × Edn)
because_pairs None = []
because_pairs (Some reason) =
    (keyword (codes "because"), keyword (unique_reason_name reason))
    ∷ (keyword (codes "named"), order_value (named_by_unique_reason reason)) ∷ []

-- Where a register is stuck: at a completion, written as operations are; behind an order, which leads
-- to a value; what is pending there, and why.
abbrev pub stuck_register_pairs : Stuck → Explanation → Option UniqueReason → List (Edn × Edn)
stuck_register_pairs stuck explanation because =
    (keyword (codes "stuck"), value_written (operation explanation.completion))
    ∷ (keyword (codes "order"), order_value stuck.order)
    ∷ (keyword (codes "value"), held_value stuck.value)
    ∷ (keyword (codes "pending"), order_value explanation.pending.items)
    ∷ because_pairs because

-- Where an object is stuck. A mutex shows no value. It has no reason either: where it has no order,
-- what it holds is written twice, or as it is at first.
abbrev pub stuck_pairs : Object → Stuck → Explanation → List (Edn × Edn)
stuck_pairs Object.Register stuck explanation =
    stuck_register_pairs stuck explanation explanation.because
stuck_pairs Object.Mutex stuck explanation =
    (keyword (codes "stuck"), value_written (operation explanation.completion))
    ∷ (keyword (codes "order"), order_value stuck.order)
    ∷ (keyword (codes "pending"), order_value explanation.pending.items) ∷ []

-- A yes has its order behind the verdict. A no has its explanation there, if it has one.
abbrev pub others_of : Object → LinVerdict → Option Explanation → List (Edn × Edn)
others_of object (Valid order) explanation = (keyword (codes "order"), order_value order) ∷ []
others_of object (Invalid stuck) (Some explanation) = stuck_pairs object stuck explanation
others_of _ _ _ = []

-- of a register or a mutex
abbrev pub object_value : Object → LinVerdict → Option Explanation → Edn
object_value object judged explanation =
    map_with_verdict (verdict_of_register judged) (others_of object judged explanation)

-- ---- all

-- what is found, as a map
abbrev pub finding_value : Finding → Edn
finding_value (Set found) = set_value found
finding_value (Counter found) = counter_value found
finding_value (Ids found) = ids_value found
finding_value (Register judged explanation) = object_value Object.Register judged explanation
finding_value (ListAppend found) = txn_finding_value found
finding_value (TotalQueue found) = total_queue_value found
finding_value (Queue found) = queue_value found
finding_value (Bank found) = bank_value found
finding_value (SetFull found) = set_full_value found
finding_value (Mutex judged explanation) = object_value Object.Mutex judged explanation
finding_value (FifoQueue found) = fifo_value found

abbrev pub finding_line : Finding → List ℕ
finding_line finding = print (finding_value finding)
