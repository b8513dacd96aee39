-- The title of a page: a sentence that says what was found (this project's own).
use Rattle.std.specs.Prelude.{ℕ, ◌==◌, Bool, List, [], ◌++◌, length, codes, if◌then◌else◌, Option}
use Rattle.std.specs.Prelude.{Some, None}
use Rattle.std.specs.Fmt.{decimal}
use Rattle.std.specs.List.{count_by}
use Rattle.jh_check.specs.declared.set.SetFound.{SetFound}
use Rattle.jh_check.specs.declared.verdict.Verdict.{Verdict}
use Rattle.jh_checkers.specs.Findings.{finding_verdict}
use Rattle.jh_checkers.specs.declared.explanation.Explanation.{Explanation}
use Rattle.jh_checkers.specs.declared.finding.Finding.{Finding}
use Rattle.jh_checkers.specs.declared.finding.Finding.TheVariants.{Set, Counter, Ids, Register}
use Rattle.jh_checkers.specs.declared.finding.Finding.TheVariants.{ListAppend, TotalQueue, Queue}
use Rattle.jh_checkers.specs.declared.finding.Finding.TheVariants.{Bank, SetFull, Mutex, FifoQueue}
use Rattle.jh_fifo.specs.declared.verdict.FifoReason.{FifoReason}
use Rattle.jh_fifo.specs.declared.verdict.FifoReason.TheVariants as reasons
use Rattle.jh_fifo.specs.declared.verdict.FifoVerdict.{FifoVerdict}
use Rattle.jh_fifo.specs.declared.verdict.FifoVerdict.TheVariants as fifo
use Rattle.jh_queue.specs.declared.queue.QueueResult.{QueueResult}
use Rattle.jh_queue.specs.declared.queue.QueueResult.TheVariants.{Dequeued, First}
use Rattle.jh_independent.specs.Lines.{verdict_of_all}
use Rattle.jh_independent.specs.declared.serial.KeyFinding.{KeyFinding}
use Rattle.jh_linear.specs.declared.verdict.LinVerdict.{LinVerdict}
use Rattle.jh_linear.specs.declared.verdict.LinVerdict.TheVariants.{Valid, Invalid, Unknown}
use Rattle.jh_ops.specs.Operation.{Operation, operation}
use Rattle.jh_ops.specs.declared.operation.Process.{Process}
use Rattle.jh_bands.specs.Words.{answered_text}
use Rattle.jh_timeline_sections.specs.KeySections.{rank_of_verdict}
use Rattle.jh_txn_findings.specs.declared.finding.TxnFinding.{TxnFinding}
use Rattle.jh_txn_findings.specs.declared.finding.TxnFinding.TheVariants as txns

-- the word that a title begins with
abbrev pub verdict_word : Verdict → List ℕ
verdict_word Verdict.True = codes "Valid"
verdict_word Verdict.Unknown = codes "Unknown"
verdict_word Verdict.False = codes "Not valid"

-- so many, and behind the number what is said of one, or of more
abbrev pub counted_text : ℕ → (one more : List ℕ) → List ℕ
counted_text number one more = decimal number ++ (if number == 1 then one else more)

-- ---- one history: what is said behind the verdict

-- how many elements are lost, and how many unexpected
abbrev pub wrong_elements_text : (lost unexpected : ℕ) → List ℕ
wrong_elements_text lost unexpected =
    codes ": " ++ (counted_text lost (codes " element is lost") (codes " elements are lost")
    ++ (codes ", " ++ counted_text unexpected (codes " is unexpected") (codes " are unexpected")))

-- a set that is not valid: how many elements are wrong; one of unknown verdict: why that is so
abbrev pub set_reason : Verdict → Option SetFound → List ℕ
set_reason Verdict.False (Some found) =
    wrong_elements_text (length found.lost) (length found.unexpected)
set_reason Verdict.Unknown found = codes ": the set was never read"
set_reason verdict found = []

-- a counter that is not valid: how many reads are outside their bounds
abbrev pub counter_reason : Verdict → ℕ → List ℕ
counter_reason Verdict.False errors =
    codes ": " ++ counted_text errors (codes " read is outside its bounds")
    (codes " reads are outside their bounds")
counter_reason verdict errors = []

-- ids that are not valid: how many were given more than once
abbrev pub ids_reason : Verdict → ℕ → List ℕ
ids_reason Verdict.False duplicated =
    codes ": " ++ counted_text duplicated (codes " id was given more than once")
    (codes " ids were given more than once")
ids_reason verdict duplicated = []

abbrev pub process_text : Process → List ℕ
process_text (Process.Client client) = codes "process " ++ decimal client
process_text Process.Nemesis = codes "the nemesis"

-- where a history is stuck: the place of a completion, its process, and what it says
abbrev pub stuck_text : ℕ → Operation → List ℕ
stuck_text end completion =
    codes ", stuck at record " ++ (decimal end ++ (codes " (" ++ (process_text completion.process
    ++ (codes ": " ++ (answered_text completion.f completion.value ++ codes ")")))))

-- where it is stuck, if that was explained
abbrev pub explained_text : ℕ → Option Explanation → List ℕ
explained_text end None = []
explained_text end (Some explanation) = stuck_text end (operation explanation.completion)

-- how many operations have an order
abbrev pub ordered_text : ℕ → List ℕ
ordered_text operations =
    codes ": " ++ counted_text operations (codes " operation has an order")
    (codes " operations have an order")

-- a register or a mutex: how many operations have an order, or that there is none, or why that is not known
abbrev pub register_reason : LinVerdict → Option Explanation → List ℕ
register_reason (Valid order) explanation = ordered_text (length order)
register_reason (Invalid stuck) explanation =
    codes ": no order of all operations" ++ explained_text stuck.end explanation
register_reason (Unknown reached) explanation = codes ": the judge gave up"

-- the transaction at a place has a bad read
abbrev pub bad_read_text : ℕ → List ℕ
bad_read_text place = codes ": transaction " ++ (decimal place ++ codes " has a bad read")

abbrev pub cycle_text : ℕ → List ℕ
cycle_text steps = codes ": a cycle of " ++ counted_text steps (codes " step") (codes " steps")

-- transactions that are not valid: the bad read or the cycle; of unknown verdict: why that is so
abbrev pub transactions_reason : TxnFinding → List ℕ
transactions_reason (txns.Valid order) = []
transactions_reason (txns.BadRead place index kind operations) = bad_read_text place
transactions_reason (txns.Cycle steps operations) = cycle_text (length steps.items)
transactions_reason txns.Unknown = codes ": the judge gave up"

-- a total queue that is not valid: how many elements are lost, and how many unexpected
abbrev pub total_queue_reason : Verdict → (lost unexpected : ℕ) → List ℕ
total_queue_reason Verdict.False lost unexpected = wrong_elements_text lost unexpected
total_queue_reason verdict lost unexpected = []

-- a queue that is not valid: its first dequeue that comes from no enqueue
abbrev pub queue_reason : QueueResult → List ℕ
queue_reason (Dequeued count) = []
queue_reason (First place completion) =
    codes ": the dequeue at index " ++ (decimal place ++ codes " comes from no enqueue")

-- what excludes every order of a first-in-first-out queue
abbrev pub order_excluded_text : FifoReason → List ℕ
order_excluded_text (reasons.EndedBeforeInvoked number) =
    codes ": an operation ended before it was invoked"
order_excluded_text (reasons.NeverEnqueued number) =
    codes ": a value is dequeued that was never enqueued"
order_excluded_text (reasons.DequeuedTwice first second) = codes ": a value is dequeued twice"
order_excluded_text (reasons.DequeuedBeforeEnqueued dequeue enqueue) =
    codes ": a value is dequeued before it is enqueued"
order_excluded_text (reasons.OutOfOrder first second) =
    codes ": of two values each has to come before the other"
order_excluded_text (reasons.NeverEmpty number) =
    codes ": a dequeue found the queue empty, which it never was"

-- a bank that is not valid: how many reads have wrong balances
abbrev pub bank_reason : Verdict → ℕ → List ℕ
bank_reason Verdict.False wrong =
    codes ": " ++ counted_text wrong (codes " read has wrong balances")
    (codes " reads have wrong balances")
bank_reason verdict wrong = []

-- how many elements of a set over time are lost, were stale, and are shown twice by a read
abbrev pub timed_elements_text : (lost stale duplicated : ℕ) → List ℕ
timed_elements_text lost stale duplicated =
    codes ": " ++ (counted_text lost (codes " element is lost") (codes " elements are lost")
    ++ (codes ", " ++ (counted_text stale (codes " was stale") (codes " were stale")
    ++ (codes ", " ++ counted_text duplicated (codes " is shown twice")
    (codes " are shown twice")))))

-- a set over time that is not valid: how many elements are wrong; one of unknown verdict: why that is so
abbrev pub set_full_reason : Verdict → (lost stale duplicated : ℕ) → List ℕ
set_full_reason Verdict.False lost stale duplicated = timed_elements_text lost stale duplicated
set_full_reason Verdict.Unknown lost stale duplicated = codes ": no element is stable"
set_full_reason Verdict.True lost stale duplicated = []

-- a first-in-first-out queue: how many operations have an order, or what excludes every order, or why
-- none is sought
abbrev pub fifo_reason : FifoVerdict → List ℕ
fifo_reason (fifo.Valid order) = ordered_text (length order.items)
fifo_reason (fifo.Invalid why) = order_excluded_text why
fifo_reason (fifo.EnqueuedTwice first second) = codes ": a value is enqueued twice"
fifo_reason (fifo.UnknownDequeue number) = codes ": it is not known what a dequeue did"

-- what is said behind the verdict, by the checker
abbrev pub reason : Finding → List ℕ
reason (Set found) = set_reason found.verdict found.found
reason (Counter found) = counter_reason found.verdict (length found.errors)
reason (Ids found) = ids_reason found.verdict (length found.duplicated)
reason (Register judged explanation) = register_reason judged explanation
reason (ListAppend found) = transactions_reason found
reason (TotalQueue found) =
    total_queue_reason found.verdict (length found.lost) (length found.unexpected)
reason (Queue found) = queue_reason found
reason (Bank found) = bank_reason found.verdict (length found.wrong.items)
reason (SetFull found) =
    set_full_reason found.verdict (length found.lost) (length found.stale)
    (length found.duplicated)
reason (Mutex judged explanation) = register_reason judged explanation
reason (FifoQueue found) = fifo_reason found.verdict

-- the title of a history: the verdict with what is said behind it, or that nothing was judged
abbrev pub history_title : Option Finding → List ℕ
history_title None = codes "A history"
history_title (Some found) = verdict_word (finding_verdict found) ++ reason found

-- ---- keys

-- the verdict on a key is this one
abbrev pub is_of_verdict : Verdict → KeyFinding → Bool
is_of_verdict verdict one =
    rank_of_verdict (finding_verdict one.finding) == rank_of_verdict verdict

abbrev pub keys_text : ℕ → List ℕ
keys_text total = counted_text total (codes " key") (codes " keys")

abbrev pub some_keys_text : (count total : ℕ) → List ℕ
some_keys_text count total = codes ": " ++ (decimal count ++ (codes " of " ++ keys_text total))

-- how many keys there are, where all are valid; else how many of them have the verdict of all
abbrev pub keys_reason : Verdict → List KeyFinding → List ℕ
keys_reason Verdict.True findings = codes ": " ++ keys_text (length findings)
keys_reason verdict findings =
    some_keys_text (count_by (is_of_verdict verdict) findings) (length findings)

-- the title of a history of independent keys
abbrev pub keys_title : Option (List KeyFinding) → List ℕ
keys_title None = codes "A history"
keys_title (Some findings) =
    verdict_word (verdict_of_all findings) ++ keys_reason (verdict_of_all findings) findings
