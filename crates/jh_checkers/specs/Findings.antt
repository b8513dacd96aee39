-- What a checker finds in a history, and why it judges none (the checkers of specs/Checkers.antt; what
-- each finds stands in the definitions of its own crate).
use Rattle.std.specs.Prelude.{◌≡◌, ◌⊎◌, ◌<◌, ℕ, ℤ, pos, Bool, true, false, if◌then◌else◌, List, []}
use Rattle.std.specs.Prelude.{Option, Some, None}
use Rattle.std.specs.Prelude.{unwrap_or}
use Rattle.std.specs.Option.{option_map_or}
use Rattle.jh_edn.specs.Edn.{Edn}
use Rattle.jh_edn.specs.View.{views}
use Rattle.jh_ops.specs.Operation.{Operation}
use Rattle.jh_ops.specs.Pairing.{IsWellFormed, RefusesPairing, history_pairs}
use Rattle.jh_ops.specs.declared.pairs.PairError.TheVariants as pair_errors
use Rattle.jh_check.specs.CounterResults.{IsCountable, RefusesCounter, counter_result}
use Rattle.jh_check.specs.CounterResults.{error_of_pairing}
use Rattle.jh_check.specs.IdsResults.{ids_result}
use Rattle.jh_check.specs.SetResults.{IsJudgeable, RefusesSet, set_result}
use Rattle.jh_check.specs.declared.error.CheckError.{CheckError}
use Rattle.jh_check.specs.declared.error.CheckError.TheVariants.{Pair, BadValue, NegativeAdd}
use Rattle.jh_check.specs.declared.error.CheckError.TheVariants.{RepeatedAppend, OutOfMemory}
use Rattle.jh_check.specs.declared.verdict.Verdict.{Verdict}
use Rattle.jh_bank.specs.Banks.{IsBankHistory, IsBankResult, RefusesBank, bank_of}
use Rattle.jh_bank.specs.declared.bank.Bank.{Bank}
use Rattle.jh_bank.specs.declared.judge.BankResult.{BankResult}
use Rattle.jh_queue.specs.Queue.{IsQueueResult, RefusesQueue}
use Rattle.jh_queue.specs.declared.queue.QueueResult.{QueueResult}
use Rattle.jh_queue.specs.declared.queue.QueueResult.TheVariants.{Dequeued, First}
use Rattle.jh_set_full.specs.SetFull.{AreReadsKnown, RefusesSetFull, set_full_result}
use Rattle.jh_total_queue.specs.TotalQueue.{AreDrainsKnown, RefusesTotalQueue, total_queue_result}
use Rattle.jh_fifo_check.specs.FifoFindings.{IsFifoFinding, verdict_of_fifo}
use Rattle.jh_fifo_check.specs.FifoHistories.{IsFifoHistory, RefusesFifo}
use Rattle.jh_fifo_check.specs.declared.finding.FifoFinding.{FifoFinding}
use Rattle.jh_linear.specs.Operations.{AreRegOps, IsLeastBad, free, held}
use Rattle.jh_linear.specs.Verdict.{IsJudged}
use Rattle.jh_linear.specs.declared.operations.Object.{Object}
use Rattle.jh_linear.specs.declared.register.RegOp.{RegOp}
use Rattle.jh_linear.specs.declared.verdict.LinVerdict.{LinVerdict}
use Rattle.jh_linear.specs.declared.verdict.LinVerdict.TheVariants.{Valid, Invalid, Unknown}
use Rattle.jh_txn.specs.declared.model.ConsistencyModel.{ConsistencyModel}
use Rattle.jh_txn.specs.declared.model.ConsistencyModel.TheVariants.{StrictSerializable}
use Rattle.jh_txn_check.specs.Found.{IsTxnFinding}
use Rattle.jh_txn_findings.specs.Findings.{txn_finding_verdict}
use Rattle.jh_txn_findings.specs.declared.finding.TxnFinding.{TxnFinding}
use Rattle.jh_txn_histories.specs.Histories.{RefusesTransactions}
use Rattle.jh_txn_histories.specs.declared.histories.TxnError.TheVariants as transactions
use Rattle.jh_unique.specs.Judged.{IsDecided}
use Rattle.jh_unique.specs.Unique.{WriteOnce}
use Rattle.jh_checkers.specs.Explanations.{IsExplained, stuck_point}
use Rattle.jh_checkers.specs.declared.checker.Checker.{Checker}
use Rattle.jh_checkers.specs.declared.explanation.Explanation.{Explanation}
use Rattle.jh_checkers.specs.declared.finding.Finding.{Finding}
use Rattle.jh_checkers.specs.declared.finding.Finding.TheVariants.{Set, Counter, Ids, Register}
use Rattle.jh_checkers.specs.declared.finding.Finding.TheVariants.{ListAppend, TotalQueue, Queue}
use Rattle.jh_checkers.specs.declared.finding.Finding.TheVariants.{SetFull, Mutex, FifoQueue}
use Rattle.jh_checkers.specs.declared.finding.Judging.{Judging}

-- the judgement by a checker, within a budget, where nothing else is said to it
abbrev pub judging_by : Checker → ℕ → Judging
judging_by checker budget =
    record {
      checker = checker;
      initial = None;
      budget = budget;
      explain = false;
      model = None;
      accounts = None;
      total = None;
      negative_balances = false;
      linearizable = false;
      locked = false;
    }

-- ---- what is found

-- the operations of an object in a history
abbrev pub AreObjectOps : Object → List Operation → List RegOp → Type 0
AreObjectOps object history ops =
    IsWellFormed history × AreRegOps object history (history_pairs history) ops

-- Of an object that holds this at first: what the judge promises, of which more than one may be right,
-- and the explanation that is asked for. Where each value is written once it is known, unless the budget
-- is 0.
abbrev pub IsLinear : Object → Option ℤ → Judging → List Operation → LinVerdict → Option Explanation
    → Type 0
IsLinear object initial judging history judged explanation =
    (ops : List RegOp) × AreObjectOps object history ops
    × IsJudged ops initial judging.budget judged
    × IsExplained judging.explain history ops initial judged explanation
    × (WriteOnce ops initial → 0 < judging.budget → IsDecided judged)

-- what a mutex holds at first, as the register that it is judged as
abbrev pub mutex_start : Bool → ℤ
mutex_start locked = if locked then held else free

-- the model that transactions are judged by: the one that is asked for, and strict serializability
-- where none is
abbrev pub judged_model : Option ConsistencyModel → ConsistencyModel
judged_model None = StrictSerializable
judged_model (Some model) = model

-- Of transactions: what is found in those of the history by the model that they are judged by, of which
-- more than one may be right.
abbrev pub IsListAppend : Judging → List Operation → TxnFinding → Type 0
IsListAppend judging history found =
    IsWellFormed history
    × IsTxnFinding history (history_pairs history) (judged_model judging.model)
    judging.explain found

-- the accounts that are given, and none where they are missing
abbrev pub accounts_given : Judging → List Edn
accounts_given judging = option_map_or (λ accounts. views accounts.now) judging.accounts []

-- the bank that reads are judged by; its total is 0 where none is given
abbrev pub judged_bank : Judging → Bank
judged_bank judging =
    bank_of (accounts_given judging) (unwrap_or judging.total (pos 0)) judging.negative_balances

-- What this checker finds: a case of its own with the result in it.
abbrev pub IsFindingBy : Checker → Judging → List Operation → Finding → Type 0
IsFindingBy Checker.Set judging history finding =
    IsJudgeable history × (finding ≡ Set (set_result history))
IsFindingBy Checker.Counter judging history finding =
    IsCountable history × (finding ≡ Counter (counter_result history))
IsFindingBy Checker.Ids judging history finding = finding ≡ Ids (ids_result history)
IsFindingBy Checker.Register judging history finding =
    (judged : LinVerdict) × (explanation : Option Explanation)
    × (finding ≡ Register judged explanation)
    × IsLinear Object.Register judging.initial judging history judged explanation
IsFindingBy Checker.ListAppend judging history finding =
    (found : TxnFinding) × (finding ≡ ListAppend found) × IsListAppend judging history found
IsFindingBy Checker.TotalQueue judging history finding =
    AreDrainsKnown history × (finding ≡ TotalQueue (total_queue_result history))
IsFindingBy Checker.Queue judging history finding =
    IsWellFormed history
    × ((found : QueueResult) × (finding ≡ Queue found) × IsQueueResult history found)
IsFindingBy Checker.Bank judging history finding =
    IsBankHistory history
    × ((found : BankResult) × (finding ≡ Finding.Bank found)
    × IsBankResult (judged_bank judging) history found)
IsFindingBy Checker.SetFull judging history finding =
    AreReadsKnown history × (finding ≡ SetFull (set_full_result judging.linearizable history))
IsFindingBy Checker.Mutex judging history finding =
    (judged : LinVerdict) × (explanation : Option Explanation)
    × (finding ≡ Mutex judged explanation)
    × IsLinear Object.Mutex (Some (mutex_start judging.locked)) judging history judged explanation
IsFindingBy Checker.FifoQueue judging history finding =
    IsFifoHistory history
    × ((found : FifoFinding) × (finding ≡ FifoQueue found)
    × IsFifoFinding judging.explain history found)

abbrev pub IsFinding : Judging → List Operation → Finding → Type 0
IsFinding judging history finding = IsFindingBy judging.checker judging history finding

-- of a history this checker has one finding at most
abbrev pub has_one_finding : Checker → Bool
has_one_finding Checker.Set = true
has_one_finding Checker.Counter = true
has_one_finding Checker.Ids = true
has_one_finding Checker.TotalQueue = true
has_one_finding Checker.SetFull = true
has_one_finding _ = false

-- of a history this checker has one line at most: it finds no order and no reason, of which there may
-- be several
abbrev pub has_one_line : Checker → Bool
has_one_line Checker.Register = false
has_one_line Checker.Mutex = false
has_one_line Checker.ListAppend = false
has_one_line Checker.FifoQueue = false
has_one_line _ = true

-- ---- verdicts

-- of a register or a mutex
abbrev pub verdict_of_register : LinVerdict → Verdict
verdict_of_register (Valid order) = Verdict.True
verdict_of_register (Invalid stuck) = Verdict.False
verdict_of_register (Unknown reached) = Verdict.Unknown

abbrev pub verdict_of_queue : QueueResult → Verdict
verdict_of_queue (Dequeued count) = Verdict.True
verdict_of_queue (First place completion) = Verdict.False

-- what a finding says of its history
abbrev pub finding_verdict : Finding → Verdict
finding_verdict (Set found) = found.verdict
finding_verdict (Counter found) = found.verdict
finding_verdict (Ids found) = found.verdict
finding_verdict (Register judged explanation) = verdict_of_register judged
finding_verdict (ListAppend found) = txn_finding_verdict found
finding_verdict (TotalQueue found) = found.verdict
finding_verdict (Queue found) = verdict_of_queue found
finding_verdict (Finding.Bank found) = found.verdict
finding_verdict (SetFull found) = found.verdict
finding_verdict (Mutex judged explanation) = verdict_of_register judged
finding_verdict (FifoQueue found) = verdict_of_fifo found.verdict

-- what of a finding no choice of an order changes: of a register or a mutex that is stuck, and where
-- that is asked for, the completion and what is pending there
abbrev pub stuck_point_of : Finding → Option (Operation × List ℕ)
stuck_point_of (Register judged explanation) = stuck_point explanation
stuck_point_of (Mutex judged explanation) = stuck_point explanation
stuck_point_of finding = None

-- ---- refusals

-- A history of a register or a mutex is refused for its pairs, then for the bad value at the least
-- place. Memory can run out for the pairs, or where neither is wrong.
abbrev pub RefusesObject : Object → List Operation → CheckError → Type 0
RefusesObject object history (Pair error) =
    (error_of_pairing error ≡ Pair error) × RefusesPairing history error
RefusesObject object history (BadValue place) =
    IsWellFormed history × IsLeastBad object history (history_pairs history) (Some place)
RefusesObject object history (NegativeAdd place) = ⊥
RefusesObject object history (RepeatedAppend place) = ⊥
RefusesObject object history OutOfMemory =
    RefusesPairing history pair_errors.OutOfMemory
    ⊎ (IsWellFormed history × IsLeastBad object history (history_pairs history) None)

-- A history of transactions is refused for its pairs, then for a bad value or a repeated append, at
-- the least place of all.
abbrev pub RefusesListAppend : List Operation → CheckError → Type 0
RefusesListAppend history (Pair error) =
    (error_of_pairing error ≡ Pair error) × RefusesPairing history error
RefusesListAppend history (BadValue place) =
    IsWellFormed history
    × RefusesTransactions history (history_pairs history) (transactions.BadValue place)
RefusesListAppend history (NegativeAdd place) = ⊥
RefusesListAppend history (RepeatedAppend place) =
    IsWellFormed history
    × RefusesTransactions history (history_pairs history) (transactions.RepeatedAppend place)
RefusesListAppend history OutOfMemory = Unit {0}

-- A history of a bank is refused for the first read that shows no balances. Memory can run out for
-- the accounts, too.
abbrev pub RefusesAccounts : List Operation → CheckError → Type 0
RefusesAccounts history OutOfMemory = Unit {0}
RefusesAccounts history error = RefusesBank history error

-- why a checker judges no history
abbrev pub RefusesChecking : Checker → List Operation → CheckError → Type 0
RefusesChecking Checker.Set history error = RefusesSet history error
RefusesChecking Checker.Counter history error = RefusesCounter history error
RefusesChecking Checker.Ids history error = error ≡ OutOfMemory
RefusesChecking Checker.Register history error = RefusesObject Object.Register history error
RefusesChecking Checker.ListAppend history error = RefusesListAppend history error
RefusesChecking Checker.TotalQueue history error = RefusesTotalQueue history error
RefusesChecking Checker.Queue history error = RefusesQueue history error
RefusesChecking Checker.Bank history error = RefusesAccounts history error
RefusesChecking Checker.SetFull history error = RefusesSetFull history error
RefusesChecking Checker.Mutex history error = RefusesObject Object.Mutex history error
RefusesChecking Checker.FifoQueue history error = RefusesFifo history error
