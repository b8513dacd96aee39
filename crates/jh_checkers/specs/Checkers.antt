-- The checkers (Jepsen's `linearizable` over a register and over knossos.model's `mutex`; `set`,
-- `counter`, `unique-ids`, `total-queue`, `queue` and `set-full` of jepsen.checker; those of
-- jepsen.tests.cycle.append and jepsen.tests.bank; and knossos.model's `fifo-queue`), each with the name of the workload whose histories
-- it judges.
use Rattle.std.specs.Prelude.{ℕ, List, [], ◌∷◌, map, codes, if◌then◌else◌, Option, Some, None}
use Rattle.std.specs.Str.{bytes_eq}
use Rattle.jh_ops.specs.Requests.{workload_name}
use Rattle.jh_ops.specs.declared.call.Workload.{Workload}
use Rattle.jh_checkers.specs.declared.checker.Checker.{Checker}
use Rattle.jh_checkers.specs.declared.checker.Checker.TheVariants.{Register, Set, Counter, Ids}
use Rattle.jh_checkers.specs.declared.checker.Checker.TheVariants.{ListAppend, TotalQueue, Queue}
use Rattle.jh_checkers.specs.declared.checker.Checker.TheVariants.{Bank, SetFull, Mutex, FifoQueue}

abbrev pub checker_name : Checker → List ℕ
checker_name Register = workload_name Workload.Register
checker_name Set = workload_name Workload.Set
checker_name Counter = workload_name Workload.Counter
checker_name Ids = workload_name Workload.Ids
checker_name ListAppend = codes "list-append"
checker_name TotalQueue = codes "total-queue"
checker_name Queue = codes "queue"
checker_name Bank = codes "bank"
checker_name SetFull = codes "set-full"
checker_name Mutex = codes "mutex"
checker_name FifoQueue = codes "fifo-queue"

-- the names of all, in the order of help
abbrev pub checker_names : List (List ℕ)
checker_names =
    map checker_name (Register ∷ Set ∷ Counter ∷ Ids ∷ ListAppend ∷ TotalQueue ∷ Queue ∷ Bank
    ∷ SetFull ∷ Mutex ∷ FifoQueue ∷ [])

-- the checker of the workload of this name
abbrev pub checker_named : List ℕ → Option Checker
checker_named name =
    if bytes_eq name (codes "register") then Some Register
    else if bytes_eq name (codes "set") then Some Set
    else if bytes_eq name (codes "counter") then Some Counter
    else if bytes_eq name (codes "unique-ids") then Some Ids
    else if bytes_eq name (codes "list-append") then Some ListAppend
    else if bytes_eq name (codes "total-queue") then Some TotalQueue
    else if bytes_eq name (codes "queue") then Some Queue
    else if bytes_eq name (codes "bank") then Some Bank
    else if bytes_eq name (codes "set-full") then Some SetFull
    else if bytes_eq name (codes "mutex") then Some Mutex
    else if bytes_eq name (codes "fifo-queue") then Some FifoQueue
    else None

-- the checker of a workload that simulated clusters run; they run these four alone
abbrev pub checker_of : Workload → Checker
checker_of Workload.Register = Register
checker_of Workload.Set = Set
checker_of Workload.Counter = Counter
checker_of Workload.Ids = Ids
