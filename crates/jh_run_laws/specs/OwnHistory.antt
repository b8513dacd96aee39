-- What holds of the history of a serial run (this project's own): it is well formed, no checker
-- refuses it, and it is read back from its lines.
use Rattle.std.specs.Prelude.{◌≡◌, All, ℕ, ◌%◌, Bool, true, List, [], ◌∷◌, ◌++◌, Some, None}
use Rattle.jh_ops.specs.declared.call.Call.{Call}
use Rattle.jh_ops.specs.declared.call.Call.TheVariants.{Client}
use Rattle.jh_ops.specs.declared.call.Workload.{Workload}
use Rattle.jh_ops.specs.Operation.{Operation}
use Rattle.jh_ops.specs.Pairing.{IsWellFormed}
use Rattle.jh_check.specs.declared.error.CheckError.{CheckError}
use Rattle.jh_check.specs.declared.error.CheckError.TheVariants.{OutOfMemory}
use Rattle.jh_checkers.specs.Checkers.{checker_of}
use Rattle.jh_checkers.specs.Findings.{RefusesChecking}
use Rattle.jh_ops.specs.HistoryWritten.{history_lines}
use Rattle.jh_laws.specs.HistoryLines.{CanPrint, IsTextOfHistory}
use Rattle.jh_simnode.specs.Histories.{CanBeText}
use Rattle.jh_simnode.specs.Plans.{PlanValue, IsFit}
use Rattle.jh_simnode.specs.Runs.{IsSerialRun}
use Rattle.jh_gen.specs.Generator.{Generator}
use Rattle.jh_gen.specs.Trace.{Trace}
use Rattle.jh_gen.specs.Scope.{Scope, Question}
use Rattle.jh_gen.specs.Offers.{Offer, offer}
use Rattle.jh_gen.specs.Suits.{has_only, is_call_for}
use Rattle.jh_ops.specs.declared.call.Request.{Request}
use Rattle.jh_ops.specs.declared.call.Request.TheVariants.{Read}
use Rattle.jh_ops.specs.declared.call.Workload.TheVariants.{Register, Counter, Set, Ids}
use Rattle.jh_simnode.specs.declared.replicas.Contents.{Contents}
use Rattle.jh_simnode.specs.declared.replicas.Contents.TheVariants.{One, Many}
use Rattle.jh_simnode.specs.declared.replicas.Got.{Got}
use Rattle.jh_simnode.specs.declared.replicas.Reply.{Reply}
use Rattle.jh_simnode.specs.declared.replicas.Reply.TheVariants as replied
use Rattle.jh_simnode.specs.declared.events.Event.{Event}
use Rattle.jh_simnode.specs.Counts.{process_after}

-- what is offered, if anything, passes a test
abbrev pub Passes : (Call → Bool) → Offer → Type 0
Passes passes None = Unit {0}
Passes passes (Some (path, call)) = passes call ≡ true

-- what a generator offers, whose calls are all of a workload, is one of these
abbrev pub OffersSuit : Type 0
OffersSuit = (w : Workload) (g : Generator) → has_only (is_call_for w) g ≡ true
    → (t : Trace) (scope : Scope) (q : Question) → Passes (is_call_for w) (offer g t scope q)

-- a call after these events is by the process whose turn its thread has, and its request is of the
-- workload
abbrev pub FitsAfter : Workload → ℕ → List Event → Event → Type 0
FitsAfter w clients before (Event.Call process node request draw reply) =
    (process ≡ process_after clients (process % clients) before)
    × (is_call_for w (Client request) ≡ true)
FitsAfter w clients before (Event.Step step answer) = Unit {0}
FitsAfter w clients before Event.Tick = Unit {0}

-- each of these events does, after those before it
abbrev pub CallsFit : Workload → ℕ → List Event → List Event → Type 0
CallsFit w clients before [] = Unit {0}
CallsFit w clients before (e ∷ es) =
    FitsAfter w clients before e × CallsFit w clients (before ++ e ∷ []) es

-- contents of a replica that a run of the workload can have
abbrev pub IsShaped : Workload → Contents → Type 0
IsShaped Register (One x) = Unit {0}
IsShaped Counter (One (Some z)) = Unit {0}
IsShaped Set (Many xs) = Unit {0}
IsShaped Ids (One (Some z)) = Unit {0}
IsShaped w c = ⊥

-- what a read of the workload gets: at most one value, one value, or all elements
abbrev pub FitsRead : Workload → Got → Type 0
FitsRead Register (Got.One x) = Unit {0}
FitsRead Counter (Got.One (Some z)) = Unit {0}
FitsRead Set (Got.Many xs) = Unit {0}
FitsRead Ids got = Unit {0}
FitsRead w got = ⊥

-- what a request that was done got; of others than reads no checker asks
abbrev pub GotFits : Workload → Request → Got → Type 0
GotFits w Read got = FitsRead w got
GotFits w _ got = Unit {0}

abbrev pub ReplyFits : Workload → Request → Reply → Type 0
ReplyFits w request (replied.Ok got) = GotFits w request got
ReplyFits w request replied.Fail = Unit {0}
ReplyFits w request replied.Info = Unit {0}

-- each reply of these events fits
abbrev pub RepliesFit : Workload → List Event → Type 0
RepliesFit w [] = Unit {0}
RepliesFit w (Event.Call process node request draw reply ∷ es) =
    ReplyFits w request reply × RepliesFit w es
RepliesFit w (Event.Step step answer ∷ es) = RepliesFit w es
RepliesFit w (Event.Tick ∷ es) = RepliesFit w es

-- each process does one operation at a time, and nothing after it crashed
abbrev pub OwnHistoryIsFormed : Type 0
OwnHistoryIsFormed =
    (p : PlanValue) (journal : List Event) (history : List Operation) → IsFit p
    → IsSerialRun p journal history → IsWellFormed history

-- the checker of the run's workload refuses the history only as out of memory
abbrev pub OwnHistoryIsJudged : Type 0
OwnHistoryIsJudged =
    (p : PlanValue) (journal : List Event) (history : List Operation) → IsFit p
    → IsSerialRun p journal history
    → (e : CheckError) → RefusesChecking (checker_of p.database.workload) history e → e ≡ OutOfMemory

-- each operation of the history can be printed
abbrev pub OwnHistoryIsPrintable : Type 0
OwnHistoryIsPrintable =
    (p : PlanValue) (journal : List Event) (history : List Operation)
    → IsSerialRun p journal history → CanBeText journal → All CanPrint history

-- the lines that are printed of the history are a text of it
abbrev pub OwnLinesAreText : Type 0
OwnLinesAreText =
    (p : PlanValue) (journal : List Event) (history : List Operation)
    → IsSerialRun p journal history → CanBeText journal
    → IsTextOfHistory (history_lines history) history
