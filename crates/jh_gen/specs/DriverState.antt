-- What contracts see of a driver, and what its calls answer. A driver is its generator, the trace
-- of the calls that it gave, the busy threads and the processes (jepsen.generator: a process does
-- one operation at a time; when one ends as `:info`, the process has crashed, and its thread goes
-- on as a new one, whose number is greater by the number of client threads).
use Rattle.std.specs.Prelude.{◌≡◌, refl, ℕ, zero, suc, ◌+◌, ◌*◌, ◌<◌, ◌≤◌, Bool, true, false}
use Rattle.std.specs.Prelude.{if◌then◌else◌, List, [], ◌∷◌, length, set, slice_index}
use Rattle.std.specs.Prelude.{slice_index_or, None, Some, replicate}
use Rattle.std.specs.Coded.{Coded, code_by, coded×, coded_ℕ, coded_bool, coded_list}
use Rattle.jh_gen.specs.Generator.{Generator}
use Rattle.jh_gen.specs.Trace.{Path, Trace}
use Rattle.jh_gen.specs.Scope.{Scope, Question}
use Rattle.jh_gen.specs.Offers.{is_exhausted, offer}
use Rattle.jh_gen.specs.Fits.{fits}
use Rattle.jh_gen.specs.State.{GeneratorState, Taking, is_done, state_left, taking}
use Rattle.jh_gen.specs.StateCode.{state_coded}
use Rattle.jh_gen.specs.declared.answers.Thread.{Thread}
use Rattle.jh_gen.specs.declared.answers.Thread.TheVariants as thread
use Rattle.jh_ops.specs.declared.operation.Process.{Process}
use Rattle.jh_ops.specs.declared.operation.Process.TheVariants as process
use Rattle.jh_gen.specs.declared.answers.Ended.{Ended}
use Rattle.jh_gen.specs.declared.answers.Ended.TheVariants as ended
use Rattle.jh_gen.specs.declared.answers.GenAnswer.{GenAnswer}
use Rattle.jh_gen.specs.declared.answers.GenAnswer.TheVariants.{Call, Pending, Done}
use Rattle.jh_gen.specs.declared.answers.DriverError.{DriverError}
use Rattle.jh_gen.specs.declared.answers.DriverError.TheVariants.{BadClients, BadReserve}
use Rattle.jh_gen.specs.declared.answers.DriverError.TheVariants.{OutOfMemory}
use Rattle.jh_gen.specs.declared.answers.GenError.{GenError}
use Rattle.jh_gen.specs.declared.answers.GenError.TheVariants.{NoSuchThread, BusyThread, TooManyOps}
use Rattle.jh_gen.specs.declared.answers.GenError.TheVariants.{NothingOpen}

-- How many client threads a driver has at most, and how many calls it gives at most.
abbrev pub max_clients : ℕ
max_clients = 16

abbrev pub max_calls : ℕ
max_calls = 1000000

-- The number of client threads, what is left of the generator, how many calls were given; and by
-- thread, whether it has an operation outstanding, and its process number (that of the nemesis
-- means nothing).
pub record DriverState : Type 0 where
  pub clients : ℕ
  pub state : GeneratorState
  pub given : ℕ
  pub busy : List Bool
  pub processes : List ℕ

abbrev pub driver_coded : Coded DriverState
driver_coded =
    code_by (ℕ × (GeneratorState × (ℕ × (List Bool × List ℕ))))
    (coded× coded_ℕ
    (coded× state_coded (coded× coded_ℕ (coded× (coded_list coded_bool) (coded_list coded_ℕ)))))
    (λ d. (d.clients, (d.state, (d.given, (d.busy, d.processes)))))
    (λ p. record
    { clients = p.0; state = p.1.0; given = p.1.1.0; busy = p.1.1.1.0; processes = p.1.1.1.1 })
    (λ _. refl)

abbrev pub thread_number : Thread → ℕ
thread_number (thread.Client n) = n + 1
thread_number thread.Nemesis = 0

-- so many threads from one on
abbrev pub threads_from : ℕ → ℕ → Scope
threads_from first zero = []
threads_from first (suc n) = first ∷ threads_from (first + 1) n

-- the top scope: the nemesis and all client threads
abbrev pub all_threads : ℕ → Scope
all_threads clients = threads_from 0 (suc clients)

-- The driver is that of this generator after this trace: what is left in it is what the trace
-- leaves, and it gave as many calls as the trace has.
pub record IsDriverOf (d : DriverState) (g : Generator) (t : Trace) : Type 0 where
  pub left : d.state ≡ state_left g t (all_threads d.clients)
  pub count : d.given ≡ length t

-- the thread is one of the driver's
abbrev pub IsKnown : DriverState → Thread → Type 0
IsKnown d x = thread_number x ≤ d.clients

abbrev pub IsUnknown : DriverState → Thread → Type 0
IsUnknown d x = d.clients < thread_number x

-- the thread has an operation outstanding
abbrev pub is_thread_busy : DriverState → Thread → Bool
is_thread_busy d x = slice_index_or d.busy (thread_number x) false

abbrev pub process_of_thread : List ℕ → Thread → Process
process_of_thread processes (thread.Client n) = process.Client (slice_index processes (n + 1))
process_of_thread processes thread.Nemesis = process.Nemesis

-- whose operation a thread's next one is
abbrev pub next_process : DriverState → Thread → Process
next_process d x = process_of_thread d.processes x

-- Making a driver.

-- a driver can be made for so many client threads and this generator
abbrev pub CanDrive : ℕ → Generator → Type 0
CanDrive clients g = (1 ≤ clients) × (clients ≤ max_clients) × (fits clients g ≡ true)

-- why no driver is made
abbrev pub RefusesDriver : ℕ → Generator → DriverError → Type 0
RefusesDriver clients g BadClients = (1 ≤ clients → clients ≤ max_clients → ⊥)
RefusesDriver clients g BadReserve =
    (1 ≤ clients) × (clients ≤ max_clients) × (fits clients g ≡ false)
RefusesDriver clients g OutOfMemory = CanDrive clients g

-- a driver of so many client threads before its first call: nobody is busy, and the process of
-- client n is n
pub record IsFresh (d : DriverState) (clients : ℕ) : Type 0 where
  pub clients_is : d.clients ≡ clients
  pub idle : d.busy ≡ replicate (clients + 1) false
  pub long : length d.processes ≡ clients + 1
  pub numbered : (n : ℕ) → n < clients → slice_index d.processes (n + 1) ≡ n

-- Asking.

-- the thread is the driver's, has no operation outstanding, and calls are left to give
abbrev pub MayAsk : DriverState → Thread → Type 0
MayAsk d x = IsKnown d x × (is_thread_busy d x ≡ false) × (d.given < max_calls)

-- why a thread is given no answer
abbrev pub RefusesAsking : DriverState → Thread → GenError → Type 0
RefusesAsking d x NoSuchThread = IsUnknown d x
RefusesAsking d x BusyThread = IsKnown d x × (is_thread_busy d x ≡ true)
RefusesAsking d x TooManyOps = IsKnown d x × (is_thread_busy d x ≡ false) × (max_calls ≤ d.given)
RefusesAsking d x NothingOpen = ⊥

abbrev pub question_by : DriverState → Thread → ℕ → Question
question_by d x random_number =
    record { asker = thread_number x; random_number = random_number; busy = d.busy }

-- The driver d becomes e by giving thread x a call: its generator has given one more call, by this
-- path, the thread is busy, and nothing else changes.
pub record GivesCall (d e : DriverState) (x : Thread) (g : Generator) (t : Trace)
    (path : Path) : Type 0 where
  pub stands : IsDriverOf e g (path ∷ t)
  pub clients : e.clients ≡ d.clients
  pub busy : e.busy ≡ set d.busy (thread_number x) true
  pub processes : e.processes ≡ d.processes

-- What a thread is answered, after this trace: `Done` exactly where the generator is spent, else
-- what it offers, or `Pending` where it offers nothing.
abbrev pub Answers : Generator → Trace → DriverState → Thread → ℕ → GenAnswer → DriverState → Type 0
Answers g t d x random_number Done e = (is_exhausted g t (all_threads d.clients) ≡ true) × (e ≡ d)
Answers g t d x random_number Pending e =
    (is_exhausted g t (all_threads d.clients) ≡ false)
    × (offer g t (all_threads d.clients) (question_by d x random_number) ≡ None) × (e ≡ d)
Answers g t d x random_number (Call p c) e =
    (is_exhausted g t (all_threads d.clients) ≡ false) × (p ≡ next_process d x)
    × (path : Path)
    × (offer g t (all_threads d.clients) (question_by d x random_number) ≡ Some (path, c))
    × GivesCall d e x g t path

-- The answer, and the driver after it, by what the generator gives: where it gives nothing, nothing
-- changes; a call is of the thread's next process, is counted, and makes the thread busy.
abbrev pub answer_by : DriverState → Thread → Taking GeneratorState → GenAnswer × DriverState
answer_by d x None = (Pending, d)
answer_by d x (Some (c, left)) = (
  Call (next_process d x) c,
  record d { state = left; given = d.given + 1; busy = set d.busy (thread_number x) true },
)

-- What a thread that may ask is answered, and the driver after it, as a function of the driver, the
-- thread and the random number. `Answers` says the same of a generator and a trace.
abbrev pub asked : DriverState → Thread → ℕ → GenAnswer × DriverState
asked d x random_number =
    if is_done d.state then (Done, d)
    else answer_by d x (taking d.state (question_by d x random_number))

-- The process of a call, if the answer is one, has a small number: a client's first is less than 16,
-- and each call that ends adds at most 16.
abbrev pub GivesSmallProcess : GenAnswer → Type 0
GivesSmallProcess (Call (process.Client n) c) = n ≤ max_clients * max_calls
GivesSmallProcess (Call process.Nemesis c) = Unit {0}
GivesSmallProcess Pending = Unit {0}
GivesSmallProcess Done = Unit {0}

-- Ending an operation.

-- the thread is the driver's, and has an operation outstanding
abbrev pub MayEnd : DriverState → Thread → Type 0
MayEnd d x = IsKnown d x × (is_thread_busy d x ≡ true)

-- why an operation is not ended
abbrev pub RefusesEnding : DriverState → Thread → GenError → Type 0
RefusesEnding d x NoSuchThread = IsUnknown d x
RefusesEnding d x NothingOpen = IsKnown d x × (is_thread_busy d x ≡ false)
RefusesEnding d x _ = ⊥

-- The process numbers after an operation's end: where a client's ended as `:info`, its thread takes
-- the next process.
abbrev pub processes_after : DriverState → Thread → Ended → List ℕ
processes_after d (thread.Client n) ended.Info =
    set d.processes (n + 1) (slice_index d.processes (n + 1) + d.clients)
processes_after d _ _ = d.processes

-- the driver after an operation's end: its generator and its trace stay
abbrev pub driver_after_end : DriverState → Thread → Ended → DriverState
driver_after_end d x end =
    record d { busy = set d.busy (thread_number x) false; processes = processes_after d x end }

-- What each driver keeps: its lists have a place for each thread, and no process number can outgrow
-- its bound, since an operation that is outstanding was given.
pub record IsKept (d : DriverState) : Type 0 where
  pub clients : d.clients ≤ max_clients
  pub given : d.given ≤ max_calls
  pub busy : length d.busy ≡ d.clients + 1
  pub processes : length d.processes ≡ d.clients + 1
  pub small :
      (k : ℕ) → k < d.clients + 1
      → slice_index d.processes k + (if slice_index_or d.busy k false then max_clients else 0)
      ≤ max_clients + max_clients * d.given

-- Laws.

-- whatever generator and trace a driver stands for, what it answers a thread of its own is theirs
abbrev pub AskedAnswers : Type 0
AskedAnswers =
    (d : DriverState) (x : Thread) (random_number : ℕ) (g : Generator) (t : Trace)
    → IsDriverOf d g t → IsKnown d x
    → Answers g t d x random_number (asked d x random_number).0 (asked d x random_number).1

-- whatever generator and trace a driver stands for, it does so after the end of an operation
abbrev pub EndKeepsGenerator : Type 0
EndKeepsGenerator =
    (d : DriverState) (x : Thread) (end : Ended) (g : Generator) (t : Trace)
    → IsDriverOf d g t → IsDriverOf (driver_after_end d x end) g t
