-- What a serial run is: the calls of a generator, the steps of a schedule and the ticks of a store,
-- one after the other (jepsen.generator: threads ask for operations, and a thread whose process
-- crashed goes on as another; turns, draws, when a step is due and ticks are this project's own).
--
-- Nothing here computes a reply or an answer: that the journal is legal says what they are.
use Rattle.std.specs.Prelude.{◌≡◌, ℕ, zero, suc, ◌+◌, ◌%◌, ◌≤◌, ◌==◌, ◌||◌, ◌&&◌, not, Bool, true}
use Rattle.std.specs.Prelude.{false, List, [], ◌∷◌, ◌++◌, length, nat_le, Option, Some, None}
use Rattle.std.specs.Prelude.{slice_get, replicate, if◌then◌else◌}
use Rattle.rand_pcg.specs.Lcg.{Lcg, started, increment_of}
use Rattle.rand_pcg.specs.Pcg.{pcg64, multiplier_128}
use Rattle.jh_ops.specs.declared.call.Call.TheVariants as call
use Rattle.jh_ops.specs.declared.call.Request.{Request}
use Rattle.jh_ops.specs.Operation.{Operation}
use Rattle.jh_gen.specs.Generator.{Generator, limit, clients}
use Rattle.jh_gen.specs.Trace.{Path, Trace}
use Rattle.jh_gen.specs.Scope.{Question}
use Rattle.jh_gen.specs.Offers.{is_exhausted, offer, Offer}
use Rattle.jh_gen.specs.DriverState.{all_threads}
use Rattle.jh_nemesis.specs.declared.steps.StepAnswer.{StepAnswer}
use Rattle.jh_simnode.specs.declared.replicas.Reply.{Reply}
use Rattle.jh_simnode.specs.declared.events.Event.{Event}
use Rattle.jh_simnode.specs.declared.events.WorldError.TheVariants as world
use Rattle.jh_simnode.specs.declared.schedule.Entry.{Entry}
use Rattle.jh_simnode.specs.declared.serial.RunError.{RunError}
use Rattle.jh_simnode.specs.declared.serial.RunError.TheVariants as error
use Rattle.jh_simnode.specs.Counts.{answered_count, applied_count, calls_by, process_after}
use Rattle.jh_simnode.specs.Counts.{last_event}
use Rattle.jh_simnode.specs.Events.{Setup, IsLegal}
use Rattle.jh_simnode.specs.Histories.{journal_history}
use Rattle.jh_simnode.specs.Plans.{PlanValue}

-- what the world of a plan keeps for good
abbrev pub setup_of : PlanValue → Setup
setup_of p = record { names = p.env.names; start = p.env.start; database = p.database }

-- the generator of a run: so many calls of the plan's generator, for clients alone
abbrev pub run_generator : PlanValue → Generator
run_generator p = clients (limit p.ops p.generator)

-- the source of random numbers that a seed makes on a stream (O'Neill's PCG XSL RR 128/64), after
-- so many
unfoldable pub random_numbers_after : ℕ → ℕ → ℕ → Lcg
random_numbers_after stream seed zero = started 128 multiplier_128 seed (increment_of 128 stream)
random_numbers_after stream seed (suc n) = (pcg64 (random_numbers_after stream seed n)).1

-- the random number with this index, from 0
abbrev pub random_number_at : ℕ → ℕ → ℕ → ℕ
random_number_at stream seed n = (pcg64 (random_numbers_after stream seed n)).0

-- the stream that a run takes its random numbers from
abbrev pub run_stream : ℕ
run_stream = 0

-- Where the turns of a run stand, beside its journal: the calls that the generator gave, how many
-- asks were made, how many of the last ones got nothing, and whether the calls have ended.
pub record Turns : Type 0 where
  pub trace : Trace
  pub asks : ℕ
  pub waits : ℕ
  pub has_ended : Bool

-- before the first ask
abbrev pub first_turns : Turns
first_turns = record { trace = []; asks = 0; waits = 0; has_ended = false }

-- Client threads are asked in turn, the first again after the last.
abbrev pub thread_of : PlanValue → Turns → ℕ
thread_of p r = r.asks % p.clients

-- Each ask takes a random number, and each call one more.
abbrev pub numbers_taken : Turns → List Event → ℕ
numbers_taken r journal = r.asks + answered_count journal

-- nobody has an operation outstanding
abbrev pub turn_question : PlanValue → Turns → List Event → Question
turn_question p r journal = record {
  asker = thread_of p r + 1;
  random_number = random_number_at run_stream p.seed (numbers_taken r journal);
  busy = replicate (p.clients + 1) false;
}

-- what a run does next
pub data Move : Type 0 where
  Ticks : Move
  Applies : Entry → Move
  Waits : Move
  Calls : Path → Request → Move
  Ends : Move
  Rests : Move

-- a thread that has made so many calls ticks now
abbrev pub ticks_at : PlanValue → ℕ → Bool
ticks_at p calls = not (p.tick_every == 0) && ((calls % p.tick_every) == 0)

-- a tick is due after this last event: one follows every so many calls of a thread
abbrev pub ticks_after : PlanValue → List Event → Option Event → Bool
ticks_after p journal None = false
ticks_after p journal (Some (Event.Call process node request draw reply)) =
    ticks_at p (calls_by p.clients (process % p.clients) journal)
ticks_after p journal (Some (Event.Step step answer)) = false
ticks_after p journal (Some Event.Tick) = false

-- An entry is due once those before it were applied and as many calls were answered as it says, or
-- the calls have ended.
abbrev pub is_due : Turns → List Event → Entry → Bool
is_due r journal entry = r.has_ended || nat_le entry.at (answered_count journal)

-- the move of an offer; the generator of a plan has no calls of the nemesis
abbrev pub move_offered : Offer → Move
move_offered None = Waits
move_offered (Some (path, call.Client request)) = Calls path request
move_offered (Some (path, call.Step entry)) = Ends

-- the move of the thread whose turn it is
abbrev pub ask_move : PlanValue → Turns → List Event → Move
ask_move p r journal =
    if is_exhausted (run_generator p) r.trace (all_threads p.clients) then Ends
    else move_offered
    (offer (run_generator p) r.trace (all_threads p.clients) (turn_question p r journal))

-- the calls have ended, or each thread in a round got nothing
abbrev pub turn_move : PlanValue → Turns → List Event → Move
turn_move p r journal =
    if r.has_ended || nat_le p.clients r.waits then Rests else ask_move p r journal

-- the next entry if it is due, else the next turn
abbrev pub entry_move : PlanValue → Turns → List Event → Option Entry → Move
entry_move p r journal None = turn_move p r journal
entry_move p r journal (Some entry) =
    if is_due r journal entry then Applies entry else turn_move p r journal

-- a tick that is due, then an entry that is due, then the next ask
abbrev pub move_of : PlanValue → Turns → List Event → Move
move_of p r journal =
    if ticks_after p journal (last_event journal) then Ticks
    else entry_move p r journal (slice_get p.schedule (applied_count journal))

-- the turns after an ask that got nothing, after a call by this path, and after the end
abbrev pub turns_after_wait : Turns → Turns
turns_after_wait r = record r { asks = r.asks + 1; waits = r.waits + 1 }

abbrev pub turns_after_call : Turns → Path → Turns
turns_after_call r path = record r { trace = path ∷ r.trace; asks = r.asks + 1; waits = 0 }

abbrev pub turns_after_end : Turns → Turns
turns_after_end r = record r { asks = r.asks + 1; has_ended = true }

-- the event of a thread's call: of the node at the thread's number modulo the number of nodes, with
-- the next random number as its draw
abbrev pub call_event : PlanValue → Turns → List Event → Request → Reply → Event
call_event p r journal request reply =
    Event.Call (process_after p.clients (thread_of p r) journal)
    (thread_of p r % length p.env.names) request
    (random_number_at run_stream p.seed (numbers_taken r journal + 1)) reply

-- what comes of a move
abbrev pub Comes : PlanValue → Turns → List Event → Turns → List Event → Move → Type 0
Comes p r journal r' journal' Ticks = (r' ≡ r) × (journal' ≡ journal ++ Event.Tick ∷ [])
Comes p r journal r' journal' (Applies entry) =
    (r' ≡ r) × ((answer : StepAnswer) × (journal' ≡ journal ++ Event.Step entry.step answer ∷ []))
Comes p r journal r' journal' Waits = (r' ≡ turns_after_wait r) × (journal' ≡ journal)
Comes p r journal r' journal' (Calls path request) =
    (r' ≡ turns_after_call r path)
    × ((reply : Reply) × (journal' ≡ journal ++ call_event p r journal request reply ∷ []))
Comes p r journal r' journal' Ends = (r' ≡ turns_after_end r) × (journal' ≡ journal)
Comes p r journal r' journal' Rests = ⊥

-- so many moves lead to there
abbrev pub Reaches : PlanValue → ℕ → Turns → List Event → Type 0
Reaches p zero r' journal' = (r' ≡ first_turns) × (journal' ≡ [])
Reaches p (suc n) r' journal' =
    (r : Turns) × ((journal : List Event)
    × (Reaches p n r journal × Comes p r journal r' journal' (move_of p r journal)))

-- the turns and the journal to which some moves may lead
abbrev pub IsReachable : PlanValue → Turns → List Event → Type 0
IsReachable p r journal = (moves : ℕ) × Reaches p moves r journal

-- where the turns and the journal of a run have come to
pub record RunReaches (p : PlanValue) (r : Turns) (journal : List Event) : Type 0 where
  pub run : IsReachable p r journal
  pub legal : IsLegal (setup_of p) journal

-- a whole serial run: its calls have ended, no move is left, and its history is that of its journal
pub record IsSerialRun (p : PlanValue) (journal : List Event)
    (history : List Operation) : Type 0 where
  pub turns : Turns
  pub reached : RunReaches p turns journal
  pub ended : turns.has_ended ≡ true
  pub over : move_of p turns journal ≡ Rests
  pub is_history : history ≡ journal_history journal

-- why a run of a plan is not completed: no thread got a call in a whole round, or memory was
-- refused
abbrev pub Stops : PlanValue → RunError → Type 0
Stops p error.Stuck =
    (r : Turns) × (journal : List Event) × RunReaches p r journal × (p.clients ≤ r.waits)
Stops p error.OutOfMemory = Unit {0}
Stops p (error.World world.OutOfMemory) = Unit {0}
Stops p (error.World refusal) = ⊥

-- a plan has one run and one history at most
abbrev pub HasOneRun : Type 0
HasOneRun =
    (p : PlanValue) (ja jb : List Event) (ha hb : List Operation) → IsSerialRun p ja ha
    → IsSerialRun p jb hb
    → (ja ≡ jb) × (ha ≡ hb)
