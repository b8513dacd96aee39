-- What the code of a serial run keeps between two turns, and what comes of its parts; Runs has the
-- rules. One turn, and what holds on the way:
--
--     BetweenTurns -- steps that are due --> NothingDue -- its thread asks --> AwaitsReply
--          ^                                     |                                 |
--          |                it waits, or the calls end                        the world replies
--          |                                     |                                 v
--          +-------------------------------------+-------- a tick, if due ----- HasReply
--
-- A run begins with BeforeFirstTurn, which is between turns, and ends with IsOver.
-- This project's own.
use Rattle.std.specs.Prelude.{◌≡◌, ℕ, ◌+◌, ◌-◌, ◌*◌, ◌^◌, ◌<◌, ◌≤◌, ◌||◌, nat_le, Bool, true, false}
use Rattle.std.specs.Prelude.{List, [], ◌∷◌, length, set, replicate, slice_get, slice_index, IfSome}
use Rattle.std.specs.Prelude.{if◌then◌else◌}
use Rattle.jh_ops.specs.declared.call.Request.{Request}
use Rattle.jh_gen.specs.Trace.{Path}
use Rattle.jh_ops.specs.declared.operation.Process.{Process}
use Rattle.jh_ops.specs.declared.operation.Process.TheVariants as process
use Rattle.jh_gen.specs.DriverState.{DriverState, IsDriverOf, max_clients}
use Rattle.jh_gen.specs.DriverState as driver
use Rattle.jh_gen.specs.declared.answers.Thread.TheVariants as thread
use Rattle.jh_gen.specs.declared.answers.Ended.{Ended}
use Rattle.jh_gen.specs.declared.answers.Ended.TheVariants as ends
use Rattle.jh_simnode.specs.declared.replicas.Reply.{Reply}
use Rattle.jh_simnode.specs.declared.replicas.Reply.TheVariants.{Ok, Fail, Info}
use Rattle.jh_simnode.specs.declared.events.Event.{Event}
use Rattle.jh_simnode.specs.declared.schedule.Entry.{Entry}
use Rattle.jh_simnode.specs.declared.turns.Assignment.{Assignment}
use Rattle.jh_simnode.specs.declared.turns.Assignment.TheVariants as assignment
use Rattle.jh_simnode.specs.declared.turns.Run.{Run}
use Rattle.jh_simnode.specs.Counts.{answered_count, applied_count, calls_by, process_after}
use Rattle.jh_simnode.specs.Counts.{last_event}
use Rattle.jh_simnode.specs.Events.{WorldValue, IsLegal}
use Rattle.jh_simnode.specs.Limits.{max_events}
use Rattle.jh_simnode.specs.Plans.{PlanValue}
use Rattle.jh_simnode.specs.declared.events.WorldError.TheVariants as world
use Rattle.jh_simnode.specs.declared.serial.RunError.{RunError}
use Rattle.jh_simnode.specs.declared.serial.RunError.TheVariants as error
use Rattle.jh_simnode.specs.Runs.{Stops, Turns, RunReaches, IsReachable, ask_move, turns_after_end}
use Rattle.jh_simnode.specs.Runs.{is_due, move_of, run_generator, setup_of, thread_of, first_turns}
use Rattle.jh_simnode.specs.Runs.{ticks_after, ticks_at, turns_after_wait, random_numbers_after}
use Rattle.jh_simnode.specs.Runs.{numbers_taken, run_stream}
use Rattle.jh_simnode.specs.Runs.Move.{Calls, Waits, Ends, Rests}

-- how an operation ends by a reply
abbrev pub reply_ending : Reply → Ended
reply_ending (Ok got) = ends.Ok
reply_ending Fail = ends.Fail
reply_ending Info = ends.Info

-- the number of a client's process
abbrev pub process_number : Process → ℕ
process_number (process.Client number) = number
process_number process.Nemesis = 0

-- the driver numbers the processes of its threads as a journal does
abbrev pub AreNumbered : PlanValue → List Event → DriverState → Type 0
AreNumbered p journal d =
    (t : ℕ) → t < p.clients → slice_index d.processes (t + 1) ≡ process_after p.clients t journal

-- the driver has given the calls of the turns, and nobody is busy
pub record Drives (p : PlanValue) (r : Turns) (journal : List Event)
    (d : DriverState) : Type 0 where
  pub stands : IsDriverOf d (run_generator p) r.trace
  pub clients : d.clients ≡ p.clients
  pub idle : d.busy ≡ replicate (p.clients + 1) false
  pub long : length d.processes ≡ p.clients + 1
  pub processes : AreNumbered p journal d
  pub given : length r.trace ≡ answered_count journal

-- the counts are those of the journal
pub record Counts (p : PlanValue) (journal : List Event) (run : Run) : Type 0 where
  pub long : length run.calls.items ≡ p.clients
  pub calls : (t : ℕ) → t < p.clients → slice_index run.calls.items t ≡ calls_by p.clients t journal
  pub answered : run.answered ≡ answered_count journal
  pub applied : run.applied ≡ applied_count journal

-- what a run keeps is where its turns are
pub record Keeps (p : PlanValue) (r : Turns) (journal : List Event) (run : Run) : Type 0 where
  pub driver : r.has_ended ≡ false → Drives p r journal run.driver
  pub random_numbers : run.random_numbers
      ≡ random_numbers_after run_stream p.seed (numbers_taken r journal)
  pub counts : Counts p journal run
  pub asks : run.asks ≡ r.asks
  pub waits : run.waits ≡ r.waits
  pub ended : run.has_ended ≡ r.has_ended
  pub few : r.has_ended ≡ false → r.asks ≤ (max_clients + 1) * length journal + r.waits

-- between two turns
pub record BetweenTurns (p : PlanValue) (run : Run) (w : WorldValue) : Type 0 where
  pub turns : Turns
  pub led : IsReachable p turns w.journal
  pub keeps : Keeps p turns w.journal run
  pub setup : w.setup ≡ setup_of p
  pub quiet : ticks_after p w.journal (last_event w.journal) ≡ false

-- the next entry isn't due
abbrev pub NoEntryDue : PlanValue → Turns → List Event → Type 0
NoEntryDue p r journal =
    IfSome (slice_get p.schedule (applied_count journal)) (λ entry. is_due r journal entry ≡ false)

-- between two turns, and no entry is due
pub record NothingDue (p : PlanValue) (run : Run) (w : WorldValue) : Type 0 where
  pub stands : BetweenTurns p run w
  pub settled : NoEntryDue p stands.turns w.journal

-- a thread was given a call by this path, which isn't answered yet
pub record AwaitsReply (p : PlanValue) (r : Turns) (journal : List Event) (path : Path)
    (run : Run) : Type 0 where
  pub stands : IsDriverOf run.driver (run_generator p) (path ∷ r.trace)
  pub clients : run.driver.clients ≡ p.clients
  pub busy : run.driver.busy ≡ set (replicate (p.clients + 1) false) (thread_of p r + 1) true
  pub long : length run.driver.processes ≡ p.clients + 1
  pub processes : AreNumbered p journal run.driver
  pub given : length r.trace ≡ answered_count journal
  pub random_numbers : run.random_numbers
      ≡ random_numbers_after run_stream p.seed (numbers_taken r journal + 1)
  pub counts : Counts p journal run
  pub asks : run.asks ≡ r.asks + 1
  pub ended : run.has_ended ≡ r.has_ended

-- what comes of asking
abbrev pub Asks : PlanValue → Turns → List Event → Assignment → Run → Type 0
Asks p r journal (assignment.Calls process request) run =
    (path : Path) × (ask_move p r journal ≡ Calls path request)
    × (process ≡ process_after p.clients (thread_of p r) journal) × AwaitsReply p r journal path run
Asks p r journal assignment.Waits run =
    (ask_move p r journal ≡ Waits) × Keeps p (turns_after_wait r) journal run
Asks p r journal assignment.Ends run =
    (ask_move p r journal ≡ Ends) × Keeps p (turns_after_end r) journal run

-- a thread has a call to make
pub record MayCall (p : PlanValue) (run : Run) (w : WorldValue) (thread process : ℕ)
    (request : Request)
    : Type 0 where
  pub turns : Turns
  pub path : Path
  pub settled : NoEntryDue p turns w.journal
  pub quiet : ticks_after p w.journal (last_event w.journal) ≡ false
  pub going : turns.has_ended ≡ false
  pub patient : turns.waits < p.clients
  pub led : IsReachable p turns w.journal
  pub move : ask_move p turns w.journal ≡ Calls path request
  pub thread_is : thread ≡ thread_of p turns
  pub within : thread < p.clients
  pub crowd : p.clients ≤ max_clients
  pub process_is : process ≡ process_after p.clients (thread_of p turns) w.journal
  pub has : AwaitsReply p turns w.journal path run
  pub legal : IsLegal w.setup w.journal
  pub few : length w.journal ≤ max_events
  pub few_asks : turns.asks ≤ (max_clients + 1) * length w.journal + turns.waits
  pub setup : w.setup ≡ setup_of p

-- after a call of a thread: a tick may be due
pub record HasReply (p : PlanValue) (run : Run) (w : WorldValue) (thread : ℕ) : Type 0 where
  pub turns : Turns
  pub led : IsReachable p turns w.journal
  pub keeps : Keeps p turns w.journal run
  pub setup : w.setup ≡ setup_of p
  pub within : thread < p.clients
  pub due : ticks_after p w.journal (last_event w.journal)
      ≡ ticks_at p (calls_by p.clients thread w.journal)

-- the calls have ended, and no move is left
pub record IsOver (p : PlanValue) (w : WorldValue) : Type 0 where
  pub turns : Turns
  pub reached : RunReaches p turns w.journal
  pub ended : turns.has_ended ≡ true
  pub rests : move_of p turns w.journal ≡ Rests

-- a run before its first turn
pub record BeforeFirstTurn (p : PlanValue) (run : Run) : Type 0 where
  pub keeps : Keeps p first_turns [] run

-- the driver of a run before its first call
abbrev pub IsFirstDriver : PlanValue → DriverState → Type 0
IsFirstDriver p d = Drives p first_turns [] d

-- the entry's turn has come, as the run counts
abbrev pub is_run_due : Run → Entry → Bool
is_run_due run entry = run.has_ended || nat_le entry.at run.answered

-- the numbers of a run that asks have room
pub record HasRoomToAsk (run : Run) (t : ℕ) : Type 0 where
  pub free : driver.MayAsk run.driver (thread.Client t)
  pub asks : run.asks < 2 ^ 63
  pub waits : run.waits < max_clients

-- the thread whose turn it is asks
pub record IsAsking (p : PlanValue) (r : Turns) (journal : List Event) (run : Run)
    (thread : ℕ) : Type 0 where
  pub keeps : Keeps p r journal run
  pub going : r.has_ended ≡ false
  pub turn : thread ≡ thread_of p r
  pub within : length journal ≤ max_events

-- a turn brings the end nearer: another event, another wait, or the end itself
abbrev pub moves_left : Run → WorldValue → ℕ
moves_left run w =
    (max_events - length w.journal) * (max_clients + 1) + (max_clients - run.waits)
    + (if run.has_ended then 0 else 1)

-- less is left than before
abbrev pub Falls : Run → WorldValue → Run → WorldValue → Type 0
Falls run w run' w' = moves_left run' w' < moves_left run w

-- a process that can be written
abbrev pub HasSmallProcess : Event → Type 0
HasSmallProcess (Event.Call process node request draw reply) = process < 2 ^ 63
HasSmallProcess (Event.Step step answer) = Unit {0}
HasSmallProcess Event.Tick = Unit {0}

-- Why the turns of a run end before it is over. (That a world is never full is shown of the whole
-- run.)
abbrev pub StopsOrFills : PlanValue → RunError → Type 0
StopsOrFills p (error.World world.TooManyEvents) =
    (r : Turns) × (journal : List Event) × RunReaches p r journal × (max_events ≤ length journal)
StopsOrFills p e = Stops p e
