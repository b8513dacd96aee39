-- When a journal and a history keep to the plan of their run (this project's own).
use Rattle.std.specs.Prelude.{◌≡◌, ℕ, ◌<◌, ◌≤◌, ◌/◌, ◌%◌, min, List, Bool, true, false, length, take}
use Rattle.std.specs.Prelude.{slice_get, Some, ◌&&◌, not, ⊤}
use Rattle.std.specs.List.{count_by, range_with_len, sum_by}
use Rattle.jh_edn.specs.Edn.{Edn, vector}
use Rattle.jh_ops.specs.Operation.{Operation, is_client}
use Rattle.jh_nemesis.specs.declared.steps.StepAnswer.{StepAnswer}
use Rattle.jh_ops.specs.Pairing.{is_invoke}
use Rattle.jh_simnode.specs.Counts.{answered_count, applied_count, calls_by}
use Rattle.jh_simnode.specs.declared.events.Event.{Event}
use Rattle.jh_simnode.specs.declared.schedule.Entry.{Entry}
use Rattle.jh_simnode.specs.Histories.{indexed_entry_completion}
use Rattle.jh_simnode.specs.Plans.{PlanValue}

-- the value is a vector
abbrev pub is_vector : Edn → Bool
is_vector (vector xs) = true
is_vector _ = false

-- a client's completion
abbrev pub is_answered_call : Operation → Bool
is_answered_call op = is_client op.process && not (is_invoke op.kind)

-- a completion of the nemesis: its value is a vector, and that of an invocation an integer (both
-- are `:info`)
abbrev pub is_answered_step : Operation → Bool
is_answered_step op = not (is_client op.process) && is_vector op.value

-- how many completions of the nemesis stand below a place
abbrev pub steps_below : List Operation → ℕ → ℕ
steps_below history place = count_by is_answered_step (take place history)

-- the operation at a place says that this entry of the schedule has ended, by an event of its step
abbrev pub EndsEntry : List Entry → List Event → ℕ → Operation → ℕ → Type 0
EndsEntry schedule journal place op entry =
    (number : ℕ) × (due : Entry) × (answer : StepAnswer)
    × (op ≡ indexed_entry_completion place number entry answer)
    × (slice_get schedule entry ≡ Some due)
    × (slice_get journal number ≡ Some (Event.Step due.step answer))

-- the operation at a place of a history says so
abbrev pub EndsEntryAt : List Entry → List Event → List Operation → ℕ → ℕ → Type 0
EndsEntryAt schedule journal history place entry =
    (op : Operation) × (slice_get history place ≡ Some op)
    × EndsEntry schedule journal place op entry

-- a completion of the nemesis ends the entry whose number is that of the completions before it
abbrev pub IsInTurn : List Entry → List Event → List Operation → ℕ → Type 0
IsInTurn schedule journal history place =
    (op : Operation) → slice_get history place ≡ Some op → is_answered_step op ≡ true
    → EndsEntry schedule journal place op (steps_below history place)

-- so is each below a place
abbrev pub AreInTurn : List Entry → List Event → List Operation → ℕ → Type 0
AreInTurn schedule journal history count =
    (place : ℕ) → place < count → IsInTurn schedule journal history place

-- An event keeps to its turn, where so many steps were taken and so many calls were answered before
-- it, of all calls: a call is of the node at its thread's number, around, and the thread of a
-- process is its number modulo the clients; a step is that of the next entry, and as many calls
-- were answered as that waits for, or all calls of the journal.
abbrev pub KeepsTurn : PlanValue → ℕ → ℕ → ℕ → Event → Type 0
KeepsTurn plan steps calls all (Event.Call process node request draw reply) =
    node ≡ process % plan.clients % length plan.env.names
KeepsTurn plan steps calls all (Event.Step step answer) =
    (due : Entry) × (slice_get plan.schedule steps ≡ Some due) × (step ≡ due.step)
    × (min due.at all ≤ calls)
KeepsTurn plan steps calls all Event.Tick = ⊤

-- so does the event of this number in a journal
abbrev pub IsTurnKept : PlanValue → List Event → ℕ → Type 0
IsTurnKept plan journal number =
    (event : Event) → slice_get journal number ≡ Some event
    → KeepsTurn plan (applied_count (take number journal)) (answered_count (take number journal))
    (answered_count journal) event

-- so does each below a number
abbrev pub AreTurnsKept : PlanValue → List Event → ℕ → Type 0
AreTurnsKept plan journal count =
    (number : ℕ) → number < count → IsTurnKept plan journal number

-- a tick
abbrev pub is_tick : Event → Bool
is_tick (Event.Call process node request draw reply) = false
is_tick (Event.Step step answer) = false
is_tick Event.Tick = true

-- how many ticks follow the calls of a thread: one follows every so many, and none where the plan
-- says 0, since a number by 0 is 0
abbrev pub ticks_of : PlanValue → List Event → ℕ → ℕ
ticks_of plan journal thread = calls_by plan.clients thread journal / plan.tick_every

-- and those of all threads together
abbrev pub ticks_owed : PlanValue → List Event → ℕ
ticks_owed plan journal = sum_by (ticks_of plan journal) (range_with_len 0 plan.clients)

-- the nemesis's completions end all entries of the schedule in order, each by an event of its
-- step, and the clients completed no more calls than the plan has; each event of the journal keeps
-- to its turn, and it has as many ticks as follow its calls
pub record FollowsPlan (plan : PlanValue) (journal : List Event)
    (history : List Operation) : Type 0 where
  pub in_turn : AreInTurn plan.schedule journal history (length history)
  pub all_ended : count_by is_answered_step history ≡ length plan.schedule
  pub few_calls : count_by is_answered_call history ≤ plan.ops
  pub turns : AreTurnsKept plan journal (length journal)
  pub ticks : count_by is_tick journal ≡ ticks_owed plan journal
