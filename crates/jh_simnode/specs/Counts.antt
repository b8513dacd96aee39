-- How often something happened in a journal (this project's own).
use Rattle.std.specs.Prelude.{ℕ, ◌+◌, ◌*◌, ◌%◌, ◌==◌, ◌&&◌, Bool, true, false, List, [], ◌∷◌}
use Rattle.std.specs.Prelude.{Option, Some, None}
use Rattle.std.specs.List.{count_by}
use Rattle.jh_simnode.specs.declared.replicas.Reply.{Reply}
use Rattle.jh_simnode.specs.declared.replicas.Reply.TheVariants.{Ok, Fail, Info}
use Rattle.jh_simnode.specs.declared.events.Event.{Event}

-- a call was answered
abbrev pub is_call : Event → Bool
is_call (Event.Call process node request draw reply) = true
is_call (Event.Step step answer) = false
is_call Event.Tick = false

-- a step was taken or refused
abbrev pub is_step : Event → Bool
is_step (Event.Call process node request draw reply) = false
is_step (Event.Step step answer) = true
is_step Event.Tick = false

-- how many calls were answered, and how many steps were taken or refused
abbrev pub answered_count : List Event → ℕ
answered_count journal = count_by is_call journal

abbrev pub applied_count : List Event → ℕ
applied_count journal = count_by is_step journal

-- A thread's processes are those whose number, divided by the number of client threads, leaves its
-- own (as in jepsen.generator, where the thread of a process is its number modulo the concurrency).
abbrev pub is_process_of : ℕ → ℕ → ℕ → Bool
is_process_of clients thread process = (process % clients) == thread

-- the reply leaves open whether it was done
abbrev pub is_unknown_reply : Reply → Bool
is_unknown_reply (Ok got) = false
is_unknown_reply Fail = false
is_unknown_reply Info = true

-- of so many client threads, this one made the call
abbrev pub is_call_by : ℕ → ℕ → Event → Bool
is_call_by clients thread (Event.Call process node request draw reply) =
    is_process_of clients thread process
is_call_by clients thread (Event.Step step answer) = false
is_call_by clients thread Event.Tick = false

-- a call after which its process is crashed (jepsen.history: it isn't known whether the call took
-- effect)
abbrev pub is_crash_of : ℕ → ℕ → Event → Bool
is_crash_of clients thread (Event.Call process node request draw reply) =
    is_unknown_reply reply && is_process_of clients thread process
is_crash_of clients thread (Event.Step step answer) = false
is_crash_of clients thread Event.Tick = false

-- of so many client threads, how many calls this one made
abbrev pub calls_by : ℕ → ℕ → List Event → ℕ
calls_by clients thread journal = count_by (is_call_by clients thread) journal

-- whose operation a thread's next one is: at first the process of its own number, and after each
-- crash a new one, whose number is greater by the number of client threads
abbrev pub process_after : ℕ → ℕ → List Event → ℕ
process_after clients thread journal =
    thread + count_by (is_crash_of clients thread) journal * clients

-- the last event, where there is one
abbrev pub last_event : List Event → Option Event
last_event [] = None
last_event (e ∷ []) = Some e
last_event (e ∷ f ∷ es) = last_event (f ∷ es)
