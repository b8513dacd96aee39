-- The history of a run (jepsen.history: an operation is invoked, and completed as `:ok`,
-- `:fail` or `:info`; the nemesis's operations are `:info` both times). Which value and which event
-- a completion names are this project's own.
use Rattle.std.specs.Prelude.{ℕ, ◌+◌, ◌<◌, ◌≤◌, ◌^◌, pos, List, [], ◌∷◌, length, codes, Option, Some}
use Rattle.std.specs.Prelude.{None, IfSome, All, FitsSigned}
use Rattle.std.specs.Int.{w64}
use Rattle.jh_ops.specs.Operation.{Operation}
use Rattle.jh_ops.specs.Requests.{request_name, asked_content}
use Rattle.jh_edn.specs.Edn.{keyword}
use Rattle.jh_ops.specs.Words.{Content, Nothing, One, Several, content_value, pairs_of_event}
use Rattle.jh_ops.specs.Words.{integers}
use Rattle.jh_ops.specs.declared.call.Request.{Request}
use Rattle.jh_ops.specs.declared.operation.Kind.{Kind}
use Rattle.jh_ops.specs.declared.operation.Process.{Process}
use Rattle.jh_nemesis.specs.Steps.{code_of}
use Rattle.jh_nemesis.specs.declared.steps.StepAnswer.{StepAnswer}
use Rattle.jh_simnode.specs.declared.replicas.Got.{Got}
use Rattle.jh_simnode.specs.declared.replicas.Reply.{Reply}
use Rattle.jh_simnode.specs.declared.replicas.Reply.TheVariants as reply
use Rattle.jh_simnode.specs.declared.events.Event.{Event}
use Rattle.jh_simnode.specs.Limits.{max_events}

-- what a request that was done got, where it got something, and else what it asked with
abbrev pub got_content : Request → Got → Content
got_content request Got.Nothing = asked_content request
got_content request (Got.One None) = Nothing
got_content request (Got.One (Some v)) = One v
got_content request (Got.Many vs) = Several vs

-- the value of a completion
abbrev pub replied_content : Request → Reply → Content
replied_content request (reply.Ok got) = got_content request got
replied_content request reply.Fail = asked_content request
replied_content request reply.Info = asked_content request

-- the type of a completion
abbrev pub completion_kind : Reply → Kind
completion_kind (reply.Ok got) = Kind.Ok
completion_kind reply.Fail = Kind.Fail
completion_kind reply.Info = Kind.Info

-- an event's number that is an integer of a text
abbrev pub HasSmallEvent : Option ℕ → Type 0
HasSmallEvent event = IfSome event (λ number. number < 2 ^ 63)

-- an operation in no history yet, by an event of this number where it names one
abbrev pub unindexed_operation : Kind → Process → List ℕ → Content → Option ℕ → Operation
unindexed_operation kind process name content event = record {
  kind = kind;
  process = process;
  f = keyword name;
  value = content_value content;
  time = None;
  index = None;
  rest = pairs_of_event event;
}

-- an operation at its place in a history
abbrev pub indexed_operation : ℕ → Operation → Operation
indexed_operation place op = record {
  kind = op.kind;
  process = op.process;
  f = op.f;
  value = op.value;
  time = op.time;
  index = Some (pos place);
  rest = op.rest;
}

-- a client's operation as it is invoked, and as the event of this number completes it
abbrev pub invocation : ℕ → Request → Operation
invocation process request =
    unindexed_operation Kind.Invoke (Process.Client process) (request_name request)
    (asked_content request) None

abbrev pub completion : ℕ → ℕ → Request → Reply → Operation
completion number process request reply =
    unindexed_operation (completion_kind reply) (Process.Client process) (request_name request)
    (replied_content request reply) (Some number)

-- an entry of the schedule before the nemesis takes its step, and after it
abbrev pub entry_invocation : ℕ → Operation
entry_invocation entry =
    unindexed_operation Kind.Info Process.Nemesis (codes "step") (One (pos entry)) None

abbrev pub entry_completion : ℕ → ℕ → StepAnswer → Operation
entry_completion number entry answer =
    unindexed_operation Kind.Info Process.Nemesis (codes "step")
    (Several (pos entry ∷ pos (code_of answer) ∷ []))
    (Some number)

-- each of them at its place in the history
abbrev pub indexed_invocation : ℕ → ℕ → Request → Operation
indexed_invocation place process request = indexed_operation place (invocation process request)

abbrev pub indexed_completion : ℕ → ℕ → ℕ → Request → Reply → Operation
indexed_completion place number process request reply =
    indexed_operation place (completion number process request reply)

abbrev pub indexed_entry_invocation : ℕ → ℕ → Operation
indexed_entry_invocation place entry = indexed_operation place (entry_invocation entry)

abbrev pub indexed_entry_completion : ℕ → ℕ → ℕ → StepAnswer → Operation
indexed_entry_completion place number entry answer =
    indexed_operation place (entry_completion number entry answer)

-- the operations of these events: the first operation at this place, the first event with this
-- number, the first step with this entry
abbrev pub operations_from : ℕ → ℕ → ℕ → List Event → List Operation
operations_from place number entry [] = []
operations_from place number entry (Event.Call process node request draw reply ∷ es) =
    indexed_invocation place process request
    ∷ indexed_completion (place + 1) number process request reply ∷
    operations_from (place + 2) (number + 1) entry es
operations_from place number entry (Event.Step step answer ∷ es) =
    indexed_entry_invocation place entry ∷ indexed_entry_completion (place + 1) number entry answer ∷
    operations_from (place + 2) (number + 1) (entry + 1) es
operations_from place number entry (Event.Tick ∷ es) = operations_from place (number + 1) entry es

-- the history of a journal: two operations for each call and each step, and none for a tick
abbrev pub journal_history : List Event → List Operation
journal_history journal = operations_from 0 0 0 journal

-- what an operation asks with, or is answered, is made of integers of a text
abbrev pub AreIntegers : Content → Type 0
AreIntegers content = All (FitsSigned w64) (integers content)

-- the numbers that the operations of an event show are integers of a text: of a call its process,
-- what it asked with and what it got (those of a step are small by themselves)
abbrev pub HasIntegers : Event → Type 0
HasIntegers (Event.Call process node request draw reply) =
    (process < 2 ^ 63) × AreIntegers (asked_content request)
    × AreIntegers (replied_content request reply)
HasIntegers (Event.Step step answer) = Unit {0}
HasIntegers Event.Tick = Unit {0}

-- a journal whose history can be a text
pub record CanBeText (journal : List Event) : Type 0 where
  pub few : length journal ≤ max_events
  pub integers : All HasIntegers journal
