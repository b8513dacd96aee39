-- What the operations of a run say: a client's process asks and is answered (jepsen.history: an
-- operation is invoked, and completed as `:ok`, `:fail` or `:info`); an entry of the schedule
-- begins, and has ended (this project's own).
use Rattle.std.specs.Prelude.{◌≡◌, ℕ, List, [], ◌∷◌, pos, codes, Option, Some, None, ⊤}
use Rattle.std.specs.Prelude.{if◌then◌else◌, slice_get, option_and_then}
use Rattle.std.specs.Str.{bytes_eq}
use Rattle.jh_edn.specs.Edn.{Edn, keyword, int}
use Rattle.jh_ops.specs.Operation.{Operation}
use Rattle.jh_ops.specs.declared.call.Request.{Request}
use Rattle.jh_ops.specs.declared.call.Request.TheVariants.{Read, Write, Cas, Add, Generate, Txn}
use Rattle.jh_nemesis.specs.declared.steps.StepAnswer.{StepAnswer}
use Rattle.jh_simnode.specs.declared.replicas.Got.{Got}
use Rattle.jh_simnode.specs.declared.replicas.Reply.{Reply}
use Rattle.jh_simnode.specs.declared.replicas.Reply.TheVariants as reply
use Rattle.jh_simnode.specs.Histories.{indexed_invocation, indexed_completion}
use Rattle.jh_simnode.specs.Histories.{indexed_entry_invocation, indexed_entry_completion}
use Rattle.jh_audit.specs.declared.forms.Form.{Form}
use Rattle.jh_audit.specs.declared.forms.Form.TheVariants.{Asks, Completes, Begins, Ends}

-- what a request that was done may get: a read one value or many, a new id one, others nothing
abbrev pub MayGet : Request → Got → Type 0
MayGet Read Got.Nothing = ⊥
MayGet Read (Got.One x) = ⊤
MayGet Read (Got.Many xs) = ⊤
MayGet (Write v) Got.Nothing = ⊤
MayGet (Write v) (Got.One x) = ⊥
MayGet (Write v) (Got.Many xs) = ⊥
MayGet (Cas a b) Got.Nothing = ⊤
MayGet (Cas a b) (Got.One x) = ⊥
MayGet (Cas a b) (Got.Many xs) = ⊥
MayGet (Add v) Got.Nothing = ⊤
MayGet (Add v) (Got.One x) = ⊥
MayGet (Add v) (Got.Many xs) = ⊥
MayGet Generate Got.Nothing = ⊥
MayGet Generate (Got.One x) = ⊤
MayGet Generate (Got.Many xs) = ⊥
MayGet Txn Got.Nothing = ⊤
MayGet Txn (Got.One x) = ⊥
MayGet Txn (Got.Many xs) = ⊥

-- what may be replied to a request
abbrev pub MayReply : Request → Reply → Type 0
MayReply request (reply.Ok got) = MayGet request got
MayReply request reply.Fail = ⊤
MayReply request reply.Info = ⊤

-- the operation says this at its place in a history
abbrev pub Says : ℕ → Operation → Form → Type 0
Says place op (Asks process request) = op ≡ indexed_invocation place process request
Says place op (Completes process request number) =
    (reply : Reply) × MayReply request reply
    × (op ≡ indexed_completion place number process request reply)
Says place op (Begins entry) = op ≡ indexed_entry_invocation place entry
Says place op (Ends entry number) =
    (answer : StepAnswer) × (op ≡ indexed_entry_completion place number entry answer)

-- the operation at a place of a history says this
abbrev pub SaysAt : List Operation → ℕ → Form → Type 0
SaysAt history place form =
    (op : Operation) × (slice_get history place ≡ Some op) × Says place op form

-- the event that a form names
abbrev pub event_in : Form → Option ℕ
event_in (Asks process request) = None
event_in (Completes process request number) = Some number
event_in (Begins entry) = None
event_in (Ends entry number) = Some number

-- the event that is named by these keys of an operation: they are `:event` alone, with a number
abbrev pub named_event : List (Edn × Edn) → Option ℕ
named_event ((keyword name, int (pos number)) ∷ []) =
    if bytes_eq name (codes "event") then Some number else None
named_event _ = None

-- the event that the operation at a place of a history names
abbrev pub named_event_at : List Operation → ℕ → Option ℕ
named_event_at history place = option_and_then (λ op. named_event op.rest) (slice_get history place)
