-- When a journal and a history tell the same (this project's own; what stands before a completion
-- and after it is that of jepsen.history): each completion follows its invocation, a process ends
-- with a completion, a client's `:info` is its last, each completion names one event of the
-- journal, later than all that were named before that invocation, and each event but a tick is
-- named once.
use Rattle.std.specs.Prelude.{◌≡◌, ◌≢◌, ℕ, ◌<◌, List, Option, Some, length, slice_get, ⊤}
use Rattle.std.specs.Option.{option_map}
use Rattle.jh_ops.specs.Operation.{Operation}
use Rattle.jh_ops.specs.declared.operation.Kind.{Kind}
use Rattle.jh_ops.specs.declared.operation.Process.{Process}
use Rattle.jh_simnode.specs.declared.events.Event.{Event}
use Rattle.jh_simnode.specs.Histories.{indexed_completion, indexed_entry_completion}
use Rattle.jh_audit.specs.declared.forms.Form.{Form}
use Rattle.jh_audit.specs.declared.forms.Form.TheVariants.{Asks, Completes, Begins, Ends}
use Rattle.jh_audit.specs.declared.checks.AuditFault.{AuditFault}
use Rattle.jh_audit.specs.declared.checks.AuditFault.TheVariants.{BadOp, NoEvent, WrongEvent}
use Rattle.jh_audit.specs.declared.checks.AuditFault.TheVariants.{Repeat, Unpaired, WrongOrder}
use Rattle.jh_audit.specs.declared.checks.AuditFault.TheVariants.{Unnamed}
use Rattle.jh_audit.specs.Forms.{Says, SaysAt, event_in, named_event_at}

-- whose operation stands at a place
abbrev pub process_at : List Operation → ℕ → Option Process
process_at history place = option_map (λ op. op.process) (slice_get history place)

-- the operations at both places are of one process
abbrev pub HasSameProcess : List Operation → ℕ → ℕ → Type 0
HasSameProcess history one other = process_at history one ≡ process_at history other

-- among the operations of its process, the one at the earlier place stands just before the other
abbrev pub IsJustBefore : List Operation → ℕ → ℕ → Type 0
IsJustBefore history earlier place =
    (earlier < place) × HasSameProcess history earlier place
    × ((m : ℕ) → earlier < m → m < place → HasSameProcess history m place → ⊥)

-- the operation at a place is the first of its process
abbrev pub HasNothingBefore : List Operation → ℕ → Type 0
HasNothingBefore history place = (m : ℕ) → m < place → HasSameProcess history m place → ⊥

-- the event of a completion is one of the journal
abbrev pub HasEvent : List Event → Form → Type 0
HasEvent journal form = (e : ℕ) → event_in form ≡ Some e → e < length journal

-- the operation is the completion of this event
abbrev pub IsCompletionBy : Event → ℕ → Operation → Form → Type 0
IsCompletionBy (Event.Call process node request draw reply) place op
    (Completes completer given number) =
    (process ≡ completer) × (request ≡ given)
    × (op ≡ indexed_completion place number process request reply)
IsCompletionBy (Event.Step step answer) place op (Ends entry number) =
    op ≡ indexed_entry_completion place number entry answer
IsCompletionBy _ place op _ = ⊥

-- a completion is that of its event
abbrev pub CompletesEvent : List Event → ℕ → Operation → Form → Type 0
CompletesEvent journal place op form =
    (e : ℕ) (event : Event) → event_in form ≡ Some e → slice_get journal e ≡ Some event
    → IsCompletionBy event place op form

-- the event is named by an operation below a place
abbrev pub IsNamed : List Operation → ℕ → ℕ → Type 0
IsNamed history place e = (k : ℕ) × (k < place) × (named_event_at history k ≡ Some e)

-- no earlier operation names the event of a completion
abbrev pub IsNewEvent : List Operation → ℕ → Form → Type 0
IsNewEvent history place form = (e : ℕ) → event_in form ≡ Some e → IsNamed history place e → ⊥

-- a process may ask again after this: a completion that is no client's `:info`
abbrev pub IsOverBy : Operation → Form → Type 0
IsOverBy op (Asks process request) = ⊥
IsOverBy op (Completes process request number) = op.kind ≢ Kind.Info
IsOverBy op (Begins entry) = ⊥
IsOverBy op (Ends entry number) = ⊤

-- the operation at a place says something, and this holds of both
abbrev pub HoldsAt : List Operation → ℕ → (Operation → Form → Type 0) → Type 0
HoldsAt history place P =
    (op : Operation) × (form : Form) × (slice_get history place ≡ Some op) × Says place op form
    × P op form

-- the operation at a place is one after which its process may ask again
abbrev pub IsOverAt : List Operation → ℕ → Type 0
IsOverAt history place = HoldsAt history place IsOverBy

-- just before an invocation stands nothing, or what is over
abbrev pub MayInvoke : List Operation → ℕ → Type 0
MayInvoke history place = (k : ℕ) → IsJustBefore history k place → IsOverAt history k

-- an operation is not the last of its process
abbrev pub IsNotLast : List Operation → ℕ → Type 0
IsNotLast history place = (k : ℕ) × (place < k) × HasSameProcess history k place

-- just before a completion stands its invocation
abbrev pub FollowsInvocation : List Operation → ℕ → Form → Type 0
FollowsInvocation history place asked =
    (k : ℕ) × IsJustBefore history k place × SaysAt history k asked

-- an invocation may be made and is completed; a completion follows the invocation of its request or
-- entry
abbrev pub IsPaired : List Operation → ℕ → Form → Type 0
IsPaired history place (Asks process request) = MayInvoke history place × IsNotLast history place
IsPaired history place (Completes process request number) =
    FollowsInvocation history place (Asks process request)
IsPaired history place (Begins entry) = MayInvoke history place × IsNotLast history place
IsPaired history place (Ends entry number) = FollowsInvocation history place (Begins entry)

-- the event of a completion comes after all that are named before its invocation
abbrev pub IsInOrder : List Operation → ℕ → Form → Type 0
IsInOrder history place form =
    (e k m d : ℕ) → event_in form ≡ Some e → IsJustBefore history k place → m < k
    → named_event_at history m ≡ Some d → d < e

-- all that is asked of the operation at a place
pub record IsSoundAt (journal : List Event) (history : List Operation) (place : ℕ) : Type 0 where
  pub op : Operation
  pub form : Form
  pub at : slice_get history place ≡ Some op
  pub says : Says place op form
  pub has_event : HasEvent journal form
  pub completes : CompletesEvent journal place op form
  pub new : IsNewEvent history place form
  pub paired : IsPaired history place form
  pub in_order : IsInOrder history place form

-- each operation below a place is sound
abbrev pub AreSoundBelow : List Event → List Operation → ℕ → Type 0
AreSoundBelow journal history count = (place : ℕ) → place < count → IsSoundAt journal history place

-- a call or a step must be named, and a tick never is
abbrev pub NeedsName : Event → Type 0
NeedsName (Event.Call process node request draw reply) = ⊤
NeedsName (Event.Step step answer) = ⊤
NeedsName Event.Tick = ⊥

-- the event of a number is named where it must be
abbrev pub IsNamedAsDue : List Event → List Operation → ℕ → Type 0
IsNamedAsDue journal history number =
    (event : Event) → slice_get journal number ≡ Some event → NeedsName event
    → IsNamed history (length history) number

-- each event below a number is named where it must be
abbrev pub AreNamed : List Event → List Operation → ℕ → Type 0
AreNamed journal history count = (number : ℕ) → number < count → IsNamedAsDue journal history number

-- the journal and the history tell the same
pub record IsAudited (journal : List Event) (history : List Operation) : Type 0 where
  pub operations : AreSoundBelow journal history (length history)
  pub events : AreNamed journal history (length journal)

-- what is wrong at a place: all that is looked at before it, is right
abbrev pub HasFaultAt : List Event → List Operation → ℕ → AuditFault → Type 0
HasFaultAt journal history i (BadOp place) =
    (place ≡ i) × ((form : Form) → SaysAt history i form → ⊥)
HasFaultAt journal history i (NoEvent place) =
    (place ≡ i) × HoldsAt history i (λ op form. (HasEvent journal form → ⊥))
HasFaultAt journal history i (WrongEvent place) =
    (place ≡ i) × HoldsAt history i
    (λ op form. HasEvent journal form × (CompletesEvent journal i op form → ⊥))
HasFaultAt journal history i (Repeat place) =
    (place ≡ i) × HoldsAt history i
    (λ op form. HasEvent journal form × CompletesEvent journal i op form
    × (IsNewEvent history i form → ⊥))
HasFaultAt journal history i (Unpaired place) =
    (place ≡ i) × HoldsAt history i
    (λ op form. HasEvent journal form × CompletesEvent journal i op form
    × IsNewEvent history i form × (IsPaired history i form → ⊥))
HasFaultAt journal history i (WrongOrder place) =
    (place ≡ i) × HoldsAt history i
    (λ op form. HasEvent journal form × CompletesEvent journal i op form
    × IsNewEvent history i form × IsPaired history i form × (IsInOrder history i form → ⊥))
HasFaultAt journal history i (Unnamed number) = ⊥

-- the least place at which something is wrong, and what; else the least number that is not named
-- and must be
abbrev pub IsFirstFault : List Event → List Operation → AuditFault → Type 0
IsFirstFault journal history (Unnamed number) =
    AreSoundBelow journal history (length history) × (number < length journal)
    × AreNamed journal history number
    × (IsNamedAsDue journal history number → ⊥)
IsFirstFault journal history fault =
    (i : ℕ) × (i < length history) × AreSoundBelow journal history i
    × HasFaultAt journal history i fault
