-- What the operations of a history do, client by client: how the proofs of this crate see a test's history.
-- This project's own.
use Rattle.std.specs.Prelude.{◌≡◌, ℕ, Bool, true, List, [], ◌∷◌, codes, Option, None, Some}
use Rattle.std.specs.Prelude.{if◌then◌else◌}
use Rattle.jh_edn.specs.Edn.{Edn, keyword}
use Rattle.jh_gen.specs.Suits.{is_call_for, is_transaction}
use Rattle.jh_independent.specs.Keys.{tuple_of}
use Rattle.jh_ops.specs.Operation.{Operation}
use Rattle.jh_ops.specs.Pairing.{is_of_client}
use Rattle.jh_ops.specs.Requests.{asked_content, request_name}
use Rattle.jh_ops.specs.Words.{content_value}
use Rattle.jh_ops.specs.declared.call.Call.{Call}
use Rattle.jh_ops.specs.declared.call.Call.TheVariants.{Client}
use Rattle.jh_ops.specs.declared.call.Request.{Request}
use Rattle.jh_ops.specs.declared.call.Request.TheVariants.{Txn}
use Rattle.jh_ops.specs.declared.call.Workload.{Workload}
use Rattle.jh_ops.specs.declared.operation.Kind.{Kind}
use Rattle.jh_ops.specs.declared.operation.Process.{Process}
use Rattle.jh_test_parts.specs.Values.{fits_request}
use Rattle.jh_test_parts.specs.declared.parts.KeyShares.{KeyShares}
use Rattle.jh_test_parts.specs.declared.workload.TestWorkload.{TestWorkload}
use Rattle.jh_test_parts.specs.declared.workload.TestWorkload.TheVariants.{Register, Counter, Set}
use Rattle.jh_test_parts.specs.declared.workload.TestWorkload.TheVariants.{Ids, ListAppend}
use Rattle.jh_txn_histories.specs.Histories.{asked_by}
use Rattle.jh_txn_histories.specs.Written.{Written, is_equal}

-- what a client does: nothing, this operation, or nothing any more
pub data Doing : Type 0 where
  Idle : Doing
  Busy : Operation → Doing
  Gone : Doing

abbrev pub doing_after : Kind → Operation → Doing
doing_after Kind.Invoke op = Busy op
doing_after Kind.Info op = Gone
doing_after _ op = Idle

-- what it does behind these operations, the newest first
abbrev pub doing : ℕ → List Operation → Doing
doing client [] = Idle
doing client (op ∷ past) =
    if is_of_client client op.process then doing_after op.kind op else doing client past

-- How an operation may be invoked, and how one that was invoked so may be completed.
abbrev pub FitsDoing : (Operation → Type 0) → (Operation → Operation → Type 0) → Doing → Kind → Operation
    → Type 0
FitsDoing Invokes Completes Idle Kind.Invoke op = Invokes op
FitsDoing Invokes Completes (Busy call) Kind.Ok op = Completes call op
FitsDoing Invokes Completes (Busy call) Kind.Fail op = Completes call op
FitsDoing Invokes Completes (Busy call) Kind.Info op = Completes call op
FitsDoing Invokes Completes _ _ op = ⊥

abbrev pub FitsBehind : (Operation → Type 0) → (Operation → Operation → Type 0) → List Operation → Process
    → Operation → Type 0
FitsBehind Invokes Completes past (Process.Client client) op = FitsDoing Invokes Completes (doing client past) op.kind op
FitsBehind Invokes Completes past Process.Nemesis op = Unit {0}

-- each of these does, the oldest first, behind those in front of them
abbrev pub AllFit : (Operation → Type 0) → (Operation → Operation → Type 0) → (past ops : List Operation)
    → Type 0
AllFit Invokes Completes past [] = Unit {0}
AllFit Invokes Completes past (op ∷ ops) = FitsBehind Invokes Completes past op.process op × AllFit Invokes Completes (op ∷ past) ops

-- ---- for a workload

-- the calls of a workload
abbrev pub suits_call : TestWorkload → Call → Bool
suits_call Register call = is_call_for Workload.Register call
suits_call Counter call = is_call_for Workload.Counter call
suits_call Set call = is_call_for Workload.Set call
suits_call Ids call = is_call_for Workload.Ids call
suits_call ListAppend call = is_transaction call

-- what an invocation of a function with a value asks for
abbrev pub ops_asked : (f value : Edn) → Option (List Written)
ops_asked f value = asked_by (record {
  kind = Kind.Invoke;
  process = Process.Nemesis;
  f = f;
  value = value;
  time = None;
  index = None;
  rest = [];
})

-- what a request asks with: a transaction with micro-operations
abbrev pub IsAskedValue : Request → Edn → Type 0
IsAskedValue Txn value = (ops : List Written) × (ops_asked (keyword (codes "txn")) value ≡ Some ops)
IsAskedValue request value = value ≡ content_value (asked_content request)

abbrev pub InvokesValue : TestWorkload → (f value : Edn) → Type 0
InvokesValue workload f value =
    (request : Request) × (suits_call workload (Client request) ≡ true)
    × (f ≡ keyword (request_name request)) × IsAskedValue request value

abbrev pub CompletesOk : TestWorkload → (f asked value : Edn) → Kind → Type 0
CompletesOk workload f asked value Kind.Ok =
    (request : Request) × (f ≡ keyword (request_name request))
    × (fits_request workload request asked value ≡ true)
CompletesOk workload f asked value _ = Unit {0}

abbrev pub Invokes : TestWorkload → Operation → Type 0
Invokes workload op = InvokesValue workload op.f op.value

abbrev pub Completes : TestWorkload → Operation → Operation → Type 0
Completes workload call op = (op.f ≡ call.f) × CompletesOk workload call.f call.value op.value op.kind

-- ---- with keys

abbrev pub InvokesOfKey : TestWorkload → Operation → Type 0
InvokesOfKey workload op =
    (tuple : Edn × Edn) × (tuple_of op.value ≡ Some tuple) × InvokesValue workload op.f tuple.1

abbrev pub CompletesOfKey : TestWorkload → Operation → Operation → Type 0
CompletesOfKey workload call op =
    (asked got : Edn × Edn) × (tuple_of call.value ≡ Some asked) × (tuple_of op.value ≡ Some got)
    × (is_equal asked.0 got.0 ≡ true) × (op.f ≡ call.f) × CompletesOk workload call.f asked.1 got.1 op.kind

-- ---- as a test has it

abbrev pub InvokesBy : Option KeyShares → TestWorkload → Operation → Type 0
InvokesBy None workload = Invokes workload
InvokesBy (Some shares) workload = InvokesOfKey workload

abbrev pub CompletesBy : Option KeyShares → TestWorkload → Operation → Operation → Type 0
CompletesBy None workload = Completes workload
CompletesBy (Some shares) workload = CompletesOfKey workload

-- each of these fits behind the rest, the newest first
abbrev pub AllFitBehind : (Operation → Type 0) → (Operation → Operation → Type 0) → List Operation → Type 0
AllFitBehind Invokes Completes [] = Unit {0}
AllFitBehind Invokes Completes (op ∷ past) = FitsBehind Invokes Completes past op.process op × AllFitBehind Invokes Completes past
