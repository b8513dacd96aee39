-- Which calls are ended: open ones, each of the process that its thread now is.
use Rattle.std.proofs.Common.{◌≡◌, ℕ, ◌==◌, true, false, refl}
use Rattle.std.proofs.lemmas.Bool.{eqb-true}
use Rattle.std.specs.Prelude.{Option, None, Some, Result, Ok, Err, if◌then◌else◌, IfOk}
use Rattle.jh_ops.specs.Operation.{Operation}
use Rattle.jh_ops.specs.declared.call.Request.{Request}
use Rattle.jh_conversation.specs.Lines.{ended_call, ended_request}
use Rattle.jh_test_parts.specs.Test.{TestValue, thread_of_process}
use Rattle.jh_conversation.specs.Machine.{Machine, caller_process, has_no_call}
use Rattle.jh_test_parts.specs.declared.calls.ValuedCall.{ValuedCall}
use Rattle.jh_test_parts.specs.declared.complaints.Complaint.{Complaint}
use Rattle.jh_test_parts.specs.declared.complaints.Complaint.TheVariants as complaint

-- what ends a call ends one that is open
pub ended_open : (t : TestValue) (m : Machine) (process : ℕ) (op : Operation) (c : Option ValuedCall) → IfOk (ended_request t m process op c) (λ _. has_no_call c ≡ false)
ended_open t m process op None = tt
ended_open t m process op (Some call) = of_call (ended_request t m process op (Some call))
  where
    of_call : (e : Result Request Complaint) → IfOk e (λ _. has_no_call (Some call) ≡ false)
    of_call (Ok request) = refl
    of_call (Err why) = tt

-- and one of the process that the thread now is
pub ended_own : (t : TestValue) (m : Machine) (process : ℕ) (op : Operation) (c : Option ValuedCall)
    → IfOk (ended_request t m process op c) (λ _. caller_process t m (thread_of_process t process) ≡ process)
ended_own t m process op None = tt
ended_own t m process op (Some call) =
    (elim (caller_process t m (thread_of_process t process) == process) as (λ b. (caller_process t m (thread_of_process t process) == process) ≡ b
    → IfOk (if b then ended_call t call op else Err complaint.NoCallOpen) (λ _. caller_process t m (thread_of_process t process) ≡ process)) [
      | true ↦ λ same. of_call (ended_call t call op) (eqb-true _ _ same)
      | false ↦ λ _. tt
    ]) refl
  where
    of_call : (e : Result Request Complaint) → caller_process t m (thread_of_process t process) ≡ process → IfOk e (λ _. caller_process t m (thread_of_process t process) ≡ process)
    of_call (Ok request) same = same
    of_call (Err why) same = tt
