-- What is known of a test at a moment. This project's own. What is said goes from the test to the
-- adapter; what is read, or heard, is what the adapter writes.
use Rattle.std.specs.Prelude.{ℕ, ◌+◌, ◌*◌, Bool, true, false, List, ◌∷◌, get_or, replicate}
use Rattle.std.specs.Prelude.{Option, None, Some}
use Rattle.std.specs.List.{list_all}
use Rattle.rand_pcg.specs.Lcg.{Lcg}
use Rattle.jh_gen.specs.DriverState.{DriverState}
use Rattle.jh_nemesis.specs.State.{State}
use Rattle.jh_test_parts.specs.Test.{TestValue}
use Rattle.jh_test_parts.specs.Transactions.{TransactionSource}
use Rattle.jh_test_parts.specs.declared.calls.ValuedCall.{ValuedCall}
use Rattle.jh_conversation.specs.declared.callers.BadLine.{BadLine}
use Rattle.jh_conversation.specs.declared.callers.Caller.{Caller}
use Rattle.jh_conversation.specs.declared.callers.OpenStep.{OpenStep}
use Rattle.jh_conversation.specs.declared.phase.Phase.{Phase}
use Rattle.jh_test_parts.specs.declared.records.Recorded.{Recorded}

-- It is a state, and not a machine by lines (the trait of jh_lines), which a conversation is. The
-- history, and what was said since the last line was read, have the newest record first.
pub record Machine : Type 0 where
  pub phase : Phase
  -- what gives the calls of this phase, and what will give those of *final*, where it is to come; whether
  -- the former has no more, and the random numbers for it
  pub driver : DriverState
  pub final_calls : Option DriverState
  pub has_spent : Bool
  pub random_numbers : Lcg
  -- the transactions to come, and how many calls each group of threads was given
  pub transactions : TransactionSource
  pub calls_by_group : List ℕ
  pub callers : List Caller
  -- calls that were given and that were answered, and processes that have crashed
  pub given : ℕ
  pub answered : ℕ
  pub crashed : ℕ
  -- the nemesis, how many entries were taken, and the step that is open: the adapter has not ended it
  pub nemesis : State
  pub taken : ℕ
  pub step : Option OpenStep
  -- how far calls are stopped: 0, `main_stopped` or `all_stopped` (Turn)
  pub stops : ℕ
  -- the greatest time that was read, and that at which *rest* began, in nanoseconds
  pub clock : ℕ
  pub rest_began : ℕ
  -- how many lines were read, and the first one that is no reply
  pub read : ℕ
  pub bad : Option BadLine
  pub history : List Recorded
  pub said : List Recorded

abbrev pub no_caller : Caller
no_caller = record { used_numbers = 0; call = None }

abbrev pub caller_of : Machine → ℕ → Caller
caller_of m thread = get_or m.callers thread no_caller

-- The process of a thread: the thread's number at first, and greater by the number of threads for each
-- number that is used up; a crash uses up one (jepsen.generator).
abbrev pub caller_process : TestValue → Machine → ℕ → ℕ
caller_process t m thread = thread + t.clients * (caller_of m thread).used_numbers

abbrev pub has_no_call : Option ValuedCall → Bool
has_no_call None = true
has_no_call (Some call) = false

-- no call is open
abbrev pub are_free : List Caller → Bool
are_free callers = list_all (λ caller. has_no_call caller.call) callers

-- so many threads, each of which has used up so many numbers of processes
abbrev pub new_callers : ℕ → ℕ → List Caller
new_callers n used_numbers = replicate n (record { used_numbers = used_numbers; call = None })

-- a record that is written belongs to the history too
abbrev pub say : Recorded → Machine → Machine
say r m = record m { history = r ∷ m.history; said = r ∷ m.said }

-- a record that was read
abbrev pub hear : Recorded → Machine → Machine
hear r m = record m { history = r ∷ m.history }
