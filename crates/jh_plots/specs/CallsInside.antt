-- What is kept of calls. Proofs rest on it, and the law of counts (`count_laws`).
use Rattle.std.specs.Prelude.{◌≡◌, ℕ, ◌≤◌, List, All, IfSome, option_map}
use Rattle.jh_ops.specs.Operation.{Operation}
use Rattle.jh_ops.specs.declared.pairs.Pair.{Pair}
use Rattle.jh_plots.specs.Calls.{kind_at}
use Rattle.jh_plots.specs.Times.{record_moment}
use Rattle.jh_plots.specs.declared.calls.TimedCall.{TimedCall}

-- the call of a pair, whose function has this number
pub record IsTimedCall (history : List Operation) (pair : Pair) (number : ℕ)
    (call : TimedCall) : Type 0 where
  pub function : call.function ≡ number
  pub asked : call.asked ≡ record_moment history pair.invoke
  pub ended : call.ended ≡ option_map (record_moment history) pair.outcome
  pub kind : call.kind ≡ kind_at history pair.outcome

-- the times of a call are not behind the end
pub record IsCallWithin (end : ℕ) (call : TimedCall) : Type 0 where
  pub asked : call.asked ≤ end
  pub ended : IfSome call.ended (λ ended. ended ≤ end)

abbrev pub AreCallsWithin : ℕ → List TimedCall → Type 0
AreCallsWithin end calls = All (IsCallWithin end) calls
