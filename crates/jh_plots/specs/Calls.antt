-- Calls, as they are plotted: one for each pair of an invocation and a completion of a client's
-- operation (this project's own, but for the pairs, which are jepsen.history's).
use Rattle.std.specs.List.{AllZip}
use Rattle.std.specs.Prelude.{◌≡◌, ℕ, ◌-◌, List, map, fold, [], Option, Some, None, option_map}
use Rattle.std.specs.Prelude.{slice_get, unwrap_or}
use Rattle.std.specs.Option.{option_map_or}
use Rattle.jh_edn.specs.Edn.{Edn, nil}
use Rattle.jh_edn.specs.Normal.{normal}
use Rattle.jh_numbers.specs.Numbers.{HasNumber, with_value}
use Rattle.jh_ops.specs.Operation.{Operation}
use Rattle.jh_ops.specs.Pairing.{history_pairs}
use Rattle.jh_ops.specs.declared.operation.Kind.{Kind}
use Rattle.jh_ops.specs.declared.pairs.Pair.{Pair}
use Rattle.jh_plots.specs.Times.{record_moment}
use Rattle.jh_plots.specs.declared.calls.TimedCall.{TimedCall}

-- the function of the record at an index, as it is numbered
abbrev pub function_at : List Operation → ℕ → ℕ × Edn
function_at history index =
    (0, option_map_or (λ op. normal op.f) (slice_get history index) nil)

-- each function of a client's call once, in the order of their first calls
abbrev pub functions : List Operation → List (ℕ × Edn)
functions history =
    fold with_value [] (map (λ pair. function_at history pair.invoke) (history_pairs history))

-- how a call ended, which has its completion at a place: without one it is `Info`
abbrev pub kind_at : List Operation → Option ℕ → Kind
kind_at history None = Kind.Info
kind_at history (Some place) = option_map_or (λ op. op.kind) (slice_get history place) Kind.Info

-- the call of a pair, where functions have these numbers
pub record IsCallOf (history : List Operation) (numbered : List (ℕ × Edn)) (pair : Pair)
    (call : TimedCall) : Type 0 where
  pub function : HasNumber numbered (function_at history pair.invoke) call.function
  pub asked : call.asked ≡ record_moment history pair.invoke
  pub ended : call.ended ≡ option_map (record_moment history) pair.outcome
  pub kind : call.kind ≡ kind_at history pair.outcome

-- a call for each pair, in order
abbrev pub AreTimedCallsOf : List Operation → List TimedCall → Type 0
AreTimedCallsOf history calls =
    AllZip (IsCallOf history (functions history)) (history_pairs history) calls

-- how long a call took, in nanoseconds: without a completion, up to the end of the time
abbrev pub latency : ℕ → TimedCall → ℕ
latency end call = unwrap_or call.ended end - call.asked
