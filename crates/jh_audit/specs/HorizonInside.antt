-- How far the operations of a history are known to name low events only, so that a search need not
-- look at them.
-- This project's own.
use Rattle.std.specs.Prelude.{◌≡◌, ℕ, ◌<◌, ◌≤◌, List, Some, length}
use Rattle.jh_ops.specs.Operation.{Operation}
use Rattle.jh_audit.specs.declared.horizon.Horizon.{Horizon}
use Rattle.jh_audit.specs.Forms.{named_event_at}

-- all operations below a place name events below a number
abbrev pub NamesBelow : List Operation → ℕ → ℕ → Type 0
NamesBelow history place bound =
    (m d : ℕ) → m < place → named_event_at history m ≡ Some d → d < bound

-- so it is below the horizon, which is in the history
pub record IsBehind (history : List Operation) (horizon : Horizon) : Type 0 where
  pub within : horizon.place ≤ length history
  pub low : NamesBelow history horizon.place horizon.bound
