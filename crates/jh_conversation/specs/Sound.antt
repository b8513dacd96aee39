-- What holds of a machine at each moment: the driver knows which threads have a call open, numbers stay
-- small, and the nemesis stands over the test's nodes. The code of its parts relies on it. This
-- project's own.
use Rattle.std.specs.Prelude.{◌≡◌, ℕ, suc, ◌+◌, ◌*◌, ◌<◌, ◌≤◌, ◌^◌, Bool, true, false, List, []}
use Rattle.std.specs.Prelude.{◌∷◌}
use Rattle.std.specs.Prelude.{get_or, length, slice_index_or, Option, None, Some, if◌then◌else◌}
use Rattle.std.specs.List.{AllByRecursion}
use Rattle.jh_gen.specs.DriverState.{DriverState, IsFresh, max_calls}
use Rattle.jh_nemesis.specs.State.{State}
use Rattle.jh_conversation.specs.Machine.{Machine, are_free, has_no_call, no_caller}
use Rattle.jh_test_parts.specs.Records.{IsWritableRecord}
use Rattle.jh_test_parts.specs.Test.{TestValue}
use Rattle.jh_conversation.specs.declared.callers.Caller.{Caller}
use Rattle.jh_conversation.specs.declared.callers.OpenStep.{OpenStep}
use Rattle.jh_conversation.specs.declared.phase.Phase.{Phase}
use Rattle.jh_conversation.specs.declared.phase.Phase.TheVariants.{Heal, Rest, Final, Over}
use Rattle.jh_test_parts.specs.declared.records.Recorded.{Recorded}

-- the thread has no call open
abbrev pub is_idle : List Caller → ℕ → Bool
is_idle callers thread = has_no_call (get_or callers thread no_caller).call

-- the thread is busy for the driver
abbrev pub is_busy_for : DriverState → ℕ → Bool
is_busy_for d thread = slice_index_or d.busy (thread + 1) false

-- The driver has so many threads. Those that have a call open are busy for it, and while it has more to
-- give, no other one is.
pub record IsTied (clients : ℕ) (d : DriverState) (has_spent : Bool) (callers : List Caller) : Type 0 where
  pub clients_is : d.clients ≡ clients
  pub long : length d.busy ≡ clients + 1
  pub wide : length callers ≡ clients
  pub busy : (k : ℕ) → k < clients → is_idle callers k ≡ false → is_busy_for d k ≡ true
  pub idle : has_spent ≡ false → (k : ℕ) → k < clients → is_idle callers k ≡ true → is_busy_for d k ≡ false

-- how many calls are open
abbrev pub open_calls : List Caller → ℕ
open_calls [] = 0
open_calls (caller ∷ callers) =
    if has_no_call caller.call then open_calls callers else suc (open_calls callers)

-- how many calls were given before this phase's driver gave any, at most
abbrev pub earlier_calls : Phase → ℕ
earlier_calls Final = max_calls
earlier_calls Over = max_calls
earlier_calls _ = 0

-- Calls that were given are open or answered, and a process crashed by a call of its own.
pub record AreCounted (clients given answered crashed : ℕ) (callers : List Caller) : Type 0 where
  pub all : answered + open_calls callers ≡ given
  pub few : crashed ≤ answered
  pub each : (k : ℕ) → k < clients → (get_or callers k no_caller).used_numbers ≤ crashed

-- Each group of threads was given no more calls than all.
pub record AreGroups (clients given : ℕ) (groups : List ℕ) : Type 0 where
  pub long : length groups ≡ clients
  pub each : (k : ℕ) → slice_index_or groups k 0 ≤ given

-- between *main* and *final* no call is open
abbrev pub IsBetween : Phase → Type 0
IsBetween Heal = Unit {0}
IsBetween Rest = Unit {0}
IsBetween _ = ⊥

abbrev pub IsSmallStep : Option OpenStep → Type 0
IsSmallStep None = Unit {0}
IsSmallStep (Some step) = (step.entry < 2 ^ 63) × (step.code < 2 ^ 63)

abbrev pub IsFreshIfThere : ℕ → Option DriverState → Type 0
IsFreshIfThere clients None = Unit {0}
IsFreshIfThere clients (Some driver) = IsFresh driver clients × (driver.given ≡ 0)

-- the nemesis stands over the nodes and the start of the test
abbrev pub IsOverStart : TestValue → State → Type 0
IsOverStart t s = (s.names ≡ t.start.names) × (s.start ≡ t.start.start)

-- the driver has given no more than it may, and no more calls were given than by drivers
abbrev pub AreGivenByDrivers : Phase → ℕ → DriverState → Type 0
AreGivenByDrivers phase given d = (given ≤ earlier_calls phase + d.given) × (d.given ≤ max_calls)

pub record HasSmallNumbers (nodes clock taken : ℕ) (step : Option OpenStep) (history : List Recorded) : Type 0 where
  pub time : clock < 2 ^ 63
  pub entries : taken ≤ length history
  pub open_step : IsSmallStep step
  pub records : AllByRecursion (IsWritableRecord nodes) history

abbrev pub IsSoundMachine : TestValue → Machine → Type 0
IsSoundMachine t m =
    IsTied t.clients m.driver m.has_spent m.callers
    × AreGivenByDrivers m.phase m.given m.driver
    × AreCounted t.clients m.given m.answered m.crashed m.callers
    × AreGroups t.clients m.given m.calls_by_group
    × (IsBetween m.phase → are_free m.callers ≡ true)
    × IsFreshIfThere t.clients m.final_calls
    × IsOverStart t m.nemesis
    × HasSmallNumbers (length t.start.names) m.clock m.taken m.step m.history

-- what keeps the numbers of a new call small
pub record HasSmallCounts (t : TestValue) (m : Machine) : Type 0 where
  pub wide : length m.callers ≡ t.clients
  pub used_numbers : (k : ℕ) → k < t.clients → (get_or m.callers k no_caller).used_numbers ≤ 2 * max_calls
  pub given : m.given ≤ 2 * max_calls
  pub groups : AreGroups t.clients m.given m.calls_by_group
