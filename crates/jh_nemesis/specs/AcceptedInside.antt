-- The steps that a nemesis keeps, the active faults that they make, and what holds of them, of the
-- cursor among them and of the active stamps (this project's own). The stamp of a fault is the
-- index of its begin in the list of steps.
use Rattle.std.specs.Prelude.{ℕ, suc, zero, ◌==◌, List, [], ◌∷◌, ◌++◌, ◌-◌, filter, insert, length}
use Rattle.std.specs.Prelude.{map, nat_lt, not, slice_index_or, take, ◌≡◌, ◌≤◌, ◌<◌, false}
use Rattle.std.specs.List.{position_or_len, All, Contains}
use Rattle.jh_env.specs.Faults.{FaultValue, Cut, FitsCount}
use Rattle.jh_nemesis.specs.State.{Active, is_active}
use Rattle.jh_nemesis.specs.declared.accepted.AcceptedStep.{AcceptedStep}
use Rattle.jh_nemesis.specs.declared.accepted.AcceptedStep.TheVariants.{Begun, Withdrawn}
use Rattle.jh_nemesis.specs.declared.accepted.AcceptedStep.TheVariants.{WithdrawnAll}
use Rattle.jh_env.specs.Overlay.{EnvValue, StandsWith}
use Rattle.jh_nemesis.specs.Steps.{max_active, max_steps}

-- the step at this index
abbrev pub accepted_at : List AcceptedStep → ℕ → AcceptedStep
accepted_at accepted index = slice_index_or accepted index (Withdrawn 0)

-- the active stamps after the step at this index, where these were active before it
abbrev pub stamps_after : ℕ → AcceptedStep → List ℕ → List ℕ
stamps_after index (Begun id fault) active = active ++ index ∷ []
stamps_after index (Withdrawn stamp) active = filter (λ other. not (other == stamp)) active
stamps_after index (WithdrawnAll stamps) active = []

-- the active stamps before a step, where these are active after it
abbrev pub stamps_before : AcceptedStep → List ℕ → List ℕ
stamps_before (Begun id fault) active = take (length active - 1) active
stamps_before (Withdrawn stamp) active = insert active (position_or_len (nat_lt stamp) active) stamp
stamps_before (WithdrawnAll stamps) active = stamps.items

-- the stamps of the faults that the step at this index begins or ends
abbrev pub stamps_changed : ℕ → AcceptedStep → List ℕ
stamps_changed index (Begun id fault) = index ∷ []
stamps_changed index (Withdrawn stamp) = stamp ∷ []
stamps_changed index (WithdrawnAll stamps) = stamps.items

-- the active stamps after so many steps
abbrev pub active_after : List AcceptedStep → ℕ → List ℕ
active_after accepted zero = []
active_after accepted (suc n) = stamps_after n (accepted_at accepted n) (active_after accepted n)

-- the fault that a begin holds, with its id
abbrev pub begun_fault : AcceptedStep → ℕ × FaultValue
begun_fault (Begun id fault) = (id, fault)
begun_fault (Withdrawn stamp) = (0, Cut [])
begun_fault (WithdrawnAll stamps) = (0, Cut [])

-- the faults of these stamps
abbrev pub faults_at : List AcceptedStep → List ℕ → Active
faults_at accepted stamps = map (λ stamp. begun_fault (accepted_at accepted stamp)) stamps

-- the fault of a stamp, with it
abbrev pub fault_with_stamp : List AcceptedStep → ℕ → ℕ × FaultValue
fault_with_stamp accepted stamp = (stamp, (begun_fault (accepted_at accepted stamp)).1)

-- the faults of these stamps, with them
abbrev pub faults_with_stamps : List AcceptedStep → List ℕ → List (ℕ × FaultValue)
faults_with_stamps accepted stamps = map (fault_with_stamp accepted) stamps

-- the active faults after so many steps
abbrev pub moment : List AcceptedStep → ℕ → Active
moment accepted n = faults_at accepted (active_after accepted n)

-- those before each of the first steps, the latest first
abbrev pub past_of : List AcceptedStep → ℕ → List Active
past_of accepted zero = []
past_of accepted (suc n) = moment accepted n ∷ past_of accepted n

-- those after each of so many steps from this index on, the first of them first
abbrev pub future_of : List AcceptedStep → ℕ → ℕ → List Active
future_of accepted index zero = []
future_of accepted index (suc count) =
    moment accepted (suc index) ∷ future_of accepted (suc index) count

-- ---- what holds

-- the step is a begin
abbrev pub IsBegin : AcceptedStep → Type 0
IsBegin (Begun id fault) = Unit {0}
IsBegin (Withdrawn stamp) = ⊥
IsBegin (WithdrawnAll stamps) = ⊥

-- each is the index of a begin
abbrev pub AreStamps : List AcceptedStep → List ℕ → Type 0
AreStamps accepted stamps =
    All (λ stamp. (stamp < length accepted) × IsBegin (accepted_at accepted stamp)) stamps

-- the step could be taken after so many, among so many nodes
abbrev pub IsRight : ℕ → List AcceptedStep → ℕ → AcceptedStep → Type 0
IsRight nodes accepted n (Begun id fault) =
    FitsCount nodes fault × (length (active_after accepted n) < max_active)
    × (is_active (moment accepted n) id ≡ false)
IsRight nodes accepted n (Withdrawn stamp) = Contains (active_after accepted n) stamp
IsRight nodes accepted n (WithdrawnAll stamps) = stamps.items ≡ active_after accepted n

-- each of the steps could be taken
abbrev pub AreRight : ℕ → List AcceptedStep → Type 0
AreRight nodes accepted =
    (n : ℕ) → n < length accepted → IsRight nodes accepted n (accepted_at accepted n)

-- each step could be taken, the stamps are those that the steps before the cursor make active, and
-- the environment is what their faults make of its start
pub record IsTrueTo (env : EnvValue) (accepted : List AcceptedStep) (cursor : ℕ) (active : List ℕ)
    : Type 0 where
  pub within : cursor ≤ length accepted
  pub short : length accepted ≤ max_steps
  pub right : (n : ℕ) → n < length accepted
      → IsRight (length env.names) accepted n (accepted_at accepted n)
  pub now : active ≡ active_after accepted cursor
  pub stands : StandsWith env (faults_with_stamps accepted active)
