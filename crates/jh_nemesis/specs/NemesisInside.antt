-- What a contract sees of a nemesis's fields, and what holds of them (this project's own).
use Rattle.std.specs.Prelude.{ℕ, List, ◌-◌, length}
use Rattle.jh_env.specs.Overlay.{EnvValue, work_of}
use Rattle.jh_nemesis.specs.State.{State}
use Rattle.jh_nemesis.specs.AcceptedInside.{faults_at, past_of, future_of, IsTrueTo}
use Rattle.jh_nemesis.specs.Work.{NemesisValue}
use Rattle.jh_nemesis.specs.declared.accepted.AcceptedStep.{AcceptedStep}
use Rattle.jh_nemesis.specs.declared.nemesis.Nemesis.TheInside.{Inside}

-- the state of an environment, the steps, the cursor among them, and the active stamps
abbrev pub state_from : EnvValue → List AcceptedStep → ℕ → List ℕ → State
state_from env accepted cursor active = record {
  names = env.names;
  start = env.start;
  past = past_of accepted cursor;
  active = faults_at accepted active;
  future = future_of accepted cursor (length accepted - cursor);
}

-- the state of the fields
abbrev pub state_of : Inside → State
state_of a = state_from a.env a.accepted.items a.cursor a.active.items

-- the state, and what was written
abbrev pub nemesis_of : Inside → NemesisValue
nemesis_of a = record { state = state_of a; work = work_of a.env }

-- what holds of the fields
abbrev pub IsSound : Inside → Type 0
IsSound a = IsTrueTo a.env a.accepted.items a.cursor a.active.items
