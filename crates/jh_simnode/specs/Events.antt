-- What happens in a world, one event after another: where it stands after each, and which events
-- are due (this project's own).
use Rattle.std.specs.Prelude.{◌≡◌, ℕ, ◌+◌, ◌<◌, ◌≤◌, List, [], ◌∷◌, ◌++◌, length, replicate}
use Rattle.jh_env.specs.Cells.{Table}
use Rattle.jh_env.specs.Overlay.{EnvValue, work_of}
use Rattle.jh_nemesis.specs.State.{State, faults_in}
use Rattle.jh_nemesis.specs.Steps.{answer_of, state_after, FitsNodes}
use Rattle.jh_simnode.specs.declared.database.Database.{Database}
use Rattle.jh_simnode.specs.declared.replicas.Replica.{Replica}
use Rattle.jh_simnode.specs.declared.events.Event.{Event}
use Rattle.jh_simnode.specs.declared.events.WorldError.{WorldError}
use Rattle.jh_simnode.specs.declared.events.WorldError.TheVariants.{UnknownNode, TooManyEvents}
use Rattle.jh_simnode.specs.declared.events.WorldError.TheVariants.{OutOfMemory}
use Rattle.jh_simnode.specs.Limits.{max_events}
use Rattle.jh_simnode.specs.Replicas.{first_replica}
use Rattle.jh_simnode.specs.Reach.{EnvCells, cells_over}
use Rattle.jh_simnode.specs.Stores.{reply_to, replicas_after_tick, killed_flags}
use Rattle.jh_simnode.specs.Stores.{replicas_after_kills, version_at}

-- what a world keeps for good: the nodes, their starting cells, and the database
pub record Setup : Type 0 where
  pub names : List (List ℕ)
  pub start : Table
  pub database : Database

-- where a world stands: the number of events so far, the faults with their past and future, and the
-- replicas
pub record Moment : Type 0 where
  pub number : ℕ
  pub faults : State
  pub replicas : List Replica

-- no fault was begun so far
abbrev pub faultless_state : Setup → State
faultless_state u = record { names = u.names; start = u.start; past = []; active = []; future = [] }

-- where a world stands at first
abbrev pub opening : Setup → Moment
opening u = record {
  number = 0;
  faults = faultless_state u;
  replicas = replicate (length u.names) (first_replica u.database);
}

-- the environment: what the active faults make of the starting one
abbrev pub env_of : State → EnvCells
env_of s = cells_over s.start (faults_in s.active)

-- the faults, with their past and future, after an event
abbrev pub faults_after : State → Event → State
faults_after s (Event.Call process node request draw reply) = s
faults_after s (Event.Step step answer) = state_after s step
faults_after s Event.Tick = s

-- the replicas after an event
abbrev pub replicas_after : Setup → Moment → Event → List Replica
replicas_after u m (Event.Call process node request draw reply) =
    (reply_to u.database (env_of m.faults) m.replicas m.number node request draw).replicas
replicas_after u m (Event.Step step answer) =
    replicas_after_kills u.database (killed_flags (env_of m.faults) (length u.names))
    (env_of (state_after m.faults step))
    m.replicas
replicas_after u m Event.Tick = replicas_after_tick u.database.store (env_of m.faults) m.replicas

-- the moment after an event
abbrev pub moment_after : Setup → Moment → Event → Moment
moment_after u m e =
    record {
      number = m.number
          + 1;
      faults = faults_after m.faults e;
      replicas = replicas_after u m e;
    }

-- the moment after these events one after another
abbrev pub moment_after_all : Setup → Moment → List Event → Moment
moment_after_all u m [] = m
moment_after_all u m (e ∷ es) = moment_after_all u (moment_after u m e) es

-- the moment after a journal
abbrev pub moment_at : Setup → List Event → Moment
moment_at u journal = moment_after_all u (opening u) journal

-- the answer or the reply is the one that is due, and the nodes named are there
abbrev pub IsDue : Setup → Moment → Event → Type 0
IsDue u m (Event.Call process node request draw reply) =
    (node < length u.names)
    × (reply ≡ (reply_to u.database
    (env_of m.faults) m.replicas m.number node request draw).reply)
IsDue u m (Event.Step step answer) =
    FitsNodes (length u.names) step × (answer ≡ answer_of m.faults step)
IsDue u m Event.Tick = Unit {0}

-- each of these events is the one that is due, one after another
abbrev pub AreDue : Setup → Moment → List Event → Type 0
AreDue u m [] = Unit {0}
AreDue u m (e ∷ es) = IsDue u m e × AreDue u (moment_after u m e) es

-- each event of the journal is the one that is due at its place
abbrev pub IsLegal : Setup → List Event → Type 0
IsLegal u journal = AreDue u (opening u) journal

-- what callers see of a world: what it keeps for good, all that happened, and how often its
-- environment was written
pub record WorldValue : Type 0 where
  pub setup : Setup
  pub journal : List Event
  pub work : ℕ

-- nothing has happened in the world, over this environment, with this database
pub record IsNewWorld (env : EnvValue) (chosen : Database) (new : WorldValue) : Type 0 where
  pub journal : new.journal ≡ []
  pub names : new.setup.names ≡ env.names
  pub start : new.setup.start ≡ env.start
  pub database : new.setup.database ≡ chosen
  pub work : new.work ≡ work_of env

-- a replica for each of so many nodes, and no version above a number
pub record AreTidy (count number : ℕ) (all : List Replica) : Type 0 where
  pub sized : length all ≡ count
  pub low : (place : ℕ) → version_at all place ≤ number

-- the nemesis and the replicas of a world are those that its journal leads to
pub record IsWorldOf (u : Setup) (state : State) (all : List Replica)
    (events : List Event) : Type 0 where
  pub legal : IsLegal u events
  pub faults : state ≡ (moment_at u events).faults
  pub replicas : all ≡ (moment_at u events).replicas
  pub tidy : AreTidy (length u.names) (length events) all
  pub few : length events ≤ max_events

-- the event is the last, its number is given, and what the world keeps for good stays
pub record AddsEvent (old : WorldValue) (event : Event) (at : ℕ) (new : WorldValue) : Type 0 where
  pub number : at ≡ length old.journal
  pub setup : new.setup ≡ old.setup
  pub journal : new.journal ≡ old.journal ++ event ∷ []

-- why an event is refused; `known` says that the nodes which it names are there
abbrev pub Refuses : Type 0 → List Event → WorldError → Type 0
Refuses known journal UnknownNode = known → ⊥
Refuses known journal TooManyEvents = known × (max_events ≤ length journal)
Refuses known journal OutOfMemory = known × (length journal < max_events)
