-- Why the steps of a journal are not applied once more (this project's own).
use Rattle.std.specs.Prelude.{ℕ, List, All, ⊤}
use Rattle.jh_nemesis.specs.Steps.{FitsNodes}
use Rattle.jh_simnode.specs.declared.events.Event.{Event}
use Rattle.jh_simnode.specs.declared.events.WorldError.{WorldError}
use Rattle.jh_simnode.specs.declared.events.WorldError.TheVariants.{UnknownNode, TooManyEvents}
use Rattle.jh_simnode.specs.declared.events.WorldError.TheVariants.{OutOfMemory}

-- each node that an event's fault names is one of so many
abbrev pub FitsEvent : ℕ → Event → Type 0
FitsEvent count (Event.Call process node request draw reply) = ⊤
FitsEvent count (Event.Step step answer) = FitsNodes count step
FitsEvent count Event.Tick = ⊤

-- an event names an unknown node, or memory was refused
abbrev pub RefusesEvent : ℕ → Event → WorldError → Type 0
RefusesEvent count event UnknownNode = FitsEvent count event → ⊥
RefusesEvent count event TooManyEvents = ⊥
RefusesEvent count event OutOfMemory = ⊤

-- so does some event of a journal
abbrev pub RefusesReplay : ℕ → List Event → WorldError → Type 0
RefusesReplay count journal UnknownNode = All (FitsEvent count) journal → ⊥
RefusesReplay count journal TooManyEvents = ⊥
RefusesReplay count journal OutOfMemory = ⊤
