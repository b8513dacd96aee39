-- The same settings give the same serial run (this project's own).
use Rattle.std.specs.Prelude.{◌≡◌, ℕ, List}
use Rattle.jh_ops.specs.Operation.{Operation}
use Rattle.jh_settings.specs.Settings.{AreSettingsOf}
use Rattle.jh_settings.specs.declared.choices.Mode.{Mode}
use Rattle.jh_simnode.specs.declared.events.Event.{Event}
use Rattle.jh_simnode.specs.Plans.{PlanValue}
use Rattle.jh_simnode.specs.Runs.{IsSerialRun}

-- Bytes mean one mode and one budget, and whatever plan is made of them, its serial run has one
-- journal and one history.
abbrev pub SameSettingsGiveSameRun : Type 0
SameSettingsGiveSameRun =
    (bytes : List ℕ) (p q : PlanValue) (mode other : Mode) (budget another : ℕ) (ja jb : List Event)
    (ha hb : List Operation)
    → AreSettingsOf bytes p mode budget → AreSettingsOf bytes q other another → IsSerialRun p ja ha
    → IsSerialRun q jb hb
    → (mode ≡ other) × (budget ≡ another) × (ja ≡ jb) × (ha ≡ hb)
