-- The steps of the schedule that settings have, as texts (this project's own).
use Rattle.std.specs.Prelude.{◌≡◌, ℕ, List, map}
use Rattle.jh_edn.specs.Edn.{Edn}
use Rattle.jh_settings.specs.Settings.{AreSettingsOf}
use Rattle.jh_settings.specs.declared.choices.Mode.{Mode}
use Rattle.jh_simnode.specs.Plans.{PlanValue}
use Rattle.jh_simnode.specs.declared.schedule.Entry.{Entry}
use Rattle.jh_step_texts.specs.StepWritten.{edn_of_step}

-- the texts of the steps of entries, over nodes with these names
abbrev pub step_texts : List (List ℕ) → List Entry → List Edn
step_texts names entries = map (λ entry. edn_of_step names entry.step) entries

-- The settings that bytes spell mean a run whose schedule has these steps.
abbrev pub AreStepsIn : List ℕ → List Edn → Type 0
AreStepsIn bytes steps =
    (plan : PlanValue) × (mode : Mode) × (budget : ℕ) × AreSettingsOf bytes plan mode budget
    × (steps ≡ step_texts plan.env.names plan.schedule)
