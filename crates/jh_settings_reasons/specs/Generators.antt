-- Why the value of a generator is refused, as a line says it (this project's own).
use Rattle.std.specs.Prelude.{◌++◌, List, [], ◌∷◌, codes, ℕ}
use Rattle.std.specs.Fmt.{decimal}
use Rattle.jh_gen.specs.declared.bad_parts.FormStep.{FormStep}
use Rattle.jh_settings.specs.declared.keys.Key.{Key}

-- a step, as `[:mix] 2`
abbrev pub form_step_text : FormStep → List ℕ
form_step_text step = codes "[:" ++ (step.form.now ++ (codes "] " ++ decimal step.place))

-- what stands behind a step: a comma where there are later ones, or else the colon that ends the way
abbrev pub behind_step : List FormStep → List ℕ
behind_step [] = codes ": "
behind_step (step ∷ way) = codes ", "

-- a way, as `[:mix] 2, [:limit] 1: `
abbrev pub way_text : List FormStep → List ℕ
way_text [] = []
way_text (step ∷ way) = form_step_text step ++ (behind_step way ++ way_text way)

-- what is said of a generator that does not suit the settings beside it
abbrev pub unsuited_text : Key → List ℕ
unsuited_text Key.Final =
    codes "does not suit the workload or the number of clients, or keys are independent"
unsuited_text _ = codes "does not suit the workload or the number of clients"
