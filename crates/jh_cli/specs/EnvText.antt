-- What `jeprun env` writes (this project's own): a line with the answer to each step, a line with
-- the ids of the active faults, and a line with the environment.
use Rattle.std.specs.Prelude.{◌≡◌, ℕ, List, [], ◌∷◌, ◌++◌, map, codes, Ok}
use Rattle.std.specs.List.{flat_map}
use Rattle.jh_edn.specs.Edn.{Edn}
use Rattle.jh_env.specs.Overlay.{EnvValue, StandsFor}
use Rattle.jh_env.specs.TextCells.{SpellsEnv}
use Rattle.jh_histories.specs.Histories.{AreValuesOf}
use Rattle.jh_nemesis.specs.State.{State, first_state}
use Rattle.jh_nemesis.specs.Steps.{answers_of, state_after_all}
use Rattle.jh_step_texts.specs.StepText.{parsed_step}
use Rattle.jh_nemesis.specs.declared.steps.Step.{Step}
use Rattle.jh_nemesis.specs.declared.steps.StepAnswer.{StepAnswer}
use Rattle.jh_reports.specs.Lines.{IsEnvOf, active_line, environment_line, line}

abbrev pub answer_keyword : StepAnswer → List ℕ
answer_keyword StepAnswer.Ok = codes ":ok"
answer_keyword StepAnswer.IdTaken = codes ":id-taken"
answer_keyword StepAnswer.TooManyActive = codes ":too-many-active"
answer_keyword StepAnswer.TooManySteps = codes ":too-many-steps"
answer_keyword StepAnswer.NotActive = codes ":not-active"
answer_keyword StepAnswer.NothingActive = codes ":nothing-active"
answer_keyword StepAnswer.NothingToUndo = codes ":nothing-to-undo"
answer_keyword StepAnswer.NothingToRedo = codes ":nothing-to-redo"

-- a line for each answer
abbrev pub answer_lines : List StepAnswer → List ℕ
answer_lines answers = flat_map (λ answer. line (answer_keyword answer)) answers

-- these values mean an environment at its start, and then these steps over its nodes
pub record IsEnvWithSteps (values : List Edn) (env : EnvValue) (steps : List Step) : Type 0 where
  pub first : Edn
  pub others : List Edn
  pub parts : values ≡ first ∷ others
  pub environment : SpellsEnv first env.names env.start
  pub at_start : StandsFor env []
  pub steps_parsed : map (parsed_step env.names) others ≡ map Ok steps

-- what is written for these steps, from this state
abbrev pub IsEnvReport : State → List Step → List ℕ → Type 0
IsEnvReport first steps output =
    let last = state_after_all first steps in
    (env : EnvValue) × IsEnvOf last env
    × (output ≡ answer_lines (answers_of first steps)
    ++ (active_line last.active ++ environment_line env))

-- what is written for these values
abbrev pub IsEnvText : List Edn → List ℕ → Type 0
IsEnvText values output =
    (env : EnvValue) × (steps : List Step) × IsEnvWithSteps values env steps
    × IsEnvReport (first_state env) steps output

-- what is written for an input, which is UTF-8, with the exit status: its values are those that it spells
abbrev pub IsEnvTextOf : List ℕ → ℕ → List ℕ → Type 0
IsEnvTextOf input status output =
    (values : List Edn) × AreValuesOf values input × IsEnvText values output × (status ≡ 0)
