-- Why `jeprun env` refuses an input (this project's own): what is no text of values, no
-- environment, or an element that is no step, the first one. Each is looked at only where all
-- before it is right.
use Rattle.std.specs.Prelude.{◌≡◌, ℕ, ◌+◌, List, [], ◌∷◌, ◌++◌, length, map, Ok, Err}
use Rattle.jh_edn.specs.Edn.{Edn}
use Rattle.jh_edn.specs.Refused as edn
use Rattle.jh_env.specs.Cells.{Table}
use Rattle.jh_env.specs.TextCells.{SpellsEnv}
use Rattle.jh_env.specs.TextErrors as env
use Rattle.jh_histories.specs.Histories.{AreValuesOf}
use Rattle.jh_step_texts.specs.StepText.{parsed_step}
use Rattle.jh_nemesis.specs.declared.steps.Step.{Step}
use Rattle.jh_step_texts.specs.declared.steps.StepTextError.{StepTextError}
use Rattle.jh_cli.specs.EnvText.{IsEnvTextOf}
use Rattle.jh_cli.specs.Status.{IsInputError, IsEnvironmentError}
use Rattle.jh_cli.specs.declared.error.CliError.{CliError}
use Rattle.jh_cli.specs.declared.error.CliError.TheVariants.{Input, EnvironmentMissing, Environment}
use Rattle.jh_cli.specs.declared.error.CliError.TheVariants.{Element, Read, Write, OutOfMemory}

-- the number of the first step among the elements, which count from 1
abbrev pub first_step : ℕ
first_step = 2

-- The element of this number, which stands among steps, is the first that means none, and this is its
-- error.
pub record HasStepError (names : List (List ℕ)) (values : List Edn) (number : ℕ)
    (error : StepTextError) : Type 0 where
  pub before : List Edn
  pub value : Edn
  pub after : List Edn
  pub parts : values ≡ before ++ (value ∷ after)
  pub steps : List Step
  pub parsed : map (parsed_step names) before ≡ map Ok steps
  pub in_error : parsed_step names value ≡ Err error
  pub number_is : number ≡ length before + first_step

-- why the values after the environment are refused
abbrev pub RefusesSteps : List (List ℕ) → List Edn → CliError → Type 0
RefusesSteps names values (Element number error) = HasStepError names values number error
RefusesSteps names values OutOfMemory = Unit {0}
RefusesSteps names values _ = ⊥

-- Why values are refused. Out of memory has a name of its own, wherever it came.
abbrev pub RefusesEnvValues : List Edn → CliError → Type 0
RefusesEnvValues values EnvironmentMissing = values ≡ []
RefusesEnvValues values (Environment error) =
    IsEnvironmentError error
    × ((first : Edn) × (others : List Edn) × (values ≡ first ∷ others)
    × env.RefusesSpelledEnv first error)
RefusesEnvValues values (Element number error) =
    (first : Edn) × (others : List Edn) × (names : List (List ℕ)) × (start : Table)
    × (values ≡ first ∷ others)
    × SpellsEnv first names start × HasStepError names others number error
RefusesEnvValues values OutOfMemory = Unit {0}
RefusesEnvValues values _ = ⊥

-- Why an input is refused: for the first error of its text, or for the values that it spells. A
-- failed read and out of memory have names of their own and may come with any input; a failed
-- write comes only where there is something to write.
abbrev pub RefusesEnv : List ℕ → CliError → Type 0
RefusesEnv input (Input error) =
    IsInputError error × edn.RefusesText input error × edn.IsFirstIfInText input error
RefusesEnv input Read = Unit {0}
RefusesEnv input Write = (status : ℕ) × (output : List ℕ) × IsEnvTextOf input status output
RefusesEnv input OutOfMemory = Unit {0}
RefusesEnv input e = (values : List Edn) × AreValuesOf values input × RefusesEnvValues values e
