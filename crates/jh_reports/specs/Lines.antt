-- Lines that several commands write (this project's own): the ids of the active faults, and the
-- environment that they make.
use Rattle.std.specs.Prelude.{◌≡◌, ℕ, pos, List, ◌++◌, map, codes}
use Rattle.jh_edn.specs.Edn.{Edn, int}
use Rattle.jh_edn.specs.Parts.{vector_of}
use Rattle.jh_edn.specs.Print.{print}
use Rattle.jh_env.specs.Overlay.{EnvValue, StandsFor}
use Rattle.jh_env.specs.TextWritten.{edn_of_env}
use Rattle.jh_nemesis.specs.State.{State, Active, faults_in}

-- a text with its line feed
abbrev pub line : List ℕ → List ℕ
line text = text ++ codes "\n"

-- the ids of the active faults, in order, as a vector
abbrev pub ids_of : Active → Edn
ids_of active = vector_of (map (λ fault. int (pos fault.0)) active)

-- the line of the ids, with its line feed; jh_histories ends a history at its first word
abbrev pub active_line : Active → List ℕ
active_line active = line (codes ":active " ++ print (ids_of active))

abbrev pub environment_line : EnvValue → List ℕ
environment_line env = line (print (edn_of_env env))

-- the environment is what the active faults of the state make of its start
pub record IsEnvOf (state : State) (env : EnvValue) : Type 0 where
  pub names : env.names ≡ state.names
  pub start : env.start ≡ state.start
  pub overlay : StandsFor env (faults_in state.active)
