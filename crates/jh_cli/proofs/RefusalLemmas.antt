-- Why values are refused, from why the first of them is.
use Rattle.std.proofs.Common.{◌≡◌, ◌<◌, ◌≤◌, ℕ, List, [], ◌∷◌, length, get_or, take, drop, refl, arith}
use Rattle.std.specs.Prelude.{◌-◌}
use Rattle.std.proofs.lemmas.List.{take_all}
use Rattle.jh_edn.specs.Edn.{Edn}
use Rattle.jh_edn.specs.View.{view, views}
use Rattle.jh_edn.specs.declared.value.Value.{Value}
use Rattle.jh_env.specs.TextErrors as env
use Rattle.jh_env.specs.declared.texts.EnvTextError.TheVariants as EnvTextError
use Rattle.jh_cli.specs.Status.{environment_error}
use Rattle.jh_env.specs.Cells.{Table}
use Rattle.jh_env.specs.TextCells.{SpellsEnv}
use Rattle.jh_cli.specs.EnvRefusals.{RefusesSteps, RefusesEnvValues}
use Rattle.jh_cli.specs.declared.error.CliError.{CliError}
use Rattle.jh_cli.specs.declared.error.CliError.TheVariants.{TimeMissing, Input, EnvironmentMissing, Environment, Element, History, Check, Settings, Run, HistoryFull, Mismatch, Thread, Misplaced, Missing, BadAccounts, BadPalette, Unwritable, SettingsRead, Read, Write, OutOfMemory}

-- a first value that is no environment
refuses_environment : (first : Edn) (others : List Edn) (error : EnvTextError.the_data) → env.RefusesSpelledEnv first error
    → RefusesEnvValues (first ∷ others) (environment_error error)
refuses_environment first others EnvTextError.NotMap refused = (refl, (first, others, refl, refused))
refuses_environment first others EnvTextError.UnknownKey refused = (refl, (first, others, refl, refused))
refuses_environment first others EnvTextError.MissingNodes refused = (refl, (first, others, refl, refused))
refuses_environment first others EnvTextError.BadEntry refused = (refl, (first, others, refl, refused))
refuses_environment first others EnvTextError.NoNodes refused = (refl, (first, others, refl, refused))
refuses_environment first others EnvTextError.TooManyNodes refused = (refl, (first, others, refl, refused))
refuses_environment first others EnvTextError.BadName refused = (refl, (first, others, refl, refused))
refuses_environment first others EnvTextError.DuplicateName refused = (refl, (first, others, refl, refused))
refuses_environment first others EnvTextError.UnknownNode refused = (refl, (first, others, refl, refused))
refuses_environment first others EnvTextError.SelfLink refused = (refl, (first, others, refl, refused))
refuses_environment first others EnvTextError.BadAmount refused = (refl, (first, others, refl, refused))
refuses_environment first others EnvTextError.RepeatedEntry refused = (refl, (first, others, refl, refused))
refuses_environment first others EnvTextError.OutOfMemory refused = tt

-- the first value, and the others
pub parts_of : (values : List Value) (first : Value) → 1 ≤ length values → first ≡ get_or values 0 first
    → views values ≡ view first ∷ views (take (length values - 1) (drop 1 values))
parts_of [] first some is = absurd (omega arith)
parts_of (v ∷ vs) first some is =
    let all : take (length (v ∷ vs) - 1) vs ≡ vs = take_all (length (v ∷ vs) - 1) vs (omega arith) in
    rw (all, is) refl

-- values of which the first is no environment
pub first_refused : (values : List Value) (first : Value) (error : EnvTextError.the_data) (e : CliError) → 0 < length values → first ≡ get_or values 0 first
    → env.RefusesSpelledEnv (view first) error → e ≡ environment_error error → RefusesEnvValues (views values) e
first_refused [] first error e some is refused named = absurd (omega arith)
first_refused (v ∷ vs) first error e some is refused named = rw (named, ← is) (refuses_environment (view first) (views vs) error refused)

-- values of which the first is an environment, and one of the others no step
pub others_refused : (values others : List Edn) (first : Edn) (names : List (List ℕ)) (start : Table) (e : CliError) → values ≡ first ∷ others
    → SpellsEnv first names start → RefusesSteps names others e → RefusesEnvValues values e
others_refused values others first names start (Element number error) parts text refused = (first, others, names, start, parts, text, refused)
others_refused values others first names start OutOfMemory parts text refused = tt
others_refused values others first names start (Input error) parts text refused = absurd refused
others_refused values others first names start EnvironmentMissing parts text refused = absurd refused
others_refused values others first names start (Environment error) parts text refused = absurd refused
others_refused values others first names start (History error) parts text refused = absurd refused
others_refused values others first names start (Check error) parts text refused = absurd refused
others_refused values others first names start (Settings error) parts text refused = absurd refused
others_refused values others first names start (Run error) parts text refused = absurd refused
others_refused values others first names start HistoryFull parts text refused = absurd refused
others_refused values others first names start Mismatch parts text refused = absurd refused
others_refused values others first names start Thread parts text refused = absurd refused
others_refused values others first names start (Misplaced option) parts text refused = absurd refused
others_refused values others first names start (Missing option) parts text refused = absurd refused
others_refused values others first names start BadAccounts parts text refused = absurd refused
others_refused values others first names start BadPalette parts text refused = absurd refused
others_refused values others first names start Unwritable parts text refused = absurd refused
others_refused values others first names start SettingsRead parts text refused = absurd refused
others_refused values others first names start (TimeMissing index) parts text refused = absurd refused
others_refused values others first names start Read parts text refused = absurd refused
others_refused values others first names start Write parts text refused = absurd refused
