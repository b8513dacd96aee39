-- What comes of the candidates of a search, and what a search finds (this project's own).
use Rattle.std.specs.Prelude.{◌≡◌, ◌≢◌, ◌⊎◌, ℕ, ◌+◌, ◌<◌, List, length}
use Rattle.std.specs.Prelude.{slice_index_or, Option, Some, None}
use Rattle.std.specs.List.{All, count_by}
use Rattle.jh_check.specs.Verdicts.{is_unknown}
use Rattle.jh_check.specs.declared.verdict.Verdict.{Verdict}
use Rattle.jh_check.specs.declared.verdict.Verdict.TheVariants.{False, Unknown}
use Rattle.jh_judged_runs.specs.JudgedRuns.{IsRunVerdict}
use Rattle.jh_simnode.specs.declared.serial.RunError.TheVariants as RunError
use Rattle.jh_simnode.specs.Plans.{PlanValue}
use Rattle.jh_simnode.specs.Runs.{Stops}
use Rattle.jh_search.specs.declared.options.Options.{Options}
use Rattle.jh_search.specs.declared.serial.Searched.{Searched}
use Rattle.jh_search.specs.Candidates.{candidate_of}

-- ---- what comes of a plan

-- The verdict on its serial run, by a judge of this budget. A run that is stuck, for in a whole
-- round no thread got a call, is unknown.
abbrev pub IsPlanVerdict : PlanValue → ℕ → Verdict → Type 0
IsPlanVerdict p budget verdict =
    IsRunVerdict p budget verdict ⊎ (Stops p RunError.Stuck × (verdict ≡ Unknown))

-- ---- what is found

-- what comes of the candidate of this number
abbrev pub ComesOf : PlanValue → Options → ℕ → Verdict → Type 0
ComesOf p options number verdict =
    IsPlanVerdict (candidate_of p options number) options.budget verdict

-- what comes of the candidates from this number on, one after another
abbrev pub ArePlanVerdicts : PlanValue → Options → ℕ → List Verdict → Type 0
ArePlanVerdicts p options from verdicts =
    (index : ℕ) (d : Verdict) → index < length verdicts
    → ComesOf p options (from + index) (slice_index_or verdicts index d)

-- these are the candidates that were tried: none of them fails, and so many are unknown
pub record AreTriedSoFar (p : PlanValue) (options : Options) (verdicts : List Verdict)
    (unknown : ℕ) : Type 0 where
  pub come : ArePlanVerdicts p options options.from verdicts
  pub none_fails : All (λ verdict. verdict ≢ False) verdicts
  pub counted : unknown ≡ count_by is_unknown verdicts

-- the number of the first that fails, where one does
abbrev pub IsFirstFailing : PlanValue → Options → List Verdict → Option ℕ → Type 0
IsFirstFailing p options verdicts None = length verdicts ≡ options.runs
IsFirstFailing p options verdicts (Some number) =
    (number ≡ options.from + length verdicts) × (length verdicts < options.runs)
    × ComesOf p options number False

-- what a search finds: of all candidates asked for the least that fails, and how many below it are
-- unknown; or that none fails, and how many are unknown
abbrev pub IsSearched : PlanValue → Options → Searched → Type 0
IsSearched p options searched =
    (verdicts : List Verdict) × AreTriedSoFar p options verdicts searched.unknown
    × IsFirstFailing p options verdicts searched.failing
