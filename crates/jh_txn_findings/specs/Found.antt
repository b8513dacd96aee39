-- What the steps of a finding have of a history: the values of their numbers. This project's own.
use Rattle.std.specs.Prelude.{◌≡◌, ◌<◌, ℕ, List, Some, option_map, slice_get}
use Rattle.std.specs.List.{All, AllZip}
use Rattle.jh_edn.specs.Edn.{Edn}
use Rattle.jh_edn.specs.View.{view}
use Rattle.jh_edn.specs.declared.value.Value.{Value}
use Rattle.jh_txn.specs.declared.dependency.Step.{Step}
use Rattle.jh_txn.specs.declared.dependency.Why.{Why}
use Rattle.jh_txn.specs.declared.dependency.Why.TheVariants as numbered
use Rattle.jh_txn_findings.specs.declared.finding.FoundStep.{FoundStep}
use Rattle.jh_txn_findings.specs.declared.finding.FoundWhy.{FoundWhy}
use Rattle.jh_txn_findings.specs.declared.finding.FoundWhy.TheVariants as found

-- The key and the element of a reason have numbers.
abbrev pub IsWhyNumbered : ℕ → ℕ → Why → Type 0
IsWhyNumbered keys elements (numbered.WriteRead key element) = (key < keys) × (element < elements)
IsWhyNumbered keys elements (numbered.WriteWrite key element) = (key < keys) × (element < elements)
IsWhyNumbered keys elements (numbered.FirstCommitter key element) =
    (key < keys) × (element < elements)
IsWhyNumbered keys elements (numbered.ReadWrite key element) = (key < keys) × (element < elements)
IsWhyNumbered keys elements numbered.RealTime = Unit {0}

-- The keys and the elements of steps have numbers.
abbrev pub AreStepsNumbered : ℕ → ℕ → List Step → Type 0
AreStepsNumbered keys elements steps = All (λ step. IsWhyNumbered keys elements step.why) steps

-- the value has this number
abbrev pub IsValueOf : List (ℕ × Edn) → ℕ → Value → Type 0
IsValueOf values number value = option_map (λ one. one.1) (slice_get values number) ≡ Some (view value)

-- the same reason, with the values of its numbers
abbrev pub IsFoundWhy : List (ℕ × Edn) → List (ℕ × Edn) → Why → FoundWhy → Type 0
IsFoundWhy keys elements (numbered.WriteRead key element) (found.WriteRead its_key its_element) =
    IsValueOf keys key its_key × IsValueOf elements element its_element
IsFoundWhy keys elements (numbered.WriteWrite key element) (found.WriteWrite its_key its_element) =
    IsValueOf keys key its_key × IsValueOf elements element its_element
IsFoundWhy keys elements (numbered.FirstCommitter key element)
    (found.FirstCommitter its_key its_element) =
    IsValueOf keys key its_key × IsValueOf elements element its_element
IsFoundWhy keys elements (numbered.ReadWrite key element) (found.ReadWrite its_key its_element) =
    IsValueOf keys key its_key × IsValueOf elements element its_element
IsFoundWhy keys elements numbered.RealTime found.RealTime = Unit {0}
IsFoundWhy keys elements _ _ = ⊥

-- the same step, with the values of its numbers
abbrev pub IsFoundStep : List (ℕ × Edn) → List (ℕ × Edn) → Step → FoundStep → Type 0
IsFoundStep keys elements step found =
    (found.place ≡ step.place) × IsFoundWhy keys elements step.why found.why

-- the same steps, one after another
abbrev pub AreFoundSteps : List (ℕ × Edn) → List (ℕ × Edn) → List Step → List FoundStep → Type 0
AreFoundSteps keys elements = AllZip (IsFoundStep keys elements)
