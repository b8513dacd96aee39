-- What is known while candidates are tried (this project's own).
use Rattle.std.specs.Prelude.{◌≡◌, ℕ, ◌+◌, ◌^◌, ◌<◌, Bool, true, false, List, length}
use Rattle.std.specs.Prelude.{Result, Ok, Err, Option, Some, slice_get}
use Rattle.jh_simnode.specs.Plans.{PlanValue}
use Rattle.jh_search.specs.declared.options.Options.{Options}
use Rattle.jh_check.specs.declared.verdict.Verdict.{Verdict}
use Rattle.jh_check.specs.declared.verdict.Verdict.TheVariants.{False}
use Rattle.jh_search.specs.declared.threads.Next.{Next}
use Rattle.jh_search.specs.declared.threads.Next.TheVariants.{Found, Goes}
use Rattle.jh_search.specs.Search.{ComesOf, IsSearched, AreTriedSoFar}

-- so many candidates were tried, of which none fails and so many are unknown
abbrev pub HasTried : PlanValue → Options → ℕ → ℕ → Type 0
HasTried p options tried unknown =
    (verdicts : List Verdict) × AreTriedSoFar p options verdicts unknown
    × (length verdicts ≡ tried)

-- These are so many candidates from a number on, and what is known of each: what may come of it.
pub record AreTries (p : PlanValue) (options : Options) (from count : ℕ)
    (Comes : ℕ → Verdict → Type 0) : Type 0 where
  pub few : from + count < 2 ^ 64
  pub come : (index : ℕ) (verdict : Verdict) → ComesOf p options (from + index) verdict
      → Comes index verdict

-- behind such an answer no candidate needs to be tried: it fails, or memory ran out
abbrev pub ends_search : {E : Type 0} → Result Verdict E → Bool
ends_search (Err e) = true
ends_search (Ok False) = true
ends_search (Ok _) = false

-- none of the answers before this place is such a one
abbrev pub GoesOn : {E : Type 0} → List (Option (Result Verdict E)) → ℕ → Type 0
GoesOn {E} answers place =
    (earlier : ℕ) (answer : Result Verdict E) → earlier < place
    → slice_get answers earlier ≡ Some (Some answer) → ends_search answer ≡ false

-- after so many candidates the search is over, or it goes on
abbrev pub LeadsToNext : PlanValue → Options → ℕ → Next → Type 0
LeadsToNext p options tried (Found found) = IsSearched p options found
LeadsToNext p options tried (Goes progress) =
    HasTried p options progress.tried progress.unknown × (progress.tried ≡ tried)
