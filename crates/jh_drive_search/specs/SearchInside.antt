-- What the parts of the code say to each other; `DriveSearch` has the rule. This project's own.
use Rattle.std.specs.Prelude.{◌≡◌, ◌<◌, ℕ, List, ◌∷◌, length, Option}
use Rattle.std.specs.Io.KnownBytes.{Appends, Consumes}
use Rattle.jh_checkers.specs.declared.finding.Judging.{Judging}
use Rattle.jh_test_parts.specs.Test.{TestValue}
use Rattle.jh_trials.specs.Held.{IsJudgedAs}
use Rattle.jh_trials.specs.Trials.{TrialValue}
use Rattle.jh_drive_search.specs.declared.options.TrialOptions.{TrialOptions}
use Rattle.jh_drive_search.specs.declared.searching.Searched.{Searched}
use Rattle.jh_drive_search.specs.declared.searching.Searched.TheVariants.{Failing, None}
use Rattle.jh_drive_search.specs.DriveSearch.{Tried, AreTried, IsNext, heard_in_all, number_behind, read_in}
use Rattle.jh_drive_search.specs.DriveSearch.{told_in_all, unknown_in}

module _ (t : TestValue) (judging : Judging) (options : TrialOptions)
    (input rest before after : Option (List ℕ)) where
  -- so many were tried, none fails, of so many the verdict is unknown, and so many lines were read
  pub record HaveBeenTried (count unknown read : ℕ) : Type 0 where
    pub trials : List Tried
    pub tried : AreTried t judging options trials
    pub so_many : length trials ≡ count
    pub counted : unknown ≡ unknown_in trials
    pub lines : read ≡ read_in trials
    pub heard : Consumes input rest (heard_in_all trials)
    pub told : Appends before after (told_in_all trials)

  -- the trial of the candidate of this number, left so, fails with this last line, and none before it
  pub record IsFailing (number : ℕ) (last : TrialValue) (line : List ℕ) : Type 0 where
    pub earlier : List Tried
    pub found : Tried
    pub not_before : AreTried t judging options earlier
    pub within : length earlier < options.runs
    pub is_number : number ≡ number_behind t judging options earlier
    pub next : IsNext t judging options earlier found.first
    pub left : found.last ≡ last
    pub fails : found.status ≡ 1
    pub judged : IsJudgedAs judging found.first found.last found.past found.status line
    pub heard : Consumes input rest (heard_in_all (found ∷ earlier))
    pub told : Appends before after (told_in_all (found ∷ earlier))

  abbrev pub HasEnded : Searched → Type 0
  HasEnded (Failing number trial judged) = (judged.status ≡ 1) × IsFailing number trial judged.text.items
  HasEnded (None unknown) = (read : ℕ) × HaveBeenTried options.runs unknown read
