-- What `jeprun search` writes (this project's own): a comment with the number of the least
-- candidate that fails, and the settings of that candidate behind it; or a comment that says that
-- none of all fails. Comments are TOML's, so all that is written of a candidate is settings, and
-- `jeprun run` and `jeprun shrink` read it. Where one candidate is asked for, its schedule alone.
use Rattle.std.specs.Prelude.{◌≡◌, ℕ, ◌==◌, List, ◌++◌, codes, if◌then◌else◌, Option, Some, None}
use Rattle.std.specs.Prelude.{option_map}
use Rattle.std.specs.Fmt.{decimal}
use Rattle.jh_simnode.specs.Plans.{PlanValue}
use Rattle.jh_search.specs.Candidates.{candidate_of}
use Rattle.jh_search.specs.Search.{IsSearched}
use Rattle.jh_random_faults.specs.declared.kinds.Palette.{Palette}
use Rattle.jh_search.specs.declared.options.Options.{Options}
use Rattle.jh_search.specs.declared.serial.Searched.{Searched}
use Rattle.jh_settings.specs.Keys.{IsDocument}
use Rattle.jh_settings.specs.Settings.{AreSettingsOf}
use Rattle.jh_settings.specs.declared.choices.Mode.{Mode}
use Rattle.jh_settings_texts.specs.Comments.{behind_comment}
use Rattle.jh_settings_texts.specs.DocumentWritten.{schedule_document}
use Rattle.jh_settings_texts.specs.SettingsWritten.{CanBeWritten}
use Rattle.jh_settings_texts.specs.declared.schedule.Spread.{Spread}
use Rattle.jh_cli.specs.declared.search_command.SearchQuestion.{SearchQuestion}
use Rattle.jh_cli.specs.declared.search_command.Show.{Show}

-- the options of the search that a question asks for, with these kinds of faults and this budget
abbrev pub search_options : SearchQuestion → Palette → ℕ → Options
search_options question palette budget =
    record {
      from = question.from;
      runs = question.runs;
      faults = question.faults;
      palette = palette;
      budget = budget;
    }

-- the comment before the settings of the candidate of a number, of so many that were asked for
abbrev pub candidate_comment : ℕ → ℕ → List ℕ
candidate_comment number runs =
    codes " candidate " ++ (decimal number ++ (codes " of " ++ (decimal runs ++ codes ": invalid")))

-- the line where none of so many fails, and so many are unknown
abbrev pub none_line : ℕ → ℕ → List ℕ
none_line runs unknown =
    codes "# none of " ++ (decimal runs
    ++ (codes " candidates is invalid, " ++ (decimal unknown ++ codes " unknown\n")))

-- All that is written where the candidate of a number fails, or none does. What is written of a candidate
-- means that candidate, to be run serially, and this budget.
abbrev pub IsFoundText : PlanValue → Options → Option ℕ → ℕ → List ℕ → Type 0
IsFoundText p options (Some number) unknown output =
    (document : List ℕ)
    × (output ≡ behind_comment (candidate_comment number options.runs) document)
    × AreSettingsOf output (candidate_of p options number) Mode.Serial options.budget
IsFoundText p options None unknown output = output ≡ none_line options.runs unknown

-- the exit status: 1 where one fails, 2 where none is known to and some are unknown
abbrev pub searched_status : Option ℕ → ℕ → ℕ
searched_status (Some number) unknown = 1
searched_status None unknown = if unknown == 0 then 0 else 2

-- all that is written of a search, with the exit status
abbrev pub IsSearchedText : PlanValue → Options → ℕ → List ℕ → Type 0
IsSearchedText p options status output =
    (searched : Searched) × IsSearched p options searched
    × IsFoundText p options searched.failing searched.unknown output
    × (status ≡ searched_status searched.failing searched.unknown)

-- the calls of a plan, spread over the time that is asked for, where one is
abbrev pub spread_asked : PlanValue → Option ℕ → Option Spread
spread_asked p milliseconds =
    option_map (λ time. record { calls = p.ops; milliseconds = time }) milliseconds

-- what is shown of a candidate, which is not run: a document with its schedule
abbrev pub IsShownText : PlanValue → Options → Show → List ℕ → Type 0
IsShownText p options show output =
    (let shown = candidate_of p options show.number in
    IsDocument output
    (schedule_document shown.env.names (spread_asked p show.milliseconds) shown.schedule))

-- all that is written: of the candidate that is to be shown, or else of the search
abbrev pub IsAnswerText : Option Show → PlanValue → Options → ℕ → List ℕ → Type 0
IsAnswerText None p options status output = IsSearchedText p options status output
IsAnswerText (Some show) p options status output =
    IsShownText p options show output × (status ≡ 0)

-- For an input, with the exit status: the plan and the budget are those that it means, its mode does
-- not matter, and settings can say the plan again. The question names kinds of faults.
abbrev pub IsSearchTextOf : SearchQuestion → List ℕ → ℕ → List ℕ → Type 0
IsSearchTextOf question input status output =
    (palette : Palette) × (p : PlanValue) × (mode : Mode) × (budget : ℕ)
    × (question.palette ≡ Some palette) × AreSettingsOf input p mode budget × CanBeWritten p
    × IsAnswerText question.show p (search_options question palette budget) status output
