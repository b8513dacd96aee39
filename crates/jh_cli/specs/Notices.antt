-- What a page says where the verdict in its input, as `run` and `drive` print it, is another than its
-- own (this project's own).
use Rattle.std.specs.Prelude.{ℕ, ◌==◌, List, [], ◌++◌, codes, if◌then◌else◌, Option, Some}
use Rattle.jh_check.specs.declared.verdict.Verdict.{Verdict}
use Rattle.jh_checkers.specs.declared.finding.Judging.{Judging}
use Rattle.jh_reports.specs.Reports.{verdict_status}

-- a verdict as the line of a checker has it
abbrev pub written_verdict : Verdict → List ℕ
written_verdict Verdict.True = codes "true"
written_verdict Verdict.False = codes "false"
written_verdict Verdict.Unknown = codes ":unknown"

-- the input says this verdict, and the page says another one
abbrev pub differing_text : Verdict → List ℕ
differing_text said =
    codes "The input says {:valid? " ++ (written_verdict said
    ++ codes "}, and this page judged it otherwise: were --initial, --model and --workload those of the run?")

-- for the exit status of the page, where it judged, and the verdict in its input, if there is one
abbrev pub notice_of : Option Judging → ℕ → Option Verdict → List ℕ
notice_of (Some judging) status (Some said) =
    if verdict_status said == status then [] else differing_text said
notice_of judging status said = []
