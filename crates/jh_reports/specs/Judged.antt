-- The line of what a checker finds in a history, or in that of each of its keys, with the exit status of
-- its verdict (this project's own; what is found is what Jepsen's checkers find, as `jh_checkers` has
-- them, and jepsen.independent).
use Rattle.std.specs.Prelude.{◌≡◌, ℕ, Bool, true, false, List}
use Rattle.jh_check.specs.declared.error.CheckError.{CheckError}
use Rattle.jh_check.specs.declared.error.CheckError.TheVariants as CheckErrors
use Rattle.jh_checkers.specs.Findings.{IsFinding, RefusesChecking, finding_verdict}
use Rattle.jh_checkers.specs.Lines.{finding_line}
use Rattle.jh_checkers.specs.declared.checker.Checker.{Checker}
use Rattle.jh_checkers.specs.declared.finding.Finding.{Finding}
use Rattle.jh_checkers.specs.declared.finding.Judging.{Judging}
use Rattle.jh_independent.specs.Lines.{keys_line, verdict_of_all}
use Rattle.jh_independent.specs.Refusals.{AreFindings, keys_question}
use Rattle.jh_independent.specs.declared.serial.KeyFinding.{KeyFinding}
use Rattle.jh_ops.specs.Operation.{Operation}
use Rattle.jh_reports.specs.Lines.{line}
use Rattle.jh_reports.specs.Reports.{verdict_status}

-- For a history as one. More than one may be right: of a register and a mutex any order may be given,
-- and of transactions also any of what excludes all orders.
abbrev pub IsWholeText : Judging → List Operation → ℕ → List ℕ → Type 0
IsWholeText judging history status output =
    (finding : Finding) × IsFinding judging history finding
    × (status ≡ verdict_status (finding_verdict finding)) × (output ≡ line (finding_line finding))

-- for the history of each of its keys
abbrev pub IsKeysText : Judging → List Operation → ℕ → List ℕ → Type 0
IsKeysText judging history status output =
    (found : List KeyFinding) × AreFindings (keys_question judging history) found
    × (status ≡ verdict_status (verdict_of_all found)) × (output ≡ line (keys_line found))

-- by keys, if they are independent, or as one
abbrev pub IsTextBy : Bool → Judging → List Operation → ℕ → List ℕ → Type 0
IsTextBy true judging history status output = IsKeysText judging history status output
IsTextBy false judging history status output = IsWholeText judging history status output

-- why no line is made of a history, judged as one: its checker refuses it, or memory runs out
abbrev pub RefusesLine : Checker → List Operation → CheckError → Type 0
RefusesLine checker history CheckErrors.OutOfMemory = Unit {0}
RefusesLine checker history error = RefusesChecking checker history error
