-- Verdicts, and several of them taken together (jepsen.checker, `merge-valid`: a false one wins,
-- then an unknown one).
use Rattle.std.specs.Prelude.{Bool, true, false, List, if◌then◌else◌}
use Rattle.std.specs.List.{list_any}
use Rattle.jh_check.specs.declared.verdict.Verdict.{Verdict}
use Rattle.jh_check.specs.declared.verdict.Verdict.TheVariants.{True, Unknown, False}

abbrev pub is_false : Verdict → Bool
is_false False = true
is_false _ = false

abbrev pub is_unknown : Verdict → Bool
is_unknown Unknown = true
is_unknown _ = false

-- false over unknown over true, and of none true
abbrev pub merged_verdict : List Verdict → Verdict
merged_verdict verdicts =
    if list_any is_false verdicts then False else if list_any is_unknown verdicts then Unknown
    else True

-- the verdict of a checker that always has an answer
abbrev pub verdict_of : Bool → Verdict
verdict_of valid = if valid then True else False
