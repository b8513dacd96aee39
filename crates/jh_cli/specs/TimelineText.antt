-- What `jeprun timeline` writes: a page that shows a history, with what its checker finds in it
-- (this project's own).
use Rattle.std.specs.Prelude.{◌≡◌, ℕ, Bool, true, false, List, [], ◌∷◌, IsSomeAnd, Option}
use Rattle.std.specs.Prelude.{Some, None}
use Rattle.jh_edn.specs.Edn.{Edn}
use Rattle.jh_checkers.specs.Findings.{IsFinding, finding_verdict}
use Rattle.jh_checkers.specs.declared.finding.Finding.{Finding}
use Rattle.jh_checkers.specs.Lines.{finding_line}
use Rattle.jh_independent.specs.Lines.{keys_line, verdict_of_all}
use Rattle.jh_independent.specs.Refusals.{AreFindings, keys_question}
use Rattle.jh_checkers.specs.declared.finding.Judging.{Judging}
use Rattle.jh_independent.specs.declared.serial.KeyFinding.{KeyFinding}
use Rattle.jh_ops.specs.Operation.{Operation}
use Rattle.jh_timeline_pages.specs.Page.{page_text}
use Rattle.jh_timeline_pages.specs.declared.section.Section.{Section}
use Rattle.jh_timeline_pages.specs.declared.top.Top.{Top}
use Rattle.jh_timeline_sections.specs.KeySections.{AreSectionsOf}
use Rattle.jh_cli.specs.HistoryInput.{IsHistoryInput}
use Rattle.jh_timeline_sections.specs.SaidVerdicts.{said_verdict}
use Rattle.jh_timeline_sections.specs.Sections.{IsSectionOf}
use Rattle.jh_timeline_sections.specs.Titles.{history_title, keys_title}
use Rattle.jh_timeline_sections.specs.declared.window.Choice.{Choice}
use Rattle.jh_cli.specs.Notices.{notice_of}
use Rattle.jh_reports.specs.Reports.{verdict_status}
use Rattle.jh_cli.specs.declared.timeline_command.TimelineQuestion.{TimelineQuestion}

-- What is found in a history, if it is judged. More than one may be right on a register and on
-- transactions, as `check` has it.
abbrev pub IsFoundBy : Option Judging → List Operation → Option Finding → Type 0
IsFoundBy None history found = found ≡ None
IsFoundBy (Some judging) history found = IsSomeAnd found (IsFinding judging history)

-- the line of the checker, and none where nothing was judged
abbrev pub found_line : Option Finding → List ℕ
found_line None = []
found_line (Some found) = finding_line found

-- the exit status: that of the verdict, if there is one
abbrev pub found_status : Option Finding → ℕ
found_status None = 0
found_status (Some found) = verdict_status (finding_verdict found)

-- what a page shows of a history as one, in which this is found, if it is judged: a title, the line of its
-- checker, and one section, which has no heading
pub record ShowsFound
    (found : Option Finding) (choice : Choice) (steps : List Edn) (history : List Operation) (status : ℕ)
    (title line : List ℕ)
    (sections : List Section) : Type 0 where
  pub section : Section
  pub shown : IsSectionOf [] history steps found choice section
  pub alone : sections ≡ section ∷ []
  pub titled : title ≡ history_title found
  pub top : line ≡ found_line found
  pub ended : status ≡ found_status found

-- what a page shows of a history as one
abbrev pub ShowsWhole : Option Judging → Choice → List Edn → List Operation → ℕ → (title line : List ℕ)
    → List Section → Type 0
ShowsWhole judging choice steps history status title line sections =
    (found : Option Finding) × IsFoundBy judging history found
    × ShowsFound found choice steps history status title line sections

-- ---- independent keys

-- what is found of each key of a history, if they are judged
abbrev pub AreFoundBy : Option Judging → List Operation → Option (List KeyFinding) → Type 0
AreFoundBy None history findings = findings ≡ None
AreFoundBy (Some judging) history findings =
    IsSomeAnd findings (AreFindings (keys_question judging history))

-- the line of the checker on all keys, and none where nothing was judged
abbrev pub keys_line_of : Option (List KeyFinding) → List ℕ
keys_line_of None = []
keys_line_of (Some findings) = keys_line findings

-- the exit status: that of the verdict on all keys, if there is one
abbrev pub keys_status_of : Option (List KeyFinding) → ℕ
keys_status_of None = 0
keys_status_of (Some findings) = verdict_status (verdict_of_all findings)

-- what a page shows of a history of independent keys: a title, the line of the checker, and a
-- section for each key
pub record ShowsKeys
    (judging : Option Judging) (choice : Choice) (history : List Operation) (status : ℕ)
    (title line : List ℕ)
    (sections : List Section) : Type 0 where
  pub findings : Option (List KeyFinding)
  pub judged : AreFoundBy judging history findings
  pub shown : AreSectionsOf history choice findings sections
  pub titled : title ≡ keys_title findings
  pub top : line ≡ keys_line_of findings
  pub ended : status ≡ keys_status_of findings

-- ---- the page

-- by keys, if they are independent, or as one
abbrev pub ShowsBy : Bool → TimelineQuestion → List Edn → List Operation → ℕ → (title line : List ℕ) → List Section → Type 0
ShowsBy true question steps history status title line sections =
    ShowsKeys question.judging question.choice history status title line sections
ShowsBy false question steps history status title line sections =
    ShowsWhole question.judging question.choice steps history status title line sections

abbrev pub Shows : TimelineQuestion → List Edn → List Operation → ℕ → (title line : List ℕ) → List Section → Type 0
Shows question steps history status title line sections =
    ShowsBy question.independent question steps history status title line sections

-- the page of a history, with a text below; and a notice where that text says another verdict
abbrev pub IsPage : TimelineQuestion → List Edn → List Operation → List ℕ → ℕ → List ℕ → Type 0
IsPage question steps history below status output =
    (top : Top) × (sections : List Section)
    × Shows question steps history status top.title.items top.line.items sections
    × (top.notice.items ≡ notice_of question.judging status (said_verdict below))
    × (output ≡ page_text top sections below)

-- for an input, with the exit status: the page of the history in it, whose records of the nemesis are named
-- by these steps of a schedule, and below it what else the input has
abbrev pub IsTimelineTextOf : TimelineQuestion → List Edn → List ℕ → ℕ → List ℕ → Type 0
IsTimelineTextOf question steps input status output =
    (history : List Operation) × (below : List ℕ) × IsHistoryInput question.skips_unread input history below
    × IsPage question steps history below status output
