-- What comes of a trial (this project's own): its conversation is held, and it is judged where it came to
-- its end with no bad line; else its report is written, as `jeprun drive` writes it, if it had begun.
use Rattle.std.specs.Prelude.{◌≡◌, ◌++◌, ℕ, Bool, true, false, List, [], Option, None, Err, is_some}
use Rattle.std.specs.Io.KnownBytes.{Appends, Consumes}
use Rattle.jh_checkers.specs.declared.finding.Judging.{Judging}
use Rattle.jh_conversation.specs.Text.{recorded_history}
use Rattle.jh_drive.specs.Drive.{IsNotJudged, IsReportOf, drive_answer}
use Rattle.jh_drive.specs.declared.error.DriveError.{DriveError}
use Rattle.jh_drive.specs.declared.error.DriveError.TheVariants.{Mismatch, Write, OutOfMemory}
use Rattle.jh_lines.specs.Endings.{IsConversation}
use Rattle.jh_lines.specs.Events.{TalkEvent, heard_in, told_in}
use Rattle.jh_lines.specs.Lines.{rest_from}
use Rattle.jh_lines.specs.declared.ending.Ending.{Ending}
use Rattle.jh_lines.specs.declared.ending.Ending.TheVariants as Endings
use Rattle.jh_ops.specs.Operation.{Operation}
use Rattle.jh_reports.specs.Judged.{IsTextBy}
use Rattle.jh_trials.specs.Trials.{TrialValue, trial_opening, trial_after, trial_answer, is_trial_over}
use Rattle.jh_trials.specs.Trials.{trial_bad, has_begun}

-- the history of its test
abbrev pub trial_history : TrialValue → List Operation
trial_history v = recorded_history v.conversation.test v.conversation.machine

-- its keys are independent, and each has its own verdict
abbrev pub has_keys : TrialValue → Bool
has_keys v = is_some v.conversation.test.keys

-- These events are its conversation, which ended so and left it so; one that is over took nothing behind
-- the line that ended it.
pub record IsTalked (first last : TrialValue) (past : List TalkEvent) (ending : Ending) : Type 0 where
  pub talk : IsConversation trial_opening trial_after trial_answer is_trial_over first past last ending
  pub by_lines : ending ≡ Endings.Over → rest_from [] (heard_in past) ≡ []

-- It came to its end, each line was a reply, and this is found in its history.
pub record IsJudgedAs (judging : Judging) (first last : TrialValue) (past : List TalkEvent) (status : ℕ)
    (line : List ℕ) : Type 0 where
  pub ending : Ending
  pub talked : IsTalked first last past ending
  pub over : is_trial_over last ≡ true
  pub good : trial_bad last ≡ None
  pub judged : IsTextBy (has_keys last) judging (trial_history last) status line

-- what is written of a trial that did not come to its end: its report, if it had begun
abbrev pub IsReportIf : Judging → TrialValue → Bool → List ℕ → Type 0
IsReportIf judging last true report = (status : ℕ) × IsReportOf judging last.conversation status report
IsReportIf judging last false report = report ≡ []

module _ (judging : Judging) (first last : TrialValue) (input rest before after : Option (List ℕ)) where
  -- It was judged so, and nothing but its conversation was written.
  abbrev pub IsJudged : ℕ → List ℕ → Type 0
  IsJudged status line =
      (past : List TalkEvent) × IsJudgedAs judging first last past status line
      × Consumes input rest (heard_in past) × Appends before after (told_in past)

  -- It did not come to its end, or a line was no reply: its report is written, if it had begun.
  pub record IsBroken (error : DriveError) : Type 0 where
    pub past : List TalkEvent
    pub ending : Ending
    pub talked : IsTalked first last past ending
    pub heard : Consumes input rest (heard_in past)
    pub report : List ℕ
    pub is_report : IsReportIf judging last (has_begun last) report
    pub written : Appends before after (told_in past ++ report)
    pub answer : drive_answer (trial_bad last) (is_trial_over last) ending 0 ≡ Err error

  -- its history can't be judged
  pub record IsUnjudged : Type 0 where
    pub past : List TalkEvent
    pub ending : Ending
    pub talked : IsTalked first last past ending
    pub heard : Consumes input rest (heard_in past)
    pub not_judged : IsNotJudged (has_keys last) judging (trial_history last)

  -- why it is not judged: memory was refused, or the output could not be written, or the history can't be
  -- judged, or it did not come to its end
  abbrev pub FailsTrial : DriveError → Type 0
  FailsTrial Write = Unit {0}
  FailsTrial OutOfMemory = Unit {0}
  FailsTrial Mismatch = IsUnjudged
  FailsTrial error = IsBroken error
