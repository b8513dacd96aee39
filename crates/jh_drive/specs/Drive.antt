-- What `jeprun drive` tells, hears and writes (this project's own): a test's conversation, all of
-- it told in time, and behind its end the report, as `run` writes one. What is told goes from
-- `jeprun drive` to the adapter; what is heard, replies, is what the adapter writes.
use Rattle.std.specs.Prelude.{◌≡◌, ◌≢◌, ◌⊎◌, ◌++◌, ℕ, ℤ, Bool, true, false, List, [], Option, Some}
use Rattle.std.specs.Prelude.{None, if◌then◌else◌, is_some, Result, Ok, Err}
use Rattle.std.specs.Io.KnownBytes.{Appends, Consumes}
use Rattle.jh_check.specs.declared.error.CheckError.{CheckError}
use Rattle.jh_check.specs.declared.error.CheckError.TheVariants as CheckErrors
use Rattle.jh_checkers.specs.Findings.{judging_by}
use Rattle.jh_checkers.specs.declared.finding.Judging.{Judging}
use Rattle.jh_conversation.specs.Conversations.{ConversationValue, IsTestBegun, answer_to_line}
use Rattle.jh_conversation.specs.Conversations.{conversation_after, is_over, opening_of}
use Rattle.jh_conversation.specs.Text.{end_line, recorded_history}
use Rattle.jh_independent.specs.Refusals.{RefusesKeys, keys_question}
use Rattle.jh_independent.specs.declared.error.KeysError.{KeysError}
use Rattle.jh_independent.specs.declared.error.KeysError.TheVariants as KeysErrors
use Rattle.jh_lines.specs.Endings.{IsConversation}
use Rattle.jh_lines.specs.Events.{TalkEvent, heard_in, told_in}
use Rattle.jh_lines.specs.declared.ending.Ending.{Ending}
use Rattle.jh_lines.specs.declared.ending.Ending.TheVariants as Endings
use Rattle.jh_ops.specs.Operation.{Operation}
use Rattle.jh_reports.specs.Judged.{IsTextBy, RefusesLine}
use Rattle.jh_reports.specs.Reports.{IsReport}
use Rattle.jh_test_parts.specs.Test.{TestValue}
use Rattle.jh_test_parts.specs.Workloads.{test_checker}
use Rattle.jh_conversation.specs.declared.callers.BadLine.{BadLine}
use Rattle.jh_drive_settings.specs.Settings.{AreDriveSettingsOf, RefusesDriveSettings}
use Rattle.jh_settings.specs.declared.error.SettingsError.{SettingsError}
use Rattle.jh_drive.specs.DriveErrors.{drive_settings_error}
use Rattle.jh_drive.specs.declared.error.DriveError.{DriveError}
use Rattle.jh_drive.specs.declared.error.DriveError.TheVariants.{Reply, RepliesEnded, Read, TooManyTurns}
use Rattle.jh_drive.specs.declared.error.DriveError.TheVariants.{Mismatch, Write, OutOfMemory}
use Rattle.jh_txn.specs.declared.model.ConsistencyModel.{ConsistencyModel}

-- The test was conducted: these events are its conversation, from its first line on, and it ended so and
-- left this conversation.
pub record IsConducted (t : TestValue) (past : List TalkEvent) (last : ConversationValue)
    (ending : Ending) : Type 0 where
  pub first : ConversationValue
  pub begun : IsTestBegun t first
  pub talk : IsConversation opening_of conversation_after answer_to_line is_over first past last ending

-- the line of the end, where the conversation did not come to it
abbrev pub end_if_missing : ConversationValue → List ℕ
end_if_missing c = if is_over c then [] else end_line

-- What is written behind a conversation: its history, what is left of the faults, and what is found, as one
-- or by keys, with the exit status of the verdict.
pub record IsReportOf (judging : Judging) (c : ConversationValue) (status : ℕ) (report : List ℕ)
    : Type 0 where
  pub last_line : List ℕ
  pub judged : IsTextBy (is_some c.test.keys) judging (recorded_history c.test c.machine) status last_line
  pub text : List ℕ
  pub is_report : IsReport c.machine.nemesis (recorded_history c.test c.machine) last_line text
  pub written : report ≡ end_if_missing c ++ text

-- why a history is not judged, as one or by keys
abbrev pub IsNotJudged : Bool → Judging → List Operation → Type 0
IsNotJudged false judging history =
    (error : CheckError) × RefusesLine judging.checker history error
    × (error ≢ CheckErrors.OutOfMemory)
IsNotJudged true judging history =
    (error : KeysError) × RefusesKeys (keys_question judging history) error
    × (error ≢ KeysErrors.OutOfMemory)

-- why a history has no last line: it is not judged, or memory was refused
abbrev pub RefusesToJudge : Bool → Judging → List Operation → DriveError → Type 0
RefusesToJudge by_keys judging history OutOfMemory = Unit {0}
RefusesToJudge by_keys judging history Mismatch = IsNotJudged by_keys judging history
RefusesToJudge by_keys judging history _ = ⊥

-- why a report is not written to its end
abbrev pub RefusesReport : Judging → ConversationValue → DriveError → Type 0
RefusesReport judging c Write = Unit {0}
RefusesReport judging c OutOfMemory = Unit {0}
RefusesReport judging c Mismatch =
    IsNotJudged (is_some c.test.keys) judging (recorded_history c.test c.machine)
RefusesReport judging c _ = ⊥

-- why what was found is not written
abbrev pub IsNotWritten : DriveError → Type 0
IsNotWritten Write = Unit {0}
IsNotWritten OutOfMemory = Unit {0}
IsNotWritten _ = ⊥

-- by what the history of a test is judged
abbrev pub judging_of : TestValue → Option ℤ → ConsistencyModel → ℕ → Judging
judging_of t initial model budget =
    record (judging_by (test_checker t.workload) budget) {
      initial = initial;
      model = Some model;
    }

-- A conversation that did not come to its end: `RepliesEnded` where its input ended. (After `Over` a test is at its
-- end.)
abbrev pub ended_early : Ending → DriveError
ended_early (Endings.ReadFailed error) = Read
ended_early (Endings.WriteFailed error) = Write
ended_early Endings.OutOfMemory = OutOfMemory
ended_early Endings.TooManyTurns = TooManyTurns
ended_early Endings.InputEnded = RepliesEnded
ended_early Endings.Over = RepliesEnded

-- The answer of a test whose report is written: the first line that was no reply is its error; else, if it came
-- to its end, the exit status of its verdict.
abbrev pub drive_answer : Option BadLine → Bool → Ending → ℕ → Result ℕ DriveError
drive_answer (Some bad) over ending status = Err (Reply bad.number bad.why)
drive_answer None true ending status = Ok status
drive_answer None false ending status = Err (ended_early ending)

module _ (t : TestValue) (judging : Judging) (input rest before after : Option (List ℕ)) where
  -- The test was conducted. `rest` is what is left of `input`; the output was `before`, and is `after` now.
  -- The report stands behind the conversation.
  pub record IsReported (result : Result ℕ DriveError) : Type 0 where
    pub past : List TalkEvent
    pub ending : Ending
    pub last : ConversationValue
    pub conducted : IsConducted t past last ending
    pub heard : Consumes input rest (heard_in past)
    pub status : ℕ
    pub report : List ℕ
    pub is_report : IsReportOf judging last status report
    pub written : Appends before after (told_in past ++ report)
    pub answer : result ≡ drive_answer last.machine.bad (is_over last) ending status

  -- Memory was refused, or the output could not be written, or the history can't be judged.
  abbrev pub FailsBy : DriveError → Type 0
  FailsBy Write = Unit {0}
  FailsBy OutOfMemory = Unit {0}
  FailsBy Mismatch =
      (past : List TalkEvent) × (ending : Ending) × (last : ConversationValue)
      × IsConducted t past last ending × Consumes input rest (heard_in past)
      × IsNotJudged (is_some last.test.keys) judging (recorded_history last.test last.machine)
  FailsBy _ = ⊥

  -- how a test ends
  abbrev pub IsAnswered : Result ℕ DriveError → Type 0
  IsAnswered result = IsReported result ⊎ ((e : DriveError) × (result ≡ Err e) × FailsBy e)

-- How the test that bytes set ends, or why these are refused.
abbrev pub IsDriven : List ℕ → (input rest before after : Option (List ℕ)) → Result ℕ DriveError
    → Type 0
IsDriven bytes input rest before after result =
    ((error : SettingsError) × RefusesDriveSettings bytes error × (result ≡ Err (drive_settings_error error)))
    ⊎ ((t : TestValue) × (initial : Option ℤ) × (model : ConsistencyModel) × (budget : ℕ)
    × AreDriveSettingsOf bytes t initial model budget
    × IsAnswered t (judging_of t initial model budget) input rest before after result)
