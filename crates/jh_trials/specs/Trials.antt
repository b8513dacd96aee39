-- A trial: one test of several that one adapter takes in one conversation (this project's own). The
-- program tells it the number and the seed of the test, the adapter sets its system back to the
-- beginning and answers `:ready`, and the conversation of the test follows, as `jeprun drive` has it.
use Rattle.std.specs.Prelude.{◌≡◌, ℕ, ◌+◌, ◌-◌, ◌^◌, min, Bool, true, false, ◌&&◌, List, [], ◌∷◌, ◌++◌, codes}
use Rattle.std.specs.Prelude.{Option, Some, None, Result, Ok, Err, if◌then◌else◌}
use Rattle.std.specs.Fmt.{decimal}
use Rattle.std.specs.Str.{is_utf8}
use Rattle.jh_edn.specs.Edn.{Edn, is_keyword}
use Rattle.jh_edn.specs.Lines.{values_in}
use Rattle.jh_conversation.specs.Conversations.{ConversationValue, IsTestBegun, answer_to_line}
use Rattle.jh_conversation.specs.Conversations.{conversation_after, is_over, opening_of}
use Rattle.jh_conversation.specs.declared.callers.BadLine.{BadLine}
use Rattle.jh_test_parts.specs.LineMeanings.{MeaningValue, Nothing, Clock, Stop, Op, Bad, line_meaning}
use Rattle.jh_test_parts.specs.Test.{TestValue}
use Rattle.jh_test_parts.specs.declared.complaints.Complaint.TheVariants as complaint
use Rattle.jh_trials.specs.declared.trial.Stage.{Stage}
use Rattle.jh_trials.specs.declared.trial.Stage.TheVariants.{Waiting, Refused, Begun}

pub record TrialValue : Type 0 where
  -- the number by which the test is told: that of its candidate, or how many trials were held before
  pub number : ℕ
  -- the test, of which nothing is told before it has begun
  pub conversation : ConversationValue
  pub stage : Stage
  -- how many lines were read by now, in this trial and in those before it
  pub read : ℕ

-- The trial of this test waits for `:ready`; so many lines were read before it.
pub record IsTrialBegun (t : TestValue) (number read : ℕ) (v : TrialValue) : Type 0 where
  pub is_begun : IsTestBegun t v.conversation
  pub has_number : v.number ≡ number
  pub waits : v.stage ≡ Waiting
  pub has_read : v.read ≡ read

-- ---- what is told first

abbrev pub test_line : ℕ → ℕ → List ℕ
test_line number seed =
    codes "{:type :test, :number " ++ (decimal number ++ (codes ", :seed " ++ (decimal seed ++ codes "}\n")))

abbrev pub trial_opening : TrialValue → List ℕ
trial_opening v = test_line v.number v.conversation.test.seed

-- ---- what a line means before the test has begun

-- the one element `:ready`
abbrev pub are_ready : List Edn → Bool
are_ready (value ∷ []) = is_keyword (codes "ready") value
are_ready _ = false

abbrev pub is_ready_text : {E : Type 0} → Result (List Edn) E → Bool
is_ready_text (Ok values) = are_ready values
is_ready_text (Err error) = false

abbrev pub is_ready : List ℕ → Bool
is_ready line = is_utf8 line && is_ready_text (values_in line)

-- The line of this number, which is not `:ready`. A time is still one of the test before, and a line
-- that means nothing is passed over; any other is no reply.
abbrev pub stage_by_meaning : ℕ → MeaningValue → Stage
stage_by_meaning number Nothing = Waiting
stage_by_meaning number (Clock time) = Waiting
stage_by_meaning number Stop = Refused (record { number = number; why = complaint.NotReady })
stage_by_meaning number (Op op time) = Refused (record { number = number; why = complaint.NotReady })
stage_by_meaning number (Bad why) = Refused (record { number = number; why = why })

-- ---- what becomes of it by a line

-- a number of lines, which stops at the greatest of 64 bits
abbrev pub lines_counted : ℕ → ℕ → ℕ
lines_counted read more = min (read + more) (2 ^ 64 - 1)

abbrev pub stage_behind_line : ℕ → List ℕ → Stage → Stage
stage_behind_line number line Waiting =
    if is_ready line then Begun number else stage_by_meaning number (line_meaning line)
stage_behind_line number line (Refused bad) = Refused bad
stage_behind_line number line (Begun before) = Begun before

abbrev pub conversation_in : Stage → ConversationValue → List ℕ → ConversationValue
conversation_in (Begun before) c line = conversation_after c line
conversation_in _ c line = c

abbrev pub trial_after : TrialValue → List ℕ → TrialValue
trial_after v line = record v {
  conversation = conversation_in v.stage v.conversation line;
  stage = stage_behind_line (lines_counted v.read 1) line v.stage;
  read = lines_counted v.read 1;
}

-- `:ready` is answered by what the test says first
abbrev pub said_in_stage : Stage → ConversationValue → List ℕ → List ℕ
said_in_stage Waiting c line = if is_ready line then opening_of c else []
said_in_stage (Refused bad) c line = []
said_in_stage (Begun before) c line = answer_to_line c line

abbrev pub trial_answer : TrialValue → List ℕ → List ℕ
trial_answer v line = said_in_stage v.stage v.conversation line

abbrev pub is_over_in : Stage → ConversationValue → Bool
is_over_in Waiting c = false
is_over_in (Refused bad) c = true
is_over_in (Begun before) c = is_over c

abbrev pub is_trial_over : TrialValue → Bool
is_trial_over v = is_over_in v.stage v.conversation

-- ---- the first line that was no reply, by its number over all lines

abbrev pub bad_behind : ℕ → Option BadLine → Option BadLine
bad_behind before None = None
bad_behind before (Some bad) = Some (record bad { number = lines_counted before bad.number })

abbrev pub bad_in : Stage → ConversationValue → Option BadLine
bad_in Waiting c = None
bad_in (Refused bad) c = Some bad
bad_in (Begun before) c = bad_behind before c.machine.bad

abbrev pub trial_bad : TrialValue → Option BadLine
trial_bad v = bad_in v.stage v.conversation

-- the adapter has answered `:ready`
abbrev pub has_begun_in : Stage → Bool
has_begun_in (Begun before) = true
has_begun_in _ = false

abbrev pub has_begun : TrialValue → Bool
has_begun v = has_begun_in v.stage
