-- A test and where it stands: what contracts see of a conversation, and what it says to lines. This
-- project's own.
use Rattle.std.specs.Prelude.{◌≡◌, ℕ, Bool, List}
use Rattle.jh_conversation.specs.Laws.{Drivers, run, start}
use Rattle.jh_conversation.specs.Lines.{is_test_over, take_line}
use Rattle.jh_conversation.specs.Machine.{Machine}
use Rattle.jh_conversation.specs.Text.{said_lines, text_to}
use Rattle.jh_lines.specs.Answering.{after_lines}
use Rattle.jh_test_parts.specs.Test.{TestValue}

pub record ConversationValue : Type 0 where
  pub test : TestValue
  pub machine : Machine

-- the test has begun, with drivers of its generators, and nothing was read yet
abbrev pub IsTestBegun : TestValue → ConversationValue → Type 0
IsTestBegun t c = (c.test ≡ t) × (d : Drivers t) × (c.machine ≡ start t d)

-- what it says before the first line, and to a line
abbrev pub opening_of : ConversationValue → List ℕ
opening_of c = said_lines c.test c.machine

abbrev pub answer_to_line : ConversationValue → List ℕ → List ℕ
answer_to_line c line = text_to c.test c.machine line

-- the conversation after a line
abbrev pub conversation_after : ConversationValue → List ℕ → ConversationValue
conversation_after c line = record { test = c.test; machine = take_line c.test c.machine line }

-- it is over: it listens no more
abbrev pub is_over : ConversationValue → Bool
is_over c = is_test_over c.machine

-- after any lines a conversation has the machine of which the laws speak (`run`), after the same lines
abbrev pub ConversationIsRun : Type 0
ConversationIsRun =
    (t : TestValue) (d : Drivers t) (lines : List (List ℕ))
    → ◌≡◌ {A = ConversationValue}
    (after_lines conversation_after (record { test = t; machine = start t d }) lines)
    (record { test = t; machine = run t d lines })
