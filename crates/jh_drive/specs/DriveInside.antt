-- What the parts of the code say to each other; `Drive` has the rule. This project's own.
use Rattle.std.specs.Prelude.{◌≡◌, ◌++◌, ℕ, List}
use Rattle.jh_conversation.specs.Conversations.{ConversationValue}
use Rattle.jh_conversation.specs.Text.{recorded_lines}
use Rattle.jh_env.specs.Overlay.{EnvValue}
use Rattle.jh_reports.specs.Lines.{IsEnvOf, active_line, environment_line}
use Rattle.jh_drive.specs.Drive.{end_if_missing}

-- What is written behind a conversation, without the last line: the line of the end, where that is
-- missing, and all of a report (`IsReport` of jh_reports) but its last line, each part added to
-- those before it.
abbrev pub IsFirstPart : ConversationValue → List ℕ → Type 0
IsFirstPart c text =
    (env : EnvValue) × IsEnvOf c.machine.nemesis env
    × (text ≡ ((end_if_missing c ++ recorded_lines c.test c.machine)
    ++ active_line c.machine.nemesis.active) ++ environment_line env)
