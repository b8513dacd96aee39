-- What passes between a machine and its peer, and in which order (this project's own). The peer is
-- told what the machine says, and what the peer writes is heard. Lists of events have the newest
-- first.
use Rattle.std.specs.Prelude.{◌≡◌, ℕ, Bool, true, false, cond, List, [], ◌∷◌, ◌++◌}
use Rattle.std.specs.Io.{StartsWith}
use Rattle.std.specs.declared.io.Error.{Error}
use Rattle.jh_lines.specs.Lines.{whole_lines, all_lines}
use Rattle.jh_lines.specs.Answering.{after_lines, answers_to_lines}

pub data TalkEvent : Type 0 where
  Told : List ℕ → TalkEvent
  Heard : List ℕ → TalkEvent
  -- the input has ended
  Ended : TalkEvent
  -- a telling failed, with this error, when these bytes had been handed over
  TellFailed : List ℕ → Error → TalkEvent
  -- a listening failed, with this error
  ListenFailed : Error → TalkEvent

-- the bytes that were heard
abbrev pub heard_in : List TalkEvent → List ℕ
heard_in [] = []
heard_in (Told bytes ∷ past) = heard_in past
heard_in (Heard bytes ∷ past) = heard_in past ++ bytes
heard_in (Ended ∷ past) = heard_in past
heard_in (TellFailed bytes error ∷ past) = heard_in past
heard_in (ListenFailed error ∷ past) = heard_in past

-- the bytes that were told
abbrev pub told_in : List TalkEvent → List ℕ
told_in [] = []
told_in (Told bytes ∷ past) = told_in past ++ bytes
told_in (Heard bytes ∷ past) = told_in past
told_in (Ended ∷ past) = told_in past
told_in (TellFailed bytes error ∷ past) = told_in past ++ bytes
told_in (ListenFailed error ∷ past) = told_in past

-- whether the end of the input is what the last listening gave
abbrev pub is_at_end : List TalkEvent → Bool
is_at_end [] = false
is_at_end (Told bytes ∷ past) = is_at_end past
is_at_end (Heard bytes ∷ past) = false
is_at_end (Ended ∷ past) = true
is_at_end (TellFailed bytes error ∷ past) = is_at_end past
is_at_end (ListenFailed error ∷ past) = false

-- the last event is a telling that failed with this error
abbrev pub HasFailedToTell : Error → List TalkEvent → Type 0
HasFailedToTell error (TellFailed bytes found ∷ past) = found ≡ error
HasFailedToTell error _ = ⊥

-- or a listening
abbrev pub HasFailedToListen : Error → List TalkEvent → Type 0
HasFailedToListen error (ListenFailed found ∷ past) = found ≡ error
HasFailedToListen error _ = ⊥

module _ {P : Type 0} (told heard : P → List ℕ → P → Type 0) (ended : P → P → Type 0)
    (tell_failed : P → List ℕ → Error → P → Type 0) (listen_failed : P → Error → P → Type 0) where
  -- the peer went from one state to another through these events
  abbrev pub Went : P → List TalkEvent → P → Type 0
  Went from [] to = to ≡ from
  Went from (Told bytes ∷ past) to = (mid : P) × Went from past mid × told mid bytes to
  Went from (Heard bytes ∷ past) to = (mid : P) × Went from past mid × heard mid bytes to
  Went from (Ended ∷ past) to = (mid : P) × Went from past mid × ended mid to
  Went from (TellFailed bytes error ∷ past) to =
      (mid : P) × Went from past mid × tell_failed mid bytes error to
  Went from (ListenFailed error ∷ past) to =
      (mid : P) × Went from past mid × listen_failed mid error to

-- the lines that were heard; an incomplete one counts where the input has ended
abbrev pub lines_heard : List TalkEvent → List (List ℕ)
lines_heard past = cond (is_at_end past) (all_lines (heard_in past)) (whole_lines (heard_in past))

-- the machine after all lines that were heard
abbrev pub machine_after : {M : Type 0} → (M → List ℕ → M) → M → List TalkEvent → M
machine_after after_line machine past = after_lines after_line machine (lines_heard past)

-- what is due by now: what it says before the first line, and to each line that was heard
abbrev pub due_in : {M : Type 0} → (M → List ℕ) → (M → List ℕ → M) → (M → List ℕ → List ℕ)
    → M → List TalkEvent → List ℕ
due_in opening after_line answer_to machine past =
    opening machine ++ answers_to_lines after_line answer_to machine (lines_heard past)

-- Whenever it listens, it has told all that is due and nothing else; and it never tells more than is
-- due.
abbrev pub IsPrompt : (List TalkEvent → List ℕ) → List TalkEvent → Type 0
IsPrompt due [] = Unit {0}
IsPrompt due (Told bytes ∷ past) = StartsWith (due past) (told_in past ++ bytes) × IsPrompt due past
IsPrompt due (Heard bytes ∷ past) = (told_in past ≡ due past) × IsPrompt due past
IsPrompt due (Ended ∷ past) = (told_in past ≡ due past) × IsPrompt due past
IsPrompt due (TellFailed bytes error ∷ past) =
    StartsWith (due past) (told_in past ++ bytes) × IsPrompt due past
IsPrompt due (ListenFailed error ∷ past) = (told_in past ≡ due past) × IsPrompt due past

-- Whenever it listened, the machine had not finished: so it never listens behind its end. `has_finished`
-- tells it of the events before.
abbrev pub ListensOpen : (List TalkEvent → Bool) → List TalkEvent → Type 0
ListensOpen has_finished [] = Unit {0}
ListensOpen has_finished (Told bytes ∷ past) = ListensOpen has_finished past
ListensOpen has_finished (Heard bytes ∷ past) =
    (has_finished past ≡ false) × ListensOpen has_finished past
ListensOpen has_finished (Ended ∷ past) = (has_finished past ≡ false) × ListensOpen has_finished past
ListensOpen has_finished (TellFailed bytes error ∷ past) = ListensOpen has_finished past
ListensOpen has_finished (ListenFailed error ∷ past) =
    (has_finished past ≡ false) × ListensOpen has_finished past
