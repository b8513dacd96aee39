-- How a conversation ends (this project's own).
use Rattle.std.specs.Prelude.{◌≡◌, ◌≤◌, ◌-◌, ◌^◌, ℕ, Bool, true, false, List, length}
use Rattle.jh_lines.specs.Events.{TalkEvent, told_in, is_at_end, HasFailedToTell}
use Rattle.jh_lines.specs.Events.{HasFailedToListen, IsPrompt, ListensOpen, due_in, machine_after}
use Rattle.jh_lines.specs.declared.ending.Ending.{Ending}
use Rattle.jh_lines.specs.declared.ending.Ending.TheVariants.{Over, InputEnded, ReadFailed}
use Rattle.jh_lines.specs.declared.ending.Ending.TheVariants.{WriteFailed, OutOfMemory, TooManyTurns}

-- What an ending says of all that passed, and of the machine that is left, where `due` gives what is
-- due after events and `after` the machine. Memory may be refused in the midst of a line, so of that
-- ending nothing is said.
abbrev pub IsEndingOf : {M : Type 0} → (List TalkEvent → List ℕ) → (List TalkEvent → M)
    → (M → Bool) → List TalkEvent → M → Ending → Type 0
IsEndingOf due after has_finished past machine Over = (told_in past ≡ due past)
    × (machine ≡ after past) × (is_at_end past ≡ false) × (has_finished machine ≡ true)
IsEndingOf due after has_finished past machine InputEnded = (told_in past ≡ due past)
    × (machine ≡ after past) × (is_at_end past ≡ true)
IsEndingOf due after has_finished past machine (ReadFailed error) = (told_in past ≡ due past)
    × (machine ≡ after past) × HasFailedToListen error past
IsEndingOf due after has_finished past machine (WriteFailed error) =
    (machine ≡ after past) × HasFailedToTell error past
IsEndingOf due after has_finished past machine OutOfMemory = Unit {0}
IsEndingOf due after has_finished past machine TooManyTurns =
    (machine ≡ after past) × (2 ^ 64 - 1 ≤ length past)

-- These events are a conversation of a machine, with all that is due told in time; it ended so, and
-- left this machine, which listened until it had finished and no longer.
abbrev pub IsConversation : {M : Type 0} → (M → List ℕ) → (M → List ℕ → M)
    → (M → List ℕ → List ℕ) → (M → Bool) → M → List TalkEvent → M → Ending → Type 0
IsConversation opening after_line answer_to has_finished first past machine ending =
    IsPrompt (due_in opening after_line answer_to first) past
    × IsEndingOf (due_in opening after_line answer_to first) (machine_after after_line first)
    has_finished past machine ending
    × ListensOpen (λ earlier. has_finished (machine_after after_line first earlier)) past
