-- The end of all faults comes once (this project's own).
use Rattle.std.specs.Prelude.{◌≡◌, ℕ, suc, ◌==◌, ◌≤◌, false, List, [], ◌∷◌, length, if◌then◌else◌}
use Rattle.jh_conversation.specs.Laws.{Drivers, run}
use Rattle.jh_conversation.specs.declared.phase.Phase.TheVariants.{Heal}
use Rattle.jh_edn.specs.Edn.{is_empty}
use Rattle.jh_nemesis.specs.Steps.{answer_of}
use Rattle.jh_nemesis.specs.declared.steps.Step.TheVariants.{WithdrawAll}
use Rattle.jh_nemesis.specs.declared.steps.StepAnswer.TheVariants.{Ok}
use Rattle.jh_test_parts.specs.Test.{IsFitTest, TestValue}
use Rattle.jh_test_parts.specs.declared.records.Recorded.{Recorded}
use Rattle.jh_test_parts.specs.declared.records.Recorded.TheVariants.{StepBegun}

-- how many steps of a history end all faults for the test: their number is the length of its schedule
abbrev pub heals_in : TestValue → List Recorded → ℕ
heals_in t [] = 0
heals_in t (StepBegun time entry step cells ∷ past) =
    if entry == length t.schedule then suc (heals_in t past) else heals_in t past
heals_in t (_ ∷ past) = heals_in t past

-- There is one such step at most.
abbrev pub HealsOnce : Type 0
HealsOnce =
    (t : TestValue) (d : Drivers t) (lines : List (List ℕ)) → IsFitTest t
    → heals_in t (run t d lines).history ≤ 1

-- And the nemesis does not refuse it, where one is to come.
abbrev pub HealsAreAccepted : Type 0
HealsAreAccepted =
    (t : TestValue) (d : Drivers t) (lines : List (List ℕ)) → IsFitTest t
    → (run t d lines).phase ≡ Heal → is_empty (run t d lines).nemesis.active ≡ false
    → answer_of (run t d lines).nemesis WithdrawAll ≡ Ok
