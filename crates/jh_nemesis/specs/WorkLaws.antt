-- How often each step may write, at most (this project's own): the sizes of its own faults, whatever
-- else is active.
use Rattle.std.specs.Prelude.{◌≡◌, ℕ, true, false, ◌∷◌, ◌++◌}
use Rattle.jh_env.specs.Faults.{FaultValue, fault_size}
use Rattle.jh_nemesis.specs.Laws.{StepsReach, is_change}
use Rattle.jh_nemesis.specs.State.{State, Active}
use Rattle.jh_nemesis.specs.Steps.{answer_of, is_ok, state_after}
use Rattle.jh_nemesis.specs.Work.{size_of_all, size_of_step}
use Rattle.jh_nemesis.specs.declared.steps.Step.{Step}
use Rattle.jh_nemesis.specs.declared.steps.Step.TheVariants.{Begin, Withdraw, WithdrawAll, Undo}
use Rattle.jh_nemesis.specs.declared.steps.Step.TheVariants.{Redo}

-- a refused step writes nothing
abbrev pub RefusedWritesNothing : Type 0
RefusedWritesNothing =
    (s : State) (step : Step) → is_ok (answer_of s step) ≡ false → size_of_step s step ≡ 0

-- a begin writes as often as the size of its fault says
abbrev pub BeginWritesItsFault : Type 0
BeginWritesItsFault =
    (s : State) (id : ℕ) (f : FaultValue) → is_ok (answer_of s (Begin id f)) ≡ true
    → size_of_step s (Begin id f) ≡ fault_size f

-- and so does its withdrawal
abbrev pub WithdrawalWritesItsFault : Type 0
WithdrawalWritesItsFault =
    (s : State) (before after : Active) (id : ℕ) (f : FaultValue)
    → StepsReach s → s.active ≡ before ++ ((id, f) ∷ after)
    → is_ok (answer_of s (Withdraw id)) ≡ true → size_of_step s (Withdraw id) ≡ fault_size f

-- a withdrawal of all writes as often as the sizes of all faults say together
abbrev pub WithdrawingAllWritesAll : Type 0
WithdrawingAllWritesAll =
    (s : State) → is_ok (answer_of s WithdrawAll) ≡ true
    → size_of_step s WithdrawAll ≡ size_of_all s.active

-- an undo writes as often as its step
abbrev pub UndoWritesItsStep : Type 0
UndoWritesItsStep =
    (s : State) (step : Step) → is_change step ≡ true → is_ok (answer_of s step) ≡ true
    → size_of_step (state_after s step) Undo ≡ size_of_step s step

-- a redo after an undo writes as often as the undo, and an undo after a redo as often as the redo
abbrev pub RedoWritesItsUndo : Type 0
RedoWritesItsUndo =
    (s : State) → is_ok (answer_of s Undo) ≡ true
    → size_of_step (state_after s Undo) Redo ≡ size_of_step s Undo

abbrev pub UndoWritesItsRedo : Type 0
UndoWritesItsRedo =
    (s : State) → is_ok (answer_of s Redo) ≡ true
    → size_of_step (state_after s Redo) Undo ≡ size_of_step s Redo
