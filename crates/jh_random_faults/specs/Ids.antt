-- The ids of random faults (this project's own).
use Rattle.std.specs.Prelude.{ℕ, ◌+◌, ◌%◌, ◌^◌, max}
use Rattle.jh_nemesis.specs.declared.steps.Step.{Step}
use Rattle.jh_nemesis.specs.declared.steps.Step.TheVariants.{Begin, Withdraw, WithdrawAll, Undo}
use Rattle.jh_nemesis.specs.declared.steps.Step.TheVariants.{Redo}

-- the id that a step begins or withdraws, and 0 where it names none
abbrev pub id_named : Step → ℕ
id_named (Begin id fault) = id
id_named (Withdraw id) = id
id_named WithdrawAll = 0
id_named Undo = 0
id_named Redo = 0

-- the greater of an id and the one that a step names
abbrev pub greater_id : ℕ → Step → ℕ
greater_id id step = max id (id_named step)

-- The random faults of a candidate have the ids that follow the greatest of the schedule that they are
-- put into. Behind the greatest id of all comes 0.
abbrev pub fault_id : ℕ → ℕ → ℕ
fault_id greatest fault = (greatest + 1 + fault) % 2 ^ 32
