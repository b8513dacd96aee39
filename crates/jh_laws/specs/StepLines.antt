-- Which faults and steps are written so that they are read back, as what, and what is read of bytes
-- (this project's own).
use Rattle.std.specs.Prelude.{◌≡◌, ℕ, ◌^◌, ◌<◌, false, List, [], ◌∷◌, map, Some, Ok}
use Rattle.std.specs.List.{list_any}
use Rattle.jh_edn.specs.Edn.{Edn}
use Rattle.jh_edn.specs.Spelling.{SpellsAll}
use Rattle.jh_env.specs.Cells.{Table}
use Rattle.jh_env.specs.Faults.{FaultValue, FitsCount, IsFault, is_self_link}
use Rattle.jh_env.specs.Faults.{Cut, Slow, Loss, Fix, Pause, Kill, Bump}
pub use Rattle.jh_step_texts.specs.StepWritten.{step_in_order}
use Rattle.jh_env.specs.TextCells.{SpellsEnv}
use Rattle.jh_step_texts.specs.FaultText.{FaultSpelling, fault_spelling, parsed_fault}
use Rattle.jh_step_texts.specs.StepText.{parsed_step}
use Rattle.jh_nemesis.specs.declared.steps.Step.{Step}
use Rattle.jh_nemesis.specs.declared.steps.Step.TheVariants.{Begin, Withdraw, WithdrawAll, Undo}
use Rattle.jh_nemesis.specs.declared.steps.Step.TheVariants.{Redo}

-- the links of a fault of links
abbrev pub links_of : FaultValue → List (ℕ × ℕ)
links_of (Cut links) = links
links_of (Slow ms links) = links
links_of (Loss level links) = links
links_of (Fix ms links) = links
links_of (Pause nodes) = []
links_of (Kill nodes) = []
links_of (Bump bumps) = []

-- no link of the fault leads from a node to itself
abbrev pub HasNoSelfLink : FaultValue → Type 0
HasNoSelfLink fault = list_any is_self_link (links_of fault) ≡ false

-- A fault on so many nodes: its nodes are among them, its amount is in its range, no link, node or
-- bump stands twice, and no link leads from a node to itself.
pub record IsFaultOn (count : ℕ) (fault : FaultValue) : Type 0 where
  pub fits : FitsCount count fault
  pub is_fault : IsFault fault
  pub others : HasNoSelfLink fault

-- a step over so many nodes: its id has 32 bits, and its fault is one on them
abbrev pub IsStepOver : ℕ → Step → Type 0
IsStepOver count (Begin id fault) = (id < 2 ^ 32) × IsFaultOn count fault
IsStepOver count (Withdraw id) = id < 2 ^ 32
IsStepOver count WithdrawAll = Unit {0}
IsStepOver count Undo = Unit {0}
IsStepOver count Redo = Unit {0}

-- the value's fault is this one, where these are the names of the nodes
abbrev pub IsTextOfFault : Edn → List (List ℕ) → FaultValue → Type 0
IsTextOfFault value names fault =
    (parts : FaultSpelling) × (fault_spelling value ≡ Some parts)
    × (parsed_fault names parts ≡ Ok fault)

-- The bytes spell a text of an environment of these names and cells, and then these steps over its
-- nodes, as `jeprun env` reads them.
pub record AreBytesOf (names : List (List ℕ)) (cells : Table) (steps : List Step)
    (bytes : List ℕ) : Type 0 where
  pub first : Edn
  pub others : List Edn
  pub spelled : SpellsAll (first ∷ others) bytes
  pub environment : SpellsEnv first names cells
  pub parsed : map (parsed_step names) others ≡ map Ok steps
