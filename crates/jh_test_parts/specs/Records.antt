-- What is recorded in a test of a real database, and the operation that each record is in the
-- history (jepsen.history: a client's operation is invoked and completed as `:ok`, `:fail` or
-- `:info`; the nemesis' operations are `:info` both times). Which other keys they have is this
-- project's own: the node of a call, and of a step the step itself and each cell that it changed.
use Rattle.std.specs.Prelude.{◌+◌, ◌<◌, ◌^◌}
use Rattle.jh_nemesis.specs.Steps.{FitsNodes}
use Rattle.std.specs.Prelude.{ℕ, pos, List, [], ◌∷◌, map, codes, Some}
use Rattle.jh_edn.specs.Edn.{Edn, int, boolean, keyword}
use Rattle.jh_edn.specs.Parts.{map_of, vector_of}
use Rattle.jh_env.specs.Cells.{Life, Link, NodeCell, Running, Paused, Killed}
use Rattle.jh_nemesis.specs.declared.steps.Step.{Step}
use Rattle.jh_ops.specs.Operation.{Operation}
use Rattle.jh_ops.specs.declared.operation.Kind.{Kind}
use Rattle.jh_ops.specs.declared.operation.Process.{Process}
use Rattle.jh_step_texts.specs.FaultWritten.{edn_of_name}
use Rattle.jh_step_texts.specs.StepWritten.{edn_of_step}
use Rattle.jh_ops.specs.Requests.{request_name}
use Rattle.jh_test_parts.specs.Changes.{ChangedCells}
use Rattle.jh_test_parts.specs.declared.records.ChangedLink.{ChangedLink}
use Rattle.jh_test_parts.specs.declared.records.ChangedNode.{ChangedNode}
use Rattle.jh_test_parts.specs.declared.records.Recorded.{Recorded}
use Rattle.jh_test_parts.specs.declared.records.Recorded.TheVariants.{Invoked, Ended, StepBegun}
use Rattle.jh_test_parts.specs.declared.records.Recorded.TheVariants.{StepEnded}

-- `{:cut true, :delay 0, :loss 0}`
abbrev pub link_value : Link → Edn
link_value l = map_of (
    (keyword (codes "cut"), boolean l.cut) ∷ (keyword (codes "delay"), int (pos l.delay))
    ∷ (keyword (codes "loss"), int (pos l.loss)) ∷ []
    )

abbrev pub life_name : Life → List ℕ
life_name Running = codes "running"
life_name Paused = codes "paused"
life_name Killed = codes "killed"

-- `{:process :killed, :clock 0}`
abbrev pub node_value : NodeCell → Edn
node_value n = map_of (
    (keyword (codes "process"), keyword (life_name n.process))
    ∷ (keyword (codes "clock"), int n.clock) ∷ []
    )

-- `["n1" "n2" {..}]`
abbrev pub changed_link_value : List (List ℕ) → ChangedLink → Edn
changed_link_value names changed = vector_of (
    edn_of_name names changed.source ∷ edn_of_name names changed.destination ∷ link_value changed.link ∷ []
    )

-- `["n1" {..}]`
abbrev pub changed_node_value : List (List ℕ) → ChangedNode → Edn
changed_node_value names changed = vector_of (edn_of_name names changed.node ∷ node_value changed.cell ∷ [])

-- an operation at its place in the history
abbrev pub operation_placed : (index time : ℕ) → Kind → Process → List ℕ → Edn → List (Edn × Edn)
    → Operation
operation_placed index time kind process function value rest = record {
  kind = kind;
  process = process;
  f = keyword function;
  value = value;
  time = Some (pos time);
  index = Some (pos index);
  rest = rest;
}

-- the other keys of a step's record
abbrev pub step_pairs : List (List ℕ) → Step → ChangedCells → List (Edn × Edn)
step_pairs names step cells =
    (keyword (codes "step"), edn_of_step names step)
    ∷ (keyword (codes "links"), vector_of (map (changed_link_value names) cells.links))
    ∷ (keyword (codes "nodes"), vector_of (map (changed_node_value names) cells.nodes)) ∷ []

-- the operation of a record at this index, over nodes of these names
abbrev pub operation_of_record : List (List ℕ) → ℕ → Recorded → Operation
operation_of_record names index (Invoked time process node call) =
    operation_placed index time Kind.Invoke (Process.Client process) (request_name call.request)
    call.value
    ((keyword (codes "node"), edn_of_name names node) ∷ [])
operation_of_record names index (Ended time process kind request value rest) =
    operation_placed index time kind (Process.Client process) (request_name request) value rest
operation_of_record names index (StepBegun time entry step cells) =
    operation_placed index time Kind.Info Process.Nemesis (codes "step") (int (pos entry))
    (step_pairs names step cells)
operation_of_record names index (StepEnded time entry code rest) =
    operation_placed index time Kind.Info Process.Nemesis (codes "step")
    (vector_of (int (pos entry) ∷ int (pos code) ∷ [])) rest

-- records one after another, the first at this index of the history
abbrev pub recorded_operations : List (List ℕ) → ℕ → List Recorded → List Operation
recorded_operations names index [] = []
recorded_operations names index (r ∷ rs) =
    operation_of_record names index r ∷ recorded_operations names (index + 1) rs

-- the record can be written over so many nodes: its numbers are integers of a text, and its step
-- names some of the nodes
abbrev pub IsWritableRecord : ℕ → Recorded → Type 0
IsWritableRecord nodes (Invoked time process node call) = (time < 2 ^ 63) × (process < 2 ^ 63)
IsWritableRecord nodes (Ended time process kind request value rest) = (time < 2 ^ 63) × (process < 2 ^ 63)
IsWritableRecord nodes (StepBegun time entry step cells) =
    (time < 2 ^ 63) × (entry < 2 ^ 63) × FitsNodes nodes step
IsWritableRecord nodes (StepEnded time entry code rest) =
    (time < 2 ^ 63) × (entry < 2 ^ 63) × (code < 2 ^ 63)
