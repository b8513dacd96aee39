-- Which nodes a call of a node reaches, and which respond in time (this project's own).
use Rattle.std.specs.Prelude.{ℕ, ◌+◌, ◌%◌, ◌==◌, ◌&&◌, ◌||◌, Bool, true, false, not}
use Rattle.std.specs.Prelude.{List, Option, Some, None, nat_le, filter, option_map}
use Rattle.jh_tables.specs.Limits.{max_loss}
use Rattle.jh_env.specs.Cells.{Life}
use Rattle.jh_env.specs.Cells.{Running, Paused, Killed}
use Rattle.jh_env.specs.Cells.{Link}
use Rattle.jh_env.specs.Cells.{NodeCell}
use Rattle.jh_env.specs.Faults.{FaultValue}
use Rattle.jh_env.specs.Cells.{Table, link_at, node_at}
use Rattle.jh_env.specs.Names.{node_places}
use Rattle.jh_env.specs.Overlay.{EnvValue, is_killed, link_over, node_over}

-- an environment as a client meets it: the link between two places, and the node at a place, where
-- there is one
pub record EnvCells : Type 0 where
  pub link : ℕ → ℕ → Option Link
  pub node : ℕ → Option NodeCell

-- an environment as it is now
abbrev pub env_cells : EnvValue → EnvCells
env_cells env = record { link = link_at env.cells; node = node_at env.cells }

-- what faults make of starting cells
abbrev pub cells_over : Table → List FaultValue → EnvCells
cells_over start faults = record {
  link = λ a b. option_map (link_over faults a b) (link_at start a b);
  node = λ a. option_map (node_over faults a) (node_at start a);
}

-- a node's process runs
abbrev pub is_running : Life → Bool
is_running Running = true
is_running Paused = false
is_running Killed = false

-- there is such a node, and it runs
abbrev pub is_node_running : Option NodeCell → Bool
is_node_running None = false
is_node_running (Some n) = is_running n.process

-- there is such a node, and it is killed
abbrev pub is_node_killed : Option NodeCell → Bool
is_node_killed None = false
is_node_killed (Some n) = is_killed n.process

-- the link is there, uncut, and doesn't lose a call of this draw
abbrev pub carries : ℕ → Option Link → Bool
carries draw None = false
carries draw (Some l) = not l.cut && nat_le l.loss (draw % max_loss)

-- the delay of a link in milliseconds
abbrev pub delay_of : Option Link → ℕ
delay_of None = 0
delay_of (Some l) = l.delay

-- a call of a node reaches another, and its answer comes back
abbrev pub is_reached : EnvCells → ℕ → ℕ → ℕ → Bool
is_reached env draw node other =
    (other == node)
    || (is_node_running (env.node other)
    && (carries draw (env.link node other) && carries draw (env.link other node)))

-- how many milliseconds the links to a node and back may take together, at most
abbrev pub max_answer_ms : ℕ
max_answer_ms = 1000

-- the answer of a node that was reached comes back in time
abbrev pub is_timely : EnvCells → ℕ → ℕ → Bool
is_timely env node other =
    (other == node)
    || nat_le (delay_of (env.link node other) + delay_of (env.link other node)) max_answer_ms

-- the nodes, of so many, that a call of a node reaches, and those that respond in time
abbrev pub reached_nodes : EnvCells → ℕ → ℕ → ℕ → List ℕ
reached_nodes env count draw node = filter (is_reached env draw node) (node_places count)

abbrev pub responding_nodes : EnvCells → ℕ → List ℕ → List ℕ
responding_nodes env node reached = filter (is_timely env node) reached
