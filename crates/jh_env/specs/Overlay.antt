-- What an environment is to its callers, and which faults it stands for (this project's own). What
-- faults make of cells stands with the tables that keep them.
use Rattle.std.specs.Prelude.{◌≡◌, ℕ, List, Option}
use Rattle.jh_tables.specs.declared.cells.Link.{Link}
use Rattle.jh_tables.specs.declared.cells.NodeCell.{NodeCell}
use Rattle.jh_tables.specs.Cells.{Table, link_at, node_at}
use Rattle.jh_tables.specs.Faults.{FaultValue}
use Rattle.jh_tables.specs.Standing.{TablesValue, StandsAt, faults_of}
use Rattle.jh_tables.specs.Tallies.{Tallies}
pub use Rattle.jh_tables.specs.Overlay.{IsOverlay, link_over, node_over, cuts, delay_after_fault}
pub use Rattle.jh_tables.specs.Overlay.{delay_by, loss_by}
pub use Rattle.jh_tables.specs.Overlay.{pauses, kills, bump_by, is_paused, is_killed}

-- what callers see of an environment: the names, the starting cells, the cells, what is kept of the
-- faults, and how many are put
pub record EnvValue : Type 0 where
  pub names : List (List ℕ)
  pub start : Table
  pub cells : Table
  pub tallies : Tallies
  pub laid : ℕ

-- the tables of an environment
abbrev pub tables_of : EnvValue → TablesValue
tables_of env =
    record { start = env.start; cells = env.cells; tallies = env.tallies; laid = env.laid }

-- the environment's cells now
abbrev pub cells_of : EnvValue → Table
cells_of env = env.cells

-- the environment's link from a to b now, where there is one
abbrev pub link_of : EnvValue → ℕ → ℕ → Option Link
link_of env a b = link_at (cells_of env) a b

-- the environment's node at this place now, where there is one
abbrev pub node_of : EnvValue → ℕ → Option NodeCell
node_of env a = node_at (cells_of env) a

-- how often a count, a sum or the entry of a fix was written since the start
abbrev pub work_of : EnvValue → ℕ
work_of env = env.tallies.work

-- the environment stands for these faults, each with its stamp, in ascending order of stamps
abbrev pub StandsWith : EnvValue → List (ℕ × FaultValue) → Type 0
StandsWith env stamped = StandsAt (tables_of env) stamped

-- with some stamps the environment stands for these faults, in this order: its cells are what these
-- make of its start
pub record StandsFor (env : EnvValue) (faults : List FaultValue) : Type 0 where
  pub stamped : List (ℕ × FaultValue)
  pub are : faults_of stamped ≡ faults
  pub stands : StandsWith env stamped
  pub cells : IsOverlay env.start faults (cells_of env)

-- the names and the starting cells stay
pub record KeepsStart (old new : EnvValue) : Type 0 where
  pub names : new.names ≡ old.names
  pub start : new.start ≡ old.start
