-- What faults make of starting cells (this project's own), cell by cell, each over the whole list
-- of faults, in order.
use Rattle.std.specs.Prelude.{◌≡◌, ℕ, ◌+◌, ◌==◌, ◌||◌, Bool, true, false, ℤ, pos, ◌+ℤ◌, List}
use Rattle.std.specs.Prelude.{if◌then◌else◌, fold, max, option_map}
use Rattle.std.specs.List.{list_any, sum_by}
use Rattle.jh_tables.specs.declared.cells.Life.{Life}
use Rattle.jh_tables.specs.declared.cells.Life.TheVariants.{Running, Paused, Killed}
use Rattle.jh_tables.specs.declared.cells.Link.{Link}
use Rattle.jh_tables.specs.declared.cells.NodeCell.{NodeCell}
use Rattle.jh_tables.specs.Cells.{Table, link_at, node_at}
use Rattle.jh_tables.specs.Faults.{FaultValue, names_link, names_node}
use Rattle.jh_tables.specs.Faults.FaultValue.{Cut, Slow, Loss, Fix, Pause, Kill, Bump}

-- whether the fault cuts the link from a to b
abbrev pub cuts : ℕ → ℕ → FaultValue → Bool
cuts a b (Cut links) = names_link links a b
cuts a b _ = false

-- the delay of the link from a to b after the fault, but for what it adds: the delay that the fault
-- fixes, or else this one, which it was before
abbrev pub delay_after_fault : ℕ → ℕ → ℕ → FaultValue → ℕ
delay_after_fault a b delay (Fix ms links) = if names_link links a b then ms else delay
delay_after_fault a b delay _ = delay

-- by how much the fault slows the link from a to b
abbrev pub delay_by : ℕ → ℕ → FaultValue → ℕ
delay_by a b (Slow ms links) = if names_link links a b then ms else 0
delay_by a b _ = 0

-- the fault's level of loss on the link from a to b
abbrev pub loss_by : ℕ → ℕ → FaultValue → ℕ
loss_by a b (Loss level links) = if names_link links a b then level else 0
loss_by a b _ = 0

-- whether the fault pauses the node
abbrev pub pauses : ℕ → FaultValue → Bool
pauses a (Pause nodes) = names_node nodes a
pauses a _ = false

-- whether the fault kills the node
abbrev pub kills : ℕ → FaultValue → Bool
kills a (Kill nodes) = names_node nodes a
kills a _ = false

-- by how much the fault moves the node's clock
abbrev pub bump_by : ℕ → FaultValue → ℤ
bump_by a (Bump nodes) = fold (λ z n. z +ℤ (if n.0 == a then n.1 else pos 0)) (pos 0) nodes
bump_by a _ = pos 0

-- the process is paused
abbrev pub is_paused : Life → Bool
is_paused Running = false
is_paused Paused = true
is_paused Killed = false

-- the process is killed
abbrev pub is_killed : Life → Bool
is_killed Running = false
is_killed Paused = false
is_killed Killed = true

-- the link from a to b: cut if it was at the start or a fault cuts it; the delay of the last fix,
-- or else of the start, and all that is added; the greatest level of loss
abbrev pub link_over : List FaultValue → ℕ → ℕ → Link → Link
link_over faults a b l = record {
  cut = l.cut || list_any (cuts a b) faults;
  delay = fold (delay_after_fault a b) l.delay faults + sum_by (delay_by a b) faults;
  loss = fold (λ m f. max m (loss_by a b f)) l.loss faults;
}

-- the node: killed if it was at the start or a fault kills it, else paused likewise, else running;
-- its clock's offset and all bumps
abbrev pub node_over : List FaultValue → ℕ → NodeCell → NodeCell
node_over faults a n = record {
  process =
      if is_killed n.process || list_any (kills a) faults then Killed
      else if is_paused n.process || list_any (pauses a) faults then Paused
      else Running;
  clock = fold (λ z f. z +ℤ bump_by a f) n.clock faults;
}

-- the table is what the faults make of the starting one, cell by cell
pub record IsOverlay (start : Table) (faults : List FaultValue) (now : Table) : Type 0 where
  pub links : (a b : ℕ) → link_at now a b ≡ option_map (link_over faults a b) (link_at start a b)
  pub nodes : (a : ℕ) → node_at now a ≡ option_map (node_over faults a) (node_at start a)
