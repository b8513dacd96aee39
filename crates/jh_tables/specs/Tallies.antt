-- What is kept of each link, node and fix (this project's own), and the cells that are read off it.
use Rattle.std.specs.Prelude.{ℕ, ◌+◌, ◌-◌, ◌*◌, ◌/◌, ◌%◌, ◌==◌, ◌||◌, ◌&&◌, Bool, true, pos, ◌+ℤ◌}
use Rattle.std.specs.Prelude.{List, [], ◌++◌, length, map, max, if◌then◌else◌, nat_lt, fold}
use Rattle.std.specs.Prelude.{replicate, Option, Some, None, slice_index_or}
use Rattle.std.specs.Int.{bit_at}
use Rattle.std.specs.List.{range_with_len}
use Rattle.jh_tables.specs.declared.cells.Life.TheVariants.{Running, Paused, Killed}
use Rattle.jh_tables.specs.declared.cells.Link.{Link}
use Rattle.jh_tables.specs.declared.cells.NodeCell.{NodeCell}
use Rattle.jh_tables.specs.declared.counted.LinkTally.{LinkTally}
use Rattle.jh_tables.specs.declared.counted.NodeTally.{NodeTally}
use Rattle.jh_tables.specs.declared.counted.FixEntry.{FixEntry}
use Rattle.jh_tables.specs.declared.counted.FixedDelay.{FixedDelay}
use Rattle.jh_tables.specs.Cells.{Table, calm_link, running_node}
use Rattle.jh_tables.specs.Limits.{max_laid, max_loss}
use Rattle.jh_tables.specs.Overlay.{is_paused, is_killed}

-- The tally of the link from a to b of n nodes stands at a * n + b, that of a node at its place; an
-- entry holds a fix or is free; work is how often a count, a sum or an entry was written, up to
-- 2^64 - 1.
pub record Tallies : Type 0 where
  pub links : List LinkTally
  pub nodes : List NodeTally
  pub fixes : List (Option FixEntry)
  pub work : ℕ

-- the tally of a link that starts calm
abbrev pub calm_tally : LinkTally
calm_tally = record { start = calm_link; cuts = 0; slowed_ms = 0; losses = [] }

-- the tally of a node that starts running
abbrev pub running_tally : NodeTally
running_tally = record { start = running_node; pauses = 0; kills = 0; bumped_ms = pos 0 }

-- the tally of the link from a to b of n nodes
abbrev pub link_tally : ℕ → List LinkTally → ℕ → ℕ → LinkTally
link_tally n tallies a b = slice_index_or tallies (a * n + b) calm_tally

-- the tally of a node
abbrev pub node_tally : List NodeTally → ℕ → NodeTally
node_tally tallies a = slice_index_or tallies a running_tally

-- the tally of a link and of a node on which no fault is put
abbrev pub fresh_link : Link → LinkTally
fresh_link link = record { start = link; cuts = 0; slowed_ms = 0; losses = replicate max_loss 0 }

abbrev pub fresh_node : NodeCell → NodeTally
fresh_node node = record { start = node; pauses = 0; kills = 0; bumped_ms = pos 0 }

-- these entries, and behind them free ones, so that there is one for each fault
abbrev pub with_free_entries : List (Option FixEntry) → List (Option FixEntry)
with_free_entries entries = entries ++ replicate (max_laid - length entries) None

-- the tallies of cells on which no fault is put
abbrev pub faultless_tallies : List Link → List NodeCell → Tallies
faultless_tallies links nodes = record {
  links = map fresh_link links;
  nodes = map fresh_node nodes;
  fixes = replicate max_laid None;
  work = 0;
}

-- the entry's bit of the link from a to b is set: bit b of word a
abbrev pub is_fixed_in : FixEntry → ℕ → ℕ → Bool
is_fixed_in fix a b = bit_at (slice_index_or fix.links a 0) b == 1

-- the stamp is above that of this fix, if there is one
abbrev pub is_after : ℕ → Option FixedDelay → Bool
is_after stamp None = true
is_after stamp (Some fixed) = nat_lt fixed.stamp stamp

-- the delay of the latest fix of the link so far, after one more entry
abbrev pub later_fix : ℕ → ℕ → Option FixedDelay → Option FixEntry → Option FixedDelay
later_fix a b latest None = latest
later_fix a b latest (Some fix) =
    if is_fixed_in fix a b && is_after fix.stamp latest
    then Some (record { stamp = fix.stamp; ms = fix.ms }) else latest

-- the delay of the latest fix of the link, where there is one
abbrev pub latest_fix : ℕ → ℕ → List (Option FixEntry) → Option FixedDelay
latest_fix a b fixes = fold (later_fix a b) None fixes

-- the delay of the latest fix, or else the one of the start
abbrev pub delay_fixed : Option FixedDelay → ℕ → ℕ
delay_fixed None delay = delay
delay_fixed (Some fixed) delay = fixed.ms

-- the level at this place among the counts, where its count is not 0
abbrev pub level_held : List ℕ → ℕ → ℕ
level_held losses i = if nat_lt 0 (slice_index_or losses i 0) then i + 1 else 0

-- the greatest level that is held, or else the one of the start
abbrev pub greatest_level : List ℕ → ℕ → ℕ
greatest_level losses start =
    fold (λ m i. max m (level_held losses i)) start (range_with_len 0 max_loss)

-- the link that is read off a tally
abbrev pub link_now : LinkTally → Option FixedDelay → Link
link_now tally fixed = record {
  cut = tally.start.cut || nat_lt 0 tally.cuts;
  delay = delay_fixed fixed tally.start.delay + tally.slowed_ms;
  loss = greatest_level tally.losses tally.start.loss;
}

-- the node that is read off a tally
abbrev pub node_now : NodeTally → NodeCell
node_now tally = record {
  process =
      if is_killed tally.start.process || nat_lt 0 tally.kills then Killed
      else if is_paused tally.start.process || nat_lt 0 tally.pauses then Paused
      else Running;
  clock = tally.start.clock +ℤ tally.bumped_ms;
}

-- the link at this place among the links of n nodes
abbrev pub link_of_place : Tallies → ℕ → ℕ → Link
link_of_place t n k =
    link_now (slice_index_or t.links k calm_tally) (latest_fix (k / n) (k % n) t.fixes)

-- all cells now
abbrev pub cells_now : Tallies → Table
cells_now t = record {
  links = map (link_of_place t (length t.nodes)) (range_with_len 0 (length t.links));
  nodes = map node_now t.nodes;
}

-- all cells at the start
abbrev pub cells_at_start : Tallies → Table
cells_at_start t = record { links = map (λ l. l.start) t.links; nodes = map (λ n. n.start) t.nodes }
