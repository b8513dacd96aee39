-- What a contract sees of the fields of tables, and what holds of them (this project's own).
use Rattle.std.specs.Prelude.{◌≡◌, ◌*◌, ◌≤◌, List, length, Option, Some, None, ⊤}
use Rattle.jh_tables.specs.declared.counted.FixEntry.{FixEntry}
use Rattle.std.specs.List.{All}
use Rattle.jh_tables.specs.Faults.{FaultValue, IsFixAmount}
use Rattle.jh_tables.specs.Tallies.{cells_now, cells_at_start}
use Rattle.jh_tables.specs.Standing.{TablesValue, AreTallies, IsStartingLink, IsStartingNode}
use Rattle.jh_tables.specs.Limits.{max_laid, max_nodes}
use Rattle.jh_tables.specs.declared.tables.Tables.TheInside.{Inside}

-- the cells that are read off the tallies, and how many faults are put
abbrev pub view_tables : Inside → TablesValue
view_tables a = record {
  start = cells_at_start a.counted;
  cells = cells_now a.counted;
  tallies = a.counted;
  laid = a.laid;
}

-- the entry is free or has a delay that a fix may have
abbrev pub HasFixAmount : Option FixEntry → Type 0
HasFixAmount None = ⊤
HasFixAmount (Some entry) = IsFixAmount entry.ms

-- the tallies are those of some faults, as many as are put
pub record IsWhole (a : Inside) : Type 0 where
  pub faults : List FaultValue
  pub laid : a.laid ≡ length faults
  pub few : a.laid ≤ max_laid
  pub tallies : AreTallies (length a.counted.nodes) a.counted faults
  pub nodes : length a.counted.nodes ≤ max_nodes
  pub square : length a.counted.links ≡ length a.counted.nodes * length a.counted.nodes
  pub room : length a.counted.fixes ≡ max_laid
  pub delays : All HasFixAmount a.counted.fixes
  pub starting_links : All IsStartingLink (cells_at_start a.counted).links
  pub starting_nodes : All IsStartingNode (cells_at_start a.counted).nodes
