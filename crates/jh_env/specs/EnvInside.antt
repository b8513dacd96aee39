-- What a contract sees of an environment's fields, and what holds of them (this project's own).
use Rattle.std.specs.Prelude.{◌≡◌, length}
use Rattle.jh_env.specs.Names.{AreFew, AreNodeNames}
use Rattle.jh_env.specs.Overlay.{EnvValue}
use Rattle.jh_env.specs.declared.environment.Env.TheInside.{Inside}

-- the names, and all that is seen of the tables
abbrev pub view_env : Inside → EnvValue
view_env a = record {
  names = a.names;
  start = a.tables.start;
  cells = a.tables.cells;
  tallies = a.tables.tallies;
  laid = a.tables.laid;
}

-- good names, and a cell for each of them, at the start and now
pub record IsWholeEnv (a : Inside) : Type 0 where
  pub names : AreFew a.names × AreNodeNames a.names
  pub start : length a.tables.start.nodes ≡ length a.names
  pub cells : length a.tables.cells.nodes ≡ length a.names
