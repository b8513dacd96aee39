use Rattle.std.proofs.Common.{◌≡◌, drop}
use Rattle.std.specs.List.{find}
use Rattle.toml.specs.View.{table_view}
use Rattle.jh_settings.specs.Keys.{is_missing, first_missing}
use Rattle.jh_settings.proofs.keys.first_missing.Given as goal

abbrev pub invariant-loop-key : goal.invariant-loop-key
invariant-loop-key l = find (is_missing (table_view l.table)) (drop l.key-index l.needed) ≡ first_missing l.needed (table_view l.table)
