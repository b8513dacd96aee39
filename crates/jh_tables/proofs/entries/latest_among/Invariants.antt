use Rattle.std.proofs.Common.{◌≡◌, None, take}
use Rattle.std.specs.Prelude.{fold}
use Rattle.jh_tables.specs.Tallies.{later_fix}
use Rattle.jh_tables.proofs.entries.latest_among.Given as goal

abbrev pub invariant-loop-entry : goal.invariant-loop-entry
invariant-loop-entry l = l.latest ≡ fold (later_fix l.from l.to) None (take l.entry-index l.entries)
