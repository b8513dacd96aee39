use Rattle.jh_fifo.specs.Tables.{IsTable}
use Rattle.jh_fifo.proofs.tables.table_of.Given as goal

abbrev pub invariant-loop-place : goal.invariant-loop-place
invariant-loop-place l = IsTable l.ops l.side l.place l.places
