use Rattle.std.specs.Io.KnownBytes.{Consumes}
use Rattle.jh_edn.proofs.bytes.read_bytes.Given as goal

abbrev pub invariant-loop-read : goal.invariant-loop-read
invariant-loop-read g l = Consumes (g.R.Read.remaining l.fn.reader) (g.R.Read.remaining l.reader) l.bytes.items
