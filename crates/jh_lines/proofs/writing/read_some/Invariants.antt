use Rattle.std.specs.Io.KnownBytes.{Keeps}
use Rattle.jh_lines.proofs.writing.read_some.Given as goal

abbrev pub invariant-loop-turn : goal.invariant-loop-turn
invariant-loop-turn g l = Keeps (g.R.Read.remaining l.fn.reader) (g.R.Read.remaining l.reader)
