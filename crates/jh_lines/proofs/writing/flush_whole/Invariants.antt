use Rattle.std.specs.Io.KnownBytes.{Keeps}
use Rattle.jh_lines.proofs.writing.flush_whole.Given as goal

abbrev pub invariant-loop-turn : goal.invariant-loop-turn
invariant-loop-turn g l = Keeps (g.W.Write.contents l.fn.writer) (g.W.Write.contents l.writer)
