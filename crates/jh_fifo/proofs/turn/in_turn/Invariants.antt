use Rattle.std.proofs.Common.{◌+◌, ◌-◌, length}
use Rattle.jh_fifo.specs.Lines.{IsTaking}
use Rattle.jh_fifo.proofs.turn.in_turn.Given as goal

abbrev pub invariant-loop-early : goal.invariant-loop-early
invariant-loop-early l = IsTaking l.spans l.entered.items l.left.items l.line.taken.items l.line.turn.items l.line.from l.line.leaving l.early l.late

abbrev pub decreases-loop-early : goal.decreases-loop-early
decreases-loop-early l = (length l.entered.items - l.early) + (length l.left.items - l.late)
