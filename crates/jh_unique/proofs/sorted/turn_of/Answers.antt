use Rattle.jh_unique.proofs.SortedLemmas.{turn_sorted}
use Rattle.jh_unique.proofs.sorted.turn_of.Goals as goal

pub returns : goal.returns
returns c = turn_sorted c.args.ops.now c.in_ok-entries.entries.items c.in_ok-turn.turn.items c.in_ok-entries.ensures c.in_ok-turn.ensures
