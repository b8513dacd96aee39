use Rattle.std.proofs.Common.{◌≡◌, map, take}
use Rattle.jh_edn.specs.View.{view_pairs}
use Rattle.jh_step_texts.specs.FaultWritten.{edn_of_bump}
use Rattle.jh_step_texts.proofs.fault_writing.bump_pairs.Given as goal

abbrev pub invariant-loop-node : goal.invariant-loop-node
invariant-loop-node l = view_pairs l.pairs.items ≡ map (edn_of_bump l.nodes) (take l.node-index l.bumps)
