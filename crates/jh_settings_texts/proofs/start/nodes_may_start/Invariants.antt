use Rattle.std.proofs.Common.{All, take}
use Rattle.jh_settings_texts.specs.StartInside.{MayStartNode}
use Rattle.jh_settings_texts.proofs.start.nodes_may_start.Given as goal

abbrev pub invariant-loop-node : goal.invariant-loop-node
invariant-loop-node l = All (MayStartNode l.env) (take l.node-index l.nodes)
