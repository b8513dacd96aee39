use Rattle.std.proofs.Common.{◌≡◌, map, take}
use Rattle.jh_edn.specs.Edn.{str}
use Rattle.jh_edn.specs.View.{views}
use Rattle.jh_env.proofs.texts.writing.names_value.Given as goal

abbrev pub invariant-loop-node : goal.invariant-loop-node
invariant-loop-node l = views l.names.items ≡ map str (take l.node-index l.nodes)
