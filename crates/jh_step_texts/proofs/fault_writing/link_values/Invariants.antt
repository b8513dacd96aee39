use Rattle.std.proofs.Common.{◌≡◌, map, take}
use Rattle.jh_edn.specs.View.{views}
use Rattle.jh_step_texts.specs.FaultWritten.{edn_of_link}
use Rattle.jh_step_texts.proofs.fault_writing.link_values.Given as goal

abbrev pub invariant-loop-link : goal.invariant-loop-link
invariant-loop-link l = views l.values.items ≡ map (edn_of_link l.nodes) (take l.link-index l.links)
