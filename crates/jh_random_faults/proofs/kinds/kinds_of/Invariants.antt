use Rattle.std.proofs.Common.{◌≡◌, take}
use Rattle.std.specs.Prelude.{filter}
use Rattle.jh_step_texts.specs.Kinds.{fault_kinds}
use Rattle.jh_random_faults.specs.Kinds.{is_drawn}
use Rattle.jh_random_faults.proofs.kinds.kinds_of.Given as goal

abbrev pub invariant-loop-kind : goal.invariant-loop-kind
invariant-loop-kind l = l.kinds.items ≡ filter (is_drawn l.palette l.count) (take l.kind-index fault_kinds)
