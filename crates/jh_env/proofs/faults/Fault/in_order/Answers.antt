use Rattle.std.proofs.Common.{subst, sym}
use Rattle.jh_env.specs.Faults.{IsFault}
use Rattle.jh_tables.specs.Plain.{fault_of}
use Rattle.jh_env.proofs.ApartLemmas.{in_order_is_fault}
use Rattle.jh_env.proofs.faults.Fault.in_order.Goals as goal

pub invariant_of-result : goal.invariant_of-result
invariant_of-result c = subst IsFault (sym c.in_ok-fault.ensures) (in_order_is_fault (fault_of c.self.inside.fault) c.self.invariant)
