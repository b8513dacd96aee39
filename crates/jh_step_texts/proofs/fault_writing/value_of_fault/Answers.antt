use Rattle.std.proofs.Common.{length, subst, sym}
use Rattle.jh_env.specs.Faults.{FitsCount}
use Rattle.jh_step_texts.proofs.FaultOrderLemmas.{in_order_fits}
use Rattle.jh_step_texts.proofs.fault_writing.value_of_fault.Goals as goal

pub fault_values-requires : goal.fault_values-requires
fault_values-requires c =
    subst (FitsCount (length c.args.nodes.now)) (sym c.in_ok-in_order.ensures) (in_order_fits (length c.args.nodes.now) c.args.fault.now c.requires)
