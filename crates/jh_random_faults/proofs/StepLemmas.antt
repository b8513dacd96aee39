-- Steps whose faults have their links, nodes or bumps in order.
use Rattle.std.proofs.Common.{◌≡◌, ℕ, refl, ap}
use Rattle.jh_nemesis.specs.Steps.{FitsNodes}
use Rattle.jh_nemesis.specs.declared.steps.Step.{Step}
use Rattle.jh_nemesis.specs.declared.steps.Step.TheVariants.{Begin, Withdraw, WithdrawAll, Undo, Redo}
use Rattle.jh_env.specs.Faults.{FaultValue, is_self_link}
use Rattle.jh_env.specs.Faults.{Cut, Slow, Loss, Fix, Pause, Kill, Bump}
use Rattle.jh_env.specs.FaultOrder.{fault_in_order, is_link_before}
use Rattle.jh_step_texts.specs.StepWritten.{step_in_order}
use Rattle.jh_step_texts.proofs.FaultOrderLemmas.{in_order_fits, in_order_stays}
use Rattle.jh_laws.specs.StepLines.{HasNoSelfLink}
use Rattle.jh_laws.proofs.OrderLemmas.{none_in_order}

-- in order, a step fits where it did
pub step_fits : (count : ℕ) (step : Step) → FitsNodes count step → FitsNodes count (step_in_order step)
step_fits count (Begin id fault) fits = in_order_fits count fault fits
step_fits count (Withdraw id) fits = tt
step_fits count WithdrawAll fits = tt
step_fits count Undo fits = tt
step_fits count Redo fits = tt

-- in order, no link of a fault leads from a node to itself where none did
pub fault_leads : (fault : FaultValue) → HasNoSelfLink fault → HasNoSelfLink (fault_in_order fault)
fault_leads (Cut links) none = none_in_order is_link_before is_self_link links none
fault_leads (Slow ms links) none = none_in_order is_link_before is_self_link links none
fault_leads (Loss level links) none = none_in_order is_link_before is_self_link links none
fault_leads (Fix ms links) none = none_in_order is_link_before is_self_link links none
fault_leads (Pause nodes) none = refl
fault_leads (Kill nodes) none = refl
fault_leads (Bump bumps) none = refl

-- what is in order stays as it is
pub step_stays : (step : Step) → step_in_order (step_in_order step) ≡ step_in_order step
step_stays (Begin id fault) = ap (Begin id) (in_order_stays fault)
step_stays (Withdraw id) = refl
step_stays WithdrawAll = refl
step_stays Undo = refl
step_stays Redo = refl
