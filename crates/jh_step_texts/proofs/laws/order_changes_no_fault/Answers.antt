use Rattle.jh_env.proofs.ApartLemmas.{links_kept, nodes_kept}
use Rattle.jh_step_texts.proofs.FaultOrderLemmas.{in_order_does, in_order_fits, in_order_stays}
use Rattle.jh_step_texts.proofs.laws.order_changes_no_fault.Goals as goal

pub returns-clause-does : goal.returns-clause-does
returns-clause-does c = in_order_does

pub returns-clause-fits : goal.returns-clause-fits
returns-clause-fits c = in_order_fits

pub returns-clause-links_kept : goal.returns-clause-links_kept
returns-clause-links_kept c = links_kept

pub returns-clause-nodes_kept : goal.returns-clause-nodes_kept
returns-clause-nodes_kept c = nodes_kept

pub returns-clause-stays : goal.returns-clause-stays
returns-clause-stays c = in_order_stays
