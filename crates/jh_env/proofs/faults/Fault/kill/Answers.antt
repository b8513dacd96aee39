use Rattle.jh_tables.specs.declared.faults.NodeFault.TheVariants.{Kill}
use Rattle.jh_env.proofs.NamingLemmas.{nodes_made, match_both}
use Rattle.jh_env.proofs.faults.Fault.kill.Goals as goal

pub returns-clause-made : goal.returns-clause-made
returns-clause-made c = match_both c.on_nodes.result (nodes_made c.args.nodes.now Kill c.args.killed.now) (λ e refused. refused) c.on_nodes.ensures.made
