use Rattle.jh_env.proofs.NamingLemmas.{cut_made, match_both}
use Rattle.jh_env.proofs.faults.Fault.cut.Goals as goal

pub returns-clause-made : goal.returns-clause-made
returns-clause-made c = match_both c.on_links.result (cut_made c.args.nodes.now c.args.links.now) (λ e refused. refused) c.on_links.ensures.made
