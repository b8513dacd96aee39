use Rattle.jh_env.proofs.NamingLemmas.{bumps_made, match_both}
use Rattle.jh_env.proofs.faults.Fault.bump.Goals as goal

pub returns-clause-made : goal.returns-clause-made
returns-clause-made c = match_both c.of_bumps.result (bumps_made c.args.nodes.now c.args.bumps.now) (λ e refused. refused) c.of_bumps.ensures.made
