use Rattle.std.proofs.Common.{inl, inr, ◌∙◌}
use Rattle.jh_step_texts.proofs.FaultTextLemmas.{bumps_parsed, bumps_unparsed}
use Rattle.jh_step_texts.proofs.faults.of_bumps.Goals as goal

pub returns-in-Ok-clause-parsed : goal.returns-in-Ok-clause-parsed
returns-in-Ok-clause-parsed c = bumps_parsed c.args.nodes.now c.args.bumps.now c.in-Ok.fault c.in-Ok.ensures.made

pub returns-in-Err-clause-parsed : goal.returns-in-Err-clause-parsed
returns-in-Err-clause-parsed c = rw c.from.ensures (bumps_unparsed c.args.nodes.now c.args.bumps.now c.in-Err.refusal c.in-Err.ensures.made)
