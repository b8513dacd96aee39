use Rattle.std.proofs.Common.{inl, inr, ◌∙◌}
use Rattle.jh_env.specs.Amounts.{link_fault_of}
use Rattle.jh_step_texts.proofs.FaultTextLemmas.{links_parsed, links_unparsed}
use Rattle.jh_step_texts.proofs.faults.on_links.Goals as goal

pub returns-in-Ok-clause-parsed : goal.returns-in-Ok-clause-parsed
returns-in-Ok-clause-parsed c = links_parsed c.args.nodes.now (link_fault_of c.args.given) c.args.links.now c.in-Ok.fault c.in-Ok.ensures.made

pub returns-in-Err-clause-parsed : goal.returns-in-Err-clause-parsed
returns-in-Err-clause-parsed c = rw c.from.ensures (links_unparsed c.args.nodes.now (link_fault_of c.args.given) c.args.links.now c.in-Err.refusal c.in-Err.ensures.made)
