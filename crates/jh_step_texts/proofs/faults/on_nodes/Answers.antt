use Rattle.std.proofs.Common.{inl, inr, ◌∙◌}
use Rattle.jh_step_texts.proofs.FaultTextLemmas.{nodes_parsed, nodes_unparsed}
use Rattle.jh_step_texts.proofs.faults.on_nodes.Goals as goal

pub returns-in-Ok-clause-parsed : goal.returns-in-Ok-clause-parsed
returns-in-Ok-clause-parsed c = nodes_parsed c.args.nodes.now c.args.kind c.args.named.now c.in-Ok.fault c.in-Ok.ensures.made

pub returns-in-Err-clause-parsed : goal.returns-in-Err-clause-parsed
returns-in-Err-clause-parsed c = rw c.from.ensures (nodes_unparsed c.args.nodes.now c.args.kind c.args.named.now c.in-Err.refusal c.in-Err.ensures.made)
