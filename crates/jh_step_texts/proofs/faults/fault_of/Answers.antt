use Rattle.jh_step_texts.proofs.faults.fault_of.Goals as goal

pub returns-in-Links-clause-parsed : goal.returns-in-Links-clause-parsed
returns-in-Links-clause-parsed c = rw c.in-Links.is c.on_links.ensures.parsed

pub returns-in-Nodes-clause-parsed : goal.returns-in-Nodes-clause-parsed
returns-in-Nodes-clause-parsed c = rw c.in-Nodes.is c.on_nodes.ensures.parsed
