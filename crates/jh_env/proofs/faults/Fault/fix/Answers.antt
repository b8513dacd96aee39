use Rattle.std.proofs.Common.{SFits, subst}
use Rattle.std.specs.Int.{w128}
use Rattle.std.specs.Prelude.{pos}
use Rattle.std.proofs.lemmas.Int.{to_z-of_z}
use Rattle.jh_tables.specs.declared.faults.LinkFault.TheVariants.{Fix}
use Rattle.jh_env.specs.Amounts.{link_fault_of}
use Rattle.jh_env.specs.Naming.{RefusesFault, judged_links, known_link}
use Rattle.jh_env.specs.declared.amounts.GivenLinkFault.TheVariants as Given
use Rattle.jh_env.proofs.AmountLemmas.{judged_fix}
use Rattle.jh_env.proofs.NamingLemmas.{links_made, match_both}
use Rattle.jh_env.proofs.faults.Fault.fix.Goals as goal

pub returns-clause-made : goal.returns-clause-made
returns-clause-made c =
    let names = c.args.nodes.now in
    let links = c.args.links.now in
    let judged = judged_fix c.args.ms c.from.result c.from.ensures in
    let fits : SFits w128 c.from.result = record { sfits = c.from.type_inv } in
    let made = simp to_z-of_z at c.on_links.ensures.made in
    match_both c.on_links.result (links_made names (Fix c.args.ms) _ links judged)
    (λ e refused. subst (λ given. RefusesFault (judged_links (known_link names) (link_fault_of (Given.Fix given)) links) links e) c.from.ensures refused) made
