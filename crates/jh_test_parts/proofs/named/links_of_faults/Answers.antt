use Rattle.std.proofs.Common.{arith}
use Rattle.std.proofs.lemmas.Grind.{common_steps}
use Rattle.jh_test_parts.proofs.NamedLemmas.{are_links}
use Rattle.jh_test_parts.proofs.named.links_of_faults.Goals as goal

pub returns : goal.returns
returns c =
    are_links (λ f. f.now) c.args.faults.now c.loop-fault.links.items c.sort_once.new.items.items (grind (arith, common_steps)) c.sort_once.ensures.order c.sort_once.ensures.same
