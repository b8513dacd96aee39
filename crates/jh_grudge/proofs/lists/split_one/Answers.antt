use Rattle.std.proofs.Common.{◌≡◌, rules}
use Rattle.jh_grudge.specs.Lists.{lists_of, split_of}
use Rattle.jh_grudge.proofs.SplitLemmas.{split_distinct}
use Rattle.jh_grudge.proofs.lists.split_one.Goals as goal

pub returns-clause-distinct : goal.returns-clause-distinct
returns-clause-distinct c =
    let parts : lists_of c.in_ok-vec.field-0.items ≡ split_of c.args.loner c.args.nodes.now = search rules in
    split_distinct c.in_ok-vec.field-0.items c.args.loner c.args.nodes.now parts
