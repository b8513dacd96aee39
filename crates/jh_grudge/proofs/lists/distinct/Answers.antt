use Rattle.std.proofs.Common.{[]}
use Rattle.jh_grudge.proofs.MetNodeLemmas.{marks_none, given}
use Rattle.jh_grudge.proofs.lists.distinct.Goals as goal

pub returns : goal.returns
returns c = given c.mark_new.result c.mark_new.new.seen c.args.nodes.now (c.mark_new.ensures [] (marks_none 256))
