use Rattle.std.proofs.Common.{sym, subst}
use Rattle.jh_unique.specs.Walk.{HasComeTo}
use Rattle.jh_unique.specs.Steps.{IsClusterList}
use Rattle.jh_unique.proofs.StepLemmas.{come_start, none_start}
use Rattle.jh_unique.proofs.lists.start_list.Goals as goal

pub walk-requires-clause-begun : goal.walk-requires-clause-begun
walk-requires-clause-begun c = subst (HasComeTo c.args.ops.now c.args.initial 0 c.in-Some.value.int) (sym c.new-in-Some.ensures.items) (come_start c.args.ops.now c.args.initial c.requires.once c.in-Some.value.int c.in-Some.ensures)

pub returns-in-None : goal.returns-in-None
returns-in-None c = subst (IsClusterList c.args.ops.now c.args.initial 0) (sym c.new.ensures.items) (none_start c.args.ops.now c.args.initial c.requires.once c.in-None.ensures)
