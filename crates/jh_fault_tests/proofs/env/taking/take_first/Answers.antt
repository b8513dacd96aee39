-- The first fault is one that stands, and the second is left.
use Rattle.std.proofs.Common.{[], ◌∷◌}
use Rattle.jh_fault_tests.proofs.env.taking.take_first.Goals as goal

pub take-requires : goal.take-requires
take-requires c = ([], (1, c.args.second.now) ∷ [], c.requires)

pub returns : goal.returns
returns c = c.take.ensures.stands [] ((1, c.args.second.now) ∷ []) c.requires
