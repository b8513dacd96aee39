-- The second fault is the only one that stands.
use Rattle.std.proofs.Common.{[]}
use Rattle.jh_fault_tests.proofs.env.taking.take_second.Goals as goal

pub take-requires : goal.take-requires
take-requires c = ([], [], c.requires)

pub returns : goal.returns
returns c = c.take.ensures.stands [] [] c.requires
