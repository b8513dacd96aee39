-- The fix is all that stands.
use Rattle.std.proofs.Common.{[]}
use Rattle.jh_fault_tests.proofs.env.largest.take.Goals as goal

pub take-requires : goal.take-requires
take-requires c = ([], [], c.requires)
