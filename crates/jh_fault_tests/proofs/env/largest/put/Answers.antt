-- The fix is put where nothing stands.
use Rattle.std.proofs.Common.{ℕ, []}
use Rattle.jh_env.specs.Faults.{FaultValue}
use Rattle.jh_fault_tests.proofs.StampLemmas.{one}
use Rattle.jh_fault_tests.proofs.env.largest.put.Goals as goal

pub returns : goal.returns
returns c =
    let fix : ℕ × FaultValue = (7, c.args.fix.now) in
    c.put.ensures.stands [] [] (one fix) c.requires.none
