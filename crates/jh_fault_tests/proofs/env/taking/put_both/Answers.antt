-- The faults are put behind one another.
use Rattle.std.proofs.Common.{ℕ, [], ◌∷◌, arith}
use Rattle.jh_env.specs.Faults.{FaultValue}
use Rattle.jh_fault_tests.proofs.StampLemmas.{one, two}
use Rattle.jh_fault_tests.proofs.env.taking.put_both.Goals as goal

pub put-requires-2-clause-room : goal.put-requires-2-clause-room
put-requires-2-clause-room c =
    let first = c.put.ensures.stands [] [] (one (0, c.args.first.now)) c.requires.none in
    omega (arith, first.laid)

pub returns : goal.returns
returns c =
    let first : ℕ × FaultValue = (0, c.args.first.now) in
    let second : ℕ × FaultValue = (1, c.args.second.now) in
    c.put-2.ensures.stands (first ∷ []) [] (two first second (omega arith))
    (c.put.ensures.stands [] [] (one first) c.requires.none)
