use Rattle.jh_checkers.proofs.lines.write_invalid.Goals as goal

pub returns-in-Some-clause-bytes : goal.returns-in-Some-clause-bytes
returns-in-Some-clause-bytes g c = rw c.in-Some.is c.write_stuck.ensures.bytes
