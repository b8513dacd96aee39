use Rattle.jh_checkers.proofs.lines.write_stuck_register.Goals as goal

pub returns-in-Some-clause-bytes : goal.returns-in-Some-clause-bytes
returns-in-Some-clause-bytes g c = rw c.in-Some.is c.write_with_reason.ensures.bytes

pub returns-in-None-clause-bytes : goal.returns-in-None-clause-bytes
returns-in-None-clause-bytes g c = rw c.in-None.is c.write_without_reason.ensures.bytes
