use Rattle.jh_checkers.proofs.lines.write_stuck.Goals as goal

pub returns-in-Register-clause-bytes : goal.returns-in-Register-clause-bytes
returns-in-Register-clause-bytes g c = rw c.in-Register.is c.write_stuck_register.ensures.bytes

pub returns-in-Mutex-clause-bytes : goal.returns-in-Mutex-clause-bytes
returns-in-Mutex-clause-bytes g c = rw c.in-Mutex.is c.write_stuck_mutex.ensures.bytes
