use Rattle.jh_env.proofs.environment.Env.put.Goals as goal

pub returns-clause-stands : goal.returns-clause-stands
returns-clause-stands c = rw (← c.self.view_is, ← c.fault.view_is) c.put.ensures.stands
