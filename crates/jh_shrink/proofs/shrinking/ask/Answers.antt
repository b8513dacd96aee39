use Rattle.std.proofs.Common.{rules}
use Rattle.jh_shrink.proofs.SubsequenceLemmas.{sub_self}
use Rattle.jh_shrink.proofs.shrinking.ask.Goals as goal

-- the judge had no answer to the schedule itself
pub returns-in-None-clause-answer : goal.returns-in-None-clause-answer
returns-in-None-clause-answer g c = (c.args.schedule.now, sub_self c.args.schedule.now, search rules)
