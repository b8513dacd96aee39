use Rattle.std.proofs.Common.{ap, sym}
use Rattle.std.specs.Prelude.{nat_le}
use Rattle.jh_nemesis.specs.Steps.{max_steps}
use Rattle.jh_nemesis.proofs.AcceptedLemmas.{length-past}
use Rattle.jh_nemesis.proofs.nemesis.Nemesis.is_full.Goals as goal

pub returns : goal.returns
returns c = rw (← c.self.view_is) (ap (nat_le max_steps) (sym (length-past c.self.inside.accepted.items c.self.inside.cursor)))
