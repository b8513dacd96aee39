use Rattle.jh_nemesis.proofs.CursorLemmas.{at_end}
use Rattle.jh_nemesis.proofs.nemesis.Nemesis.is_at_end.Goals as goal

pub returns : goal.returns
returns c =
    rw (← c.self.view_is, c.len.ensures, c.self.inside.accepted.ok.0)
    (at_end c.self.inside.accepted.items c.self.inside.cursor c.self.invariant.within)
