use Rattle.jh_nemesis.proofs.CursorLemmas.{at_start}
use Rattle.jh_nemesis.proofs.nemesis.Nemesis.is_at_start.Goals as goal

pub returns : goal.returns
returns c = rw (← c.self.view_is) (at_start c.self.inside.accepted.items c.self.inside.cursor)
