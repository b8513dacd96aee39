use Rattle.std.proofs.lemmas.Slice.Eq.{slice_eq-Decides}
use Rattle.jh_env.proofs.SameLemmas.{links_decide}
use Rattle.jh_env.proofs.faults.are_same_links.Goals as goal

pub returns : goal.returns
returns c = slice_eq-Decides links_decide c.args.links.now c.args.others.now c.eq.result c.eq.ensures
