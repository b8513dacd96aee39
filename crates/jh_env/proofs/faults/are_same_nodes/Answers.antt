use Rattle.std.proofs.lemmas.Bool.Decides.{Decides-eqb}
use Rattle.std.proofs.lemmas.Slice.Eq.{slice_eq-Decides}
use Rattle.jh_env.proofs.faults.are_same_nodes.Goals as goal

pub returns : goal.returns
returns c = slice_eq-Decides Decides-eqb c.args.nodes.now c.args.others.now c.eq.result c.eq.ensures
