use Rattle.std.proofs.lemmas.Slice.Eq.{slice_eq-Decides}
use Rattle.jh_env.proofs.SameLemmas.{bumps_decide}
use Rattle.jh_env.proofs.faults.are_same_bumps.Goals as goal

pub returns : goal.returns
returns c = slice_eq-Decides bumps_decide c.args.bumps.now c.args.others.now c.eq.result c.eq.ensures
