use Rattle.std.proofs.Common.{FitsSigned, rules, sym, w64}
use Rattle.std.proofs.lemmas.Int.{to_z-of_z}
use Rattle.jh_bands.proofs.ReplayLemmas.{not_withdrawn, only_found, withdrawn_at}
use Rattle.jh_bands.proofs.replay.withdrawal.Goals as goal

pub returns-in-Some-clause-next : goal.returns-in-Some-clause-next
returns-in-Some-clause-next c =
    let fits : FitsSigned w64 c.args.id = search rules in
    let found = simp to_z-of_z at c.in-Some.ensures in
    withdrawn_at c.args.id c.in-Some.place c.args.active.now c.requires (sym found)

pub returns-in-Some-clause-fits : goal.returns-in-Some-clause-fits
returns-in-Some-clause-fits c =
    let fits : FitsSigned w64 c.args.id = search rules in
    let found = simp to_z-of_z at c.in-Some.ensures in
    only_found c.args.id c.in-Some.place c.args.active.now c.requires (sym found)

pub returns-in-None-clause-next : goal.returns-in-None-clause-next
returns-in-None-clause-next c =
    let fits : FitsSigned w64 c.args.id = search rules in
    let found = simp to_z-of_z at c.in-None.ensures in
    not_withdrawn c.args.id c.args.active.now (sym found)
