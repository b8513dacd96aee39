use Rattle.std.proofs.Common.{FitsSigned, length, refl, rules, sym, w64}
use Rattle.std.proofs.lemmas.Int.{to_z-of_z}
use Rattle.jh_bands.proofs.ReplayLemmas.{begun_already, begun_last, new_last}
use Rattle.jh_bands.proofs.replay.beginning.Goals as goal

pub returns-in-Some-clause-next : goal.returns-in-Some-clause-next
returns-in-Some-clause-next c =
    let fits : FitsSigned w64 c.args.fault.id = search rules in
    let found = simp to_z-of_z at c.in-Some.ensures in
    begun_already c.args.fault c.in-Some.field-0 c.args.active.now (sym found)

pub returns-in-None-clause-next : goal.returns-in-None-clause-next
returns-in-None-clause-next c =
    let fits : FitsSigned w64 c.args.fault.id = search rules in
    let found = simp to_z-of_z at c.in-None.ensures in
    begun_last c.args.fault (length c.args.active.now) c.args.active.now refl (sym found)

pub returns-in-None-clause-fits : goal.returns-in-None-clause-fits
returns-in-None-clause-fits c =
    let fits : FitsSigned w64 c.args.fault.id = search rules in
    let found = simp to_z-of_z at c.in-None.ensures in
    new_last c.args.fault (length c.args.active.now) c.args.active.now refl (sym found)
