use Rattle.std.proofs.Common.{◌∙◌, ◌-◌, FitsSigned, arith, rules, w64}
use Rattle.std.specs.BTreeMap.{get}
use Rattle.std.specs.Ordering.{int_cmp}
use Rattle.std.proofs.lemmas.Int.{to_z-of_z}
use Rattle.jh_bands.proofs.BandLemmas.{kept_all, kept_more}
use Rattle.jh_bands.proofs.bands.bands_of_changes.Goals as goal

pub loop-left-preserved : goal.loop-left-preserved
loop-left-preserved c =
    let l = c.loop-left in
    let fits : FitsSigned w64 c.index-changes-left.result.fault.id = search rules in
    let updates = simp to_z-of_z at c.in_ok-insert.ensures.updates in
    kept_more l.next c.insert.new.self l.bands.items c.add_band.new.bands.items c.args.changes.now l.left (l.left - 1) c.index-changes-left.result c.copied-to.result (omega arith)
    (omega (arith, l.invariant.within)) c.index-changes-left.is (c.copied-to.ensures ∙ c.get.ensures.value) l.invariant updates c.in_ok-add_band.ensures

pub returns : goal.returns
returns c =
    let l = c.loop-left in
    kept_all (get int_cmp l.next) l.bands.items c.reverse.new.self.items c.args.changes.now l.left (omega arith) l.invariant c.reverse.ensures.items
