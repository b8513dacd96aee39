use Rattle.std.proofs.Common.{◌-◌, nat_cmp, arith, refl}
use Rattle.std.specs.BTreeMap.{get}
use Rattle.jh_timeline_marks.proofs.MarkLemmas.{kept_all, kept_put}
use Rattle.jh_timeline_marks.proofs.places.places_of.Goals as goal

pub loop-place-preserved : goal.loop-place-preserved
loop-place-preserved c =
    let l = c.loop-place in
    kept_put l.places c.insert.new.self c.args.numbers.now l.place (l.place - 1) _ (omega arith) (omega (arith, l.invariant.within))
    refl l.invariant c.in_ok-insert.ensures.updates

pub returns : goal.returns
returns c =
    let l = c.loop-place in
    kept_all (get nat_cmp l.places) c.args.numbers.now l.place (omega arith) l.invariant
