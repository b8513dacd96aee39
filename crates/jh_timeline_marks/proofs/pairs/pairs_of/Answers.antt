use Rattle.std.proofs.Common.{◌∙◌, ◌-◌, arith, nat_cmp}
use Rattle.std.specs.BTreeMap.{get}
use Rattle.jh_timeline_marks.proofs.CallLemmas.{paired_client, paired_other}
use Rattle.jh_timeline_marks.proofs.pairs.pairs_of.Goals as goal

pub loop-place-preserved-in_ok-insert : goal.loop-place-preserved-in_ok-insert
loop-place-preserved-in_ok-insert c =
    let l = c.loop-place in
    paired_client l.next c.insert.new.self l.pairs.items c.push_pair.new.pairs.items c.args.history.now l.place (l.place - 1) c.in-Client.client c.index-history-place.result
    c.copied-outcome.result (omega arith) (omega (arith, l.invariant.within)) c.index-history-place.is c.in-Client.is (c.copied-outcome.ensures ∙ c.get.ensures.value) l.invariant
    c.in_ok-insert.ensures.updates c.in_ok-push_pair.ensures

pub loop-place-preserved : goal.loop-place-preserved
loop-place-preserved c =
    let l = c.loop-place in
    paired_other (get nat_cmp l.next) l.pairs.items c.args.history.now l.place (l.place - 1) c.index-history-place.result (omega arith) (omega (arith, l.invariant.within))
    c.index-history-place.is c.in_default.is l.invariant
