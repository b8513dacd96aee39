use Rattle.std.proofs.Common.{get_or, None, refl, subst, sym, take}
use Rattle.std.proofs.lemmas.List.{get_or_default}
use Rattle.jh_ops.specs.Operation.{operations}
use Rattle.jh_ops.specs.declared.pairs.Pair.{Pair}
use Rattle.jh_plots.proofs.CallLemmas.{Numbered, numbered_more}
use Rattle.jh_plots.proofs.PointLemmas.{taken}
use Rattle.jh_plots.proofs.calls.calls_of.Goals as goal

pub loop-pair-preserved : goal.loop-pair-preserved
loop-pair-preserved c =
    let l = c.loop-pair in
    let history = c.args.history.now in
    let end = c.args.times.now.end in
    let pairs = c.args.pairs.now in
    let none : Pair = record { invoke = 0; outcome = None } in
    let pair = get_or pairs l.pair-index none in
    let less = (c.requires.within l.pair-index none c.loop-pair-test.true).invoke in
    let op = get_or history pair.invoke c.index-history-pair.result in
    subst (λ ps. Numbered (operations history) end ps c.number.new.self c.push.new.self.items) (sym (taken pairs l.pair-index pair none c.loop-pair-test.true refl))
    (numbered_more history end (take l.pair-index pairs) l.functions c.number.new.self l.calls.items c.push.new.self.items pair op c.in_ok-function.function c.call_of.result
    less (get_or_default history pair.invoke c.index-history-pair.result op less) c.in_ok-function.ensures.values c.in_ok-function.ensures.number
    c.call_of.ensures.call c.call_of.ensures.within c.in_ok-push.ensures.items l.invariant)
