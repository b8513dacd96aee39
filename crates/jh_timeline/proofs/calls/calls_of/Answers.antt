use Rattle.std.proofs.Common.{◌∙◌, ◌-◌, ◌++◌, Some, ap, arith, nat_cmp, subst}
use Rattle.std.specs.BTreeMap.{Updates}
use Rattle.jh_timeline.specs.LanesInside.{new_calls}
use Rattle.jh_timeline.proofs.CallLemmas.{answer_within, kept_client, kept_other}
use Rattle.jh_timeline.proofs.calls.calls_of.Goals as goal

pub index-requires : goal.index-requires
index-requires c =
    let l = c.loop-index in
    let long = answer_within _ l.calls.items c.in_ok-answers.answers.items c.args.history.now l.index l.invariant in
    let within = l.invariant.within in
    let size = c.in_ok-answers.answers.ok.0 in
    omega (arith, long, within, size)

pub loop-index-preserved-in_ok-insert : goal.loop-index-preserved-in_ok-insert
loop-index-preserved-in_ok-insert c =
    let l = c.loop-index in
    kept_client l.ahead c.insert.new.self l.calls.items c.add_call.new.calls.items c.in_ok-answers.answers.items c.args.history.now l.index (l.index - 1) c.in-Client.client c.index-history-index.result
    c.copied-behind.result c.index.result.now (omega arith) (omega (arith, l.invariant.within)) c.index-history-index.is c.in-Client.is (c.copied-behind.ensures ∙ c.get.ensures.value) l.invariant
    (subst (λ v. Updates nat_cmp l.ahead c.insert.new.self c.in-Client.client (Some v)) c.ahead_with.ensures c.in_ok-insert.ensures.updates)
    (c.in_ok-add_call.ensures ∙ ap (λ t. l.calls.items ++ new_calls c.index-history-index.result.kind t c.in-Client.client (l.index - 1) c.copied-behind.result) c.index.ensures)

pub loop-index-preserved : goal.loop-index-preserved
loop-index-preserved c =
    let l = c.loop-index in
    kept_other _ l.calls.items c.in_ok-answers.answers.items c.args.history.now l.index (l.index - 1) c.index-history-index.result (omega arith) (omega (arith, l.invariant.within))
    c.index-history-index.is c.in_default.is l.invariant
