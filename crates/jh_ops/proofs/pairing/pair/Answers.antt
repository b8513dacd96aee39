use Rattle.std.proofs.Common.{◌≡◌, ap, ◌∙◌, sym, length, Ok, Err, rules}
use Rattle.std.specs.Prelude.{unwrap_or}
use Rattle.std.proofs.lemmas.Result.{err_from_is_err_and}
use Rattle.jh_ops.specs.Operation.{operations}
use Rattle.jh_ops.specs.StageInside.{stage_after, pairs_after, pair_awaited}
use Rattle.jh_ops.specs.declared.pairing.Stage.TheVariants.{Idle}
use Rattle.jh_ops.proofs.PlaceLemmas.{stages_in, put_here, put_apart, stands_skip, stands_more, first_error, refuses, wants_memory, awaited_is_there, stands_end, not_well_formed}
use Rattle.jh_ops.proofs.PairPlaceLemmas.{pairs_within}
use Rattle.jh_ops.proofs.pairing.pair.Goals as goal

pub loop-place-preserved-in_default : goal.loop-place-preserved-in_default
loop-place-preserved-in_default c =
    stands_skip _ c.loop-place.pairs.items c.args.history.now c.loop-place.place c.index-history-place.result c.loop-place-test.true c.index-history-place.is c.in_default.is c.loop-place.invariant

pub returns-in_err-next-clause-judged : goal.returns-in_err-next-clause-judged
returns-in_err-next-clause-judged c =
    let l = c.loop-place in
    let op = c.index-history-place.result in
    let e = c.in_err-next.field-0.0 in
    let stage : c.unwrap_or-stage.result ≡ stages_in l.stages c.in-Client.client = c.unwrap_or-stage.ensures ∙ ap (λ o. unwrap_or o Idle) (c.copied.ensures ∙ c.get.ensures.value) in
    let step : stage_after (stages_in l.stages c.in-Client.client) op.kind l.place c.len.result ≡ Err e = ap (λ s. stage_after s op.kind l.place c.len.result) (sym stage) ∙ sym c.in_err-next.ensures in
    let has = first_error (stages_in l.stages) l.pairs.items c.args.history.now l.place op c.in-Client.client c.len.result e c.loop-place-test.true c.index-history-place.is c.in-Client.is l.invariant step in
    let p = err_from_is_err_and c.from_residual.result c.from_residual.ensures.1 in
    rw (p.1, p.2) (refuses (operations c.args.history.now) (stages_in l.stages c.in-Client.client) op.kind l.place c.len.result e step has)

pub returns-in_err-next-clause-accepts : goal.returns-in_err-next-clause-accepts
returns-in_err-next-clause-accepts c good =
    let l = c.loop-place in
    let op = c.index-history-place.result in
    let e = c.in_err-next.field-0.0 in
    let stage : c.unwrap_or-stage.result ≡ stages_in l.stages c.in-Client.client = c.unwrap_or-stage.ensures ∙ ap (λ o. unwrap_or o Idle) (c.copied.ensures ∙ c.get.ensures.value) in
    let step : stage_after (stages_in l.stages c.in-Client.client) op.kind l.place c.len.result ≡ Err e = ap (λ s. stage_after s op.kind l.place c.len.result) (sym stage) ∙ sym c.in_err-next.ensures in
    let has = first_error (stages_in l.stages) l.pairs.items c.args.history.now l.place op c.in-Client.client c.len.result e c.loop-place-test.true c.index-history-place.is c.in-Client.is l.invariant step in
    absurd (not_well_formed (operations c.args.history.now) e has good)

pub record_pair-requires : goal.record_pair-requires
record_pair-requires c at e =
    let l = c.loop-place in
    let stage : c.unwrap_or-stage.result ≡ stages_in l.stages c.in-Client.client = c.unwrap_or-stage.ensures ∙ ap (λ o. unwrap_or o Idle) (c.copied.ensures ∙ c.get.ensures.value) in
    awaited_is_there (stages_in l.stages) l.pairs.items (operations c.args.history.now) l.place c.in-Client.client at l.invariant (ap pair_awaited (sym stage) ∙ e)

pub returns-in_err-record_pair-clause-judged : goal.returns-in_err-record_pair-clause-judged
returns-in_err-record_pair-clause-judged c =
    let l = c.loop-place in
    let op = c.index-history-place.result in
    let stage : c.unwrap_or-stage.result ≡ stages_in l.stages c.in-Client.client = c.unwrap_or-stage.ensures ∙ ap (λ o. unwrap_or o Idle) (c.copied.ensures ∙ c.get.ensures.value) in
    let step : stage_after (stages_in l.stages c.in-Client.client) op.kind l.place c.len.result ≡ Ok c.in_ok-next.next = ap (λ s. stage_after s op.kind l.place c.len.result) (sym stage) ∙ sym c.in_ok-next.ensures in
    let p = err_from_is_err_and c.from_residual-in_err-record_pair.result c.from_residual-in_err-record_pair.ensures.1 in
    rw (p.1, p.2) (wants_memory (stages_in l.stages) l.pairs.items c.args.history.now l.place op c.in-Client.client c.len.result c.in_ok-next.next c.loop-place-test.true c.index-history-place.is c.in-Client.is l.invariant step)

pub returns-in_err-insert-clause-judged : goal.returns-in_err-insert-clause-judged
returns-in_err-insert-clause-judged c =
    let l = c.loop-place in
    let op = c.index-history-place.result in
    let stage : c.unwrap_or-stage.result ≡ stages_in l.stages c.in-Client.client = c.unwrap_or-stage.ensures ∙ ap (λ o. unwrap_or o Idle) (c.copied.ensures ∙ c.get.ensures.value) in
    let step : stage_after (stages_in l.stages c.in-Client.client) op.kind l.place c.len.result ≡ Ok c.in_ok-next.next = ap (λ s. stage_after s op.kind l.place c.len.result) (sym stage) ∙ sym c.in_ok-next.ensures in
    let p = err_from_is_err_and c.from_residual-in_err-insert.result c.from_residual-in_err-insert.ensures.1 in
    rw (p.1, p.2) (wants_memory (stages_in l.stages) l.pairs.items c.args.history.now l.place op c.in-Client.client c.len.result c.in_ok-next.next c.loop-place-test.true c.index-history-place.is c.in-Client.is l.invariant step)

pub loop-place-preserved : goal.loop-place-preserved
loop-place-preserved c =
    let l = c.loop-place in
    let op = c.index-history-place.result in
    let client = c.in-Client.client in
    let stage : c.unwrap_or-stage.result ≡ stages_in l.stages client = c.unwrap_or-stage.ensures ∙ ap (λ o. unwrap_or o Idle) (c.copied.ensures ∙ c.get.ensures.value) in
    let long : c.len.result ≡ length l.pairs.items = search rules in
    let step : stage_after (stages_in l.stages client) op.kind l.place (length l.pairs.items) ≡ Ok c.in_ok-next.next =
    ap (λ s. stage_after s op.kind l.place (length l.pairs.items)) (sym stage) ∙ ap (stage_after c.unwrap_or-stage.result op.kind l.place) (sym long) ∙ sym c.in_ok-next.ensures in
    let noted : c.record_pair.new.pairs.items ≡ pairs_after (stages_in l.stages client) l.place l.pairs.items =
    c.in_ok-record_pair.ensures ∙ ap (λ s. pairs_after s l.place l.pairs.items) stage in
    stands_more (stages_in l.stages) (stages_in c.insert.new.self) l.pairs.items c.record_pair.new.pairs.items c.args.history.now l.place op client c.in_ok-next.next
    c.loop-place-test.true c.index-history-place.is c.in-Client.is l.invariant step
    (put_here l.stages c.insert.new.self client c.in_ok-next.next c.in_ok-insert.ensures.updates)
    (put_apart l.stages c.insert.new.self client c.in_ok-next.next c.in_ok-insert.ensures.updates) noted

pub returns-clause-judged : goal.returns-clause-judged
returns-clause-judged c =
    stands_end _ c.loop-place.pairs.items c.args.history.now c.loop-place.place c.loop-place-test.false c.loop-place.invariant

pub returns-clause-within : goal.returns-clause-within
returns-clause-within c =
    let parsed = stands_end _ c.loop-place.pairs.items c.args.history.now c.loop-place.place c.loop-place-test.false c.loop-place.invariant in
    pairs_within c.args.history.now c.loop-place.pairs.items parsed.1
