use Rattle.std.proofs.Common.{◌≡◌, false, refl, ◌∙◌, sym, ap, subst, take, arith}
use Rattle.std.specs.Prelude.{slice_get, Some, option_map}
use Rattle.std.proofs.lemmas.List.{take_all, take-map}
use Rattle.std.proofs.lemmas.List.Elements.{All-push}
use Rattle.std.proofs.lemmas.Option.{slice_get-map, slice_get_read}
use Rattle.jh_ops.specs.Operation.{operation, operations}
use Rattle.jh_check.proofs.ListLemmas.{mapped_more}
use Rattle.jh_independent.specs.Keys.{AreTuples, is_bad}
use Rattle.jh_independent.proofs.split.first_bad.Goals as goal

pub returns-then-is_bad : goal.returns-then-is_bad
returns-then-is_bad c =
    let history = c.args.history.now in
    let place = c.loop-place.place in
    let op = c.index-history-place.result in
    let here : slice_get (operations history) place ≡ Some (operation op) =
    slice_get-map operation history place ∙ ap (option_map operation) (slice_get_read history _ place op refl c.loop-place-test.true c.index-history-place.is) in
    (operation op, here, sym (c.if-is_bad.ensures), subst AreTuples (sym (take-map operation place history)) c.loop-place.invariant)

pub loop-place-preserved : goal.loop-place-preserved
loop-place-preserved c =
    let history = c.args.history.now in
    let i = c.loop-place.place in
    let op = c.index-history-place.result in
    subst AreTuples (sym (mapped_more operation history i op c.loop-place-test.true c.index-history-place.is))
    (All-push (λ op. is_bad op ≡ false) (operations (take i history)) (operation op) c.loop-place.invariant (sym (c.if-is_bad.ensures)))

pub returns : goal.returns
returns c = subst (λ ops. AreTuples (operations ops)) (take_all c.loop-place.place c.args.history.now (omega arith)) c.loop-place.invariant
