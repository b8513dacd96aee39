use Rattle.std.proofs.Common.{◌≡◌, ◌<◌, ◌∙◌, ap, sym, subst, length, map}
use Rattle.std.specs.Prelude.{All}
use Rattle.std.proofs.lemmas.List.{length-map}
use Rattle.std.proofs.lemmas.Result.{IfOk-weaker}
use Rattle.jh_edn.specs.View.{view}
use Rattle.jh_ops.specs.Operation.{operation, operations}
use Rattle.jh_independent.specs.Keys.{places_of, operation_without_key}
use Rattle.jh_independent.specs.PartsInside.{operation_at}
use Rattle.jh_independent.proofs.KeyHistoryLemmas.{part_is, places_within}
use Rattle.jh_independent.proofs.parts.history_of.Goals as goal

pub part_of-requires : goal.part_of-requires
part_of-requires c =
    let history = c.args.history.now in
    let key = view c.args.group.now.key in
    let places : c.deref.result.now ≡ places_of key (operations history) = c.deref.ensures.value ∙ c.requires in
    subst (λ places. All (λ place. place < length history) places) (sym places)
    (subst (λ count. All (λ place. place < count) (places_of key (operations history))) (length-map history operation) (places_within key (operations history)))

pub returns : goal.returns
returns c =
    let whole = operations c.args.history.now in
    let key = view c.args.group.now.key in
    IfOk-weaker c.part_of.result _ _ (λ part of.
    of ∙ ap (map (λ place. operation_without_key (operation_at whole place))) (c.deref.ensures.value ∙ c.requires) ∙ part_is key whole) c.part_of.ensures
