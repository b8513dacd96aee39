use Rattle.std.proofs.Common.{◌≡◌, ℕ, ap, ◌∙◌, nat_cmp}
use Rattle.std.specs.BTreeMap.{get}
use Rattle.std.proofs.lemmas.Result.{IfOk-weaker}
use Rattle.jh_ops.specs.Operation.{operations}
use Rattle.jh_timeline_marks.specs.Marked.{invocations_of, place_among}
use Rattle.jh_timeline_marks.proofs.MarkLemmas.{invocations_are}
use Rattle.jh_timeline_marks.proofs.orders.numbers_of.Goals as goal

pub returns : goal.returns
returns c =
    let known = c.deref.ensures.value ∙ c.in_ok-found.ensures ∙ invocations_are c.args.history.now in
    IfOk-weaker c.places_of.result (λ numbers. (index : ℕ) → get nat_cmp numbers index ≡ place_among c.deref.result.now index)
    (λ numbers. (index : ℕ) → get nat_cmp numbers index ≡ place_among (invocations_of (operations c.args.history.now)) index)
    (λ numbers given index. given index ∙ ap (λ xs. place_among xs index) known) c.places_of.ensures
