use Rattle.std.proofs.Common.{◌≡◌, ◌∙◌, ◌<◌, ℕ, length, get_or, ap, sym}
use Rattle.std.specs.Prelude.{None, Some}
use Rattle.jh_ops.specs.Operation.{Operation, operation, operations}
use Rattle.jh_ops.specs.declared.operation.Op.{Op}
use Rattle.jh_ops.specs.declared.pairs.Pair.{Pair}
use Rattle.jh_check.specs.CounterResults.{end_place}
use Rattle.jh_check.specs.Shown.{last_operation_at}
use Rattle.jh_check.proofs.ShownLemmas.{all_zip_more, last_operation_there}
use Rattle.jh_check.proofs.shown.operations_of.Goals as goal

pub loop-number-preserved : goal.loop-number-preserved
loop-number-preserved c =
    let history = c.args.history.now in
    let pairs = c.args.pairs.now in
    let numbers = c.args.numbers.now in
    let index = c.loop-number.number-index in
    let number = get_or numbers index 0 in
    let none : Pair = record { invoke = 0; outcome = None } in
    let shown = c.index-history-end_of.result in
    let there : number < length pairs = c.requires.numbers index 0 c.loop-number-test.true in
    let found : last_operation_at (operations history) pairs number ≡ Some (operation (get_or history (end_place (get_or pairs number none)) shown)) =
    last_operation_there history pairs number none shown there (c.requires.within number none there) in
    let same : operation (get_or history (end_place (get_or pairs number none)) shown) ≡ operation c.in_ok-copy.field-0 =
    ap (λ (last : ℕ). operation (get_or history last shown)) (sym c.end_of.ensures)
    ∙ sym (ap operation c.index-history-end_of.is) ∙ sym c.in_ok-copy.ensures in
    rw c.in_ok-push.ensures.items
    (all_zip_more (λ (at : ℕ) (op : Op). last_operation_at (operations history) pairs at ≡ Some (operation op)) numbers c.loop-number.shown.items index 0 c.in_ok-copy.field-0
    c.loop-number-test.true c.loop-number.invariant (found ∙ ap (λ (op : Operation). Some op) same))
