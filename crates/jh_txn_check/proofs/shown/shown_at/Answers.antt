use Rattle.std.proofs.Common.{Some, refl, sym, subst}
use Rattle.jh_ops.specs.Operation.{operations}
use Rattle.jh_txn_check.specs.Found.{AreShown}
use Rattle.jh_txn_check.proofs.shown.shown_at.Goals as goal

pub returns-in_ok-operations_of : goal.returns-in_ok-operations_of
returns-in_ok-operations_of c =
    let shown = c.in_ok-operations_of.field-0 in
    subst (λ b. AreShown (operations c.args.history.now) c.args.pairs.now b c.args.places.now (Some shown)) (sym c.if-explain.true) (shown, refl, c.in_ok-operations_of.ensures)
