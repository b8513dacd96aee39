use Rattle.std.proofs.Common.{sym}
use Rattle.jh_ops.specs.Operation.{operations}
use Rattle.jh_audit.proofs.AuditLemmas.{order_from, order_gives}
use Rattle.jh_audit.proofs.checks.is_in_order.Goals as goal

pub returns-in-Some-just_before : goal.returns-in-Some-just_before
returns-in-Some-just_before c =
    let history = operations c.args.history.now in
    let place = c.args.place in
    let asked = c.in-Some-just_before.asked in
    let number = c.in-Some.number in
    let names = sym c.in-Some.ensures in
    let before = c.in-Some-just_before.ensures in (
      λ holds. order_from history place asked number c.args.form names before (c.names_below.ensures.0 holds),
      λ order. c.names_below.ensures.1 (order_gives history place asked number c.args.form names before order),
    )
