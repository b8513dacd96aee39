use Rattle.std.proofs.Common.{◌≡◌, Some, sym, subst}
use Rattle.jh_linear.specs.Order.{Allows}
use Rattle.jh_linear.specs.SearchInside.{IsAmong}
use Rattle.jh_linear.specs.declared.moves.Move.{Move}
use Rattle.jh_linear.proofs.MoveLemmas.{among_push, more_push}
use Rattle.jh_linear.proofs.moves.push_move.Goals as goal

pub returns-in_ok-push-clause-more : goal.returns-in_ok-push-clause-more
returns-in_ok-push-clause-more c =
    let p = c.args.problem.now in
    let config = c.args.config.now in
    let move : Move = record { source = c.args.source; value = c.in-Some.value } in
    more_push p config c.args.moves.now.items c.push.new.self.items move c.in_ok-push.ensures.items
    (c.requires, subst (λ op. Allows op.call config.value c.in-Some.value) c.op_of.ensures c.in-Some.ensures.allowed)

pub returns-in_ok-push-clause-among : goal.returns-in_ok-push-clause-among
returns-in_ok-push-clause-among c = λ next allowed.
    let config = c.args.config.now in
    let move : Move = record { source = c.args.source; value = c.in-Some.value } in
    let same : Some c.in-Some.value ≡ Some next = c.in-Some.ensures.only next (subst (λ op. Allows op.call config.value next) (sym c.op_of.ensures) allowed) in
    let is : c.in-Some.value ≡ next = cc in
    subst (IsAmong c.push.new.self.items c.args.source) is (among_push c.args.problem.now config c.args.moves.now.items c.push.new.self.items move c.in_ok-push.ensures.items)
