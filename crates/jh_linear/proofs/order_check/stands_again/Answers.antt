use Rattle.std.proofs.Common.{◌≡◌, length, get_or, sym, arith}
use Rattle.jh_linear.proofs.NumberSetLemmas.{false_if, place_of}
use Rattle.jh_linear.proofs.OrderLemmas.{not_behind, before_if, each_more}
use Rattle.jh_linear.proofs.order_check.stands_again.Goals as goal

pub returns-then-is_over : goal.returns-then-is_over
returns-then-is_over c =
    let ops = c.args.ops.now in
    let behind = c.args.behind.now in
    let l = c.loop-other in
    let over = c.is_over.ensures.0 c.if-is_over.true in
    sym (not_behind ops c.args.number behind l.other-index (omega arith) (c.requires.in_time c.if-in_time.true)
    (before_if ops c.args.number (get_or behind l.other-index 0) c.op_at-op.result c.op_at.result c.op_at-op.ensures c.op_at.ensures over)
    (each_more behind c.args.number l.other-index l.invariant c.if-other-number.false))

pub returns : goal.returns
returns c =
    let l = c.loop-other in
    let all : length c.args.behind.now ≡ l.other-index = omega arith in
    sym (false_if _ (λ there. let r = place_of c.args.behind.now c.args.number there in l.invariant r.0 (omega (arith, r.1, all)) r.2))
