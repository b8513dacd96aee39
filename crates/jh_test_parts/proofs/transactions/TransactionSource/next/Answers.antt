use Rattle.std.proofs.Common.{◌≡◌, suc, ◌+◌, ◌-◌, ◌%◌, ◌++◌, ap, sym, ◌∙◌, arith}
use Rattle.jh_edn.specs.View.{views}
use Rattle.jh_test_parts.specs.Transactions.{next_ops}
use Rattle.jh_test_parts.proofs.TransactionLemmas.{op_made, source_made}
use Rattle.jh_test_parts.proofs.transactions.TransactionSource.next.Goals as goal

pub loop-op-preserved : goal.loop-op-preserved
loop-op-preserved c =
    let count = 1 + c.next_random_number.result % c.from.result in
    let left = count - (c.loop-op._op + 1) in
    let one : count - c.loop-op._op ≡ suc left = omega (arith, c.loop-op-test.true) in
    let source = c.loop-op.self in
    let next = c.next_op.new.self in
    let values = c.loop-op.ops.items in
    let is = c.in_ok-next_op.ensures.source in
    record {
      ops = ap (λ vs. views vs ++ (next_ops left next).0) c.in_ok-push.ensures.items
          ∙ op_made values c.in_ok-next_op.field-0 left source next _ c.in_ok-next_op.ensures.op is
          (ap (λ n. views values ++ (next_ops n source).0) (sym one) ∙ c.loop-op.invariant.ops);
      source = source_made left source next _ is (ap (λ n. (next_ops n source).1) (sym one) ∙ c.loop-op.invariant.source);
    }
