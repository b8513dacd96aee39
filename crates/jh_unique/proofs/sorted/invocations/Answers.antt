use Rattle.std.proofs.Common.{◌≡◌, ◌+◌, length, sym, ap, subst, arith}
use Rattle.jh_unique.specs.Sorted.{AreKeyedNumbers, HasInvocation}
use Rattle.jh_unique.proofs.SortedLemmas.{keyed_none, keyed_push}
use Rattle.jh_unique.proofs.sorted.invocations.Goals as goal

pub loop-number-init : goal.loop-number-init
loop-number-init c = subst (AreKeyedNumbers (HasInvocation c.args.ops.now) 0 0) (sym c.new-entries.ensures.items) (keyed_none (HasInvocation c.args.ops.now) 0)

pub loop-number-preserved : goal.loop-number-preserved
loop-number-preserved c =
    let ops = c.args.ops.now in
    let l = c.loop-number in
    subst (AreKeyedNumbers (HasInvocation ops) 0 (l.number + 1)) (sym c.in_ok-push.ensures.items) (keyed_push (HasInvocation ops) 0 l.number _ l.entries.items (omega arith) (ap (λ o. o.invoked) c.op_at-op.ensures) l.invariant)

pub returns : goal.returns
returns c =
    let end : c.loop-number.number ≡ length c.args.ops.now = omega arith in
    subst (λ n. AreKeyedNumbers (HasInvocation c.args.ops.now) 0 n c.loop-number.entries.items) end c.loop-number.invariant
