use Rattle.std.proofs.Common.{◌≤◌, length, subst, arith}
use Rattle.std.proofs.lemmas.List.{take_all}
use Rattle.jh_ops.specs.Operation.{operations}
use Rattle.jh_linear.specs.Operations.{AreRegOps}
use Rattle.jh_linear.proofs.OperationLemmas.{ends_if}
use Rattle.jh_linear.proofs.operations.reg_ops.Goals as goal

pub returns-clause-ends : goal.returns-clause-ends
returns-clause-ends c =
    let history = operations c.args.history.now in
    let pairs = c.args.pairs.now in
    let l = c.loop-pair in
    let all : length pairs ≤ l.pair-index = omega arith in
    ends_if c.args.object history (length c.args.history.now) pairs l.ops.items c.requires.within (subst (λ ps. AreRegOps c.args.object history ps l.ops.items) (take_all l.pair-index pairs all) l.invariant)
