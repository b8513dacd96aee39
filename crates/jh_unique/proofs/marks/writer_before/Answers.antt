use Rattle.std.proofs.Common.{subst}
use Rattle.jh_linear.specs.declared.register.RegOp.{RegOp}
use Rattle.jh_unique.specs.Unique.{NeedsValue}
use Rattle.jh_unique.proofs.MarkLemmas.{writer_is}
use Rattle.jh_unique.proofs.marks.writer_before.Goals as goal

pub returns-in-Some : goal.returns-in-Some
returns-in-Some c =
    let value = c.in-Some.value.int in
    writer_is c.args.ops.now c.args.writers.now c.requires.writers c.args.number value (subst (λ (o : RegOp). NeedsValue o.call value) c.op_at.ensures c.in-Some.ensures) c.found.result c.found.ensures
