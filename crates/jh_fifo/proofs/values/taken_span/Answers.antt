use Rattle.std.proofs.Common.{ℕ, min, ap, ◌∙◌}
use Rattle.jh_fifo.proofs.ValueLemmas.{taken_at}
use Rattle.jh_fifo.proofs.values.taken_span.Goals as goal

pub returns : goal.returns
returns c =
    let v = c.requires.value in
    taken_at c.args.ops.now c.requires.sound c.args.place v.0 v.1 c.invoked_at-from.result c.invoked_at-from.ensures.is c.invoked_at-from.ensures.soon c.args.dequeue v.2
    c.min.result c.max.result c.end_at-left.result c.invoked_at.result c.invoked_at.ensures.is c.end_at-left.ensures.is c.end_at-left.ensures.high c.end_at-left.ensures.told c.invoked_at.ensures.soon
    (c.min.ensures ∙ ap (λ (n : ℕ). min n c.end_at-left.result) c.end_at.ensures.is) c.max.ensures
