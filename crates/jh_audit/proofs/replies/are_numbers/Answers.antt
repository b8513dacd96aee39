use Rattle.std.proofs.Common.{sym, ◌∙◌, ◌≤◌, length, arith}
use Rattle.jh_audit.proofs.ReplyValueLemmas.{nothing_left}
use Rattle.jh_audit.proofs.replies.are_numbers.Goals as goal

pub returns : goal.returns
returns c =
    let past : length c.args.values.now ≤ c.loop-value.value-index = omega arith in
    c.is_empty.ensures ∙ sym (nothing_left c.loop-value.rest.now c.args.values.now c.loop-value.value-index past) ∙ sym c.loop-value.invariant
