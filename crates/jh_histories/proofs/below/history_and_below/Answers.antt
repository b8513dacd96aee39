use Rattle.jh_histories.proofs.FirstLineLemmas.{means_none}
use Rattle.jh_histories.proofs.below.history_and_below.Goals as goal

pub history_before-requires-clause-none : goal.history_before-requires-clause-none
history_before-requires-clause-none c =
    means_none c.args.text.now c.in-Err.error c.spelled_once.ensures (λ of. let wrong = c.if-is_of_bytes.ensures.1 of in cc) c.in-Err.ensures.refused
