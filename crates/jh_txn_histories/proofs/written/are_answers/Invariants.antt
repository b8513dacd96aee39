use Rattle.std.proofs.Common.{◌≡◌, drop, length}
use Rattle.jh_txn_histories.specs.ReadingInside.{written_ops}
use Rattle.jh_txn_histories.specs.Written.{are_answers}
use Rattle.jh_txn_histories.proofs.written.are_answers.Given as goal

abbrev pub invariant-loop-one : goal.invariant-loop-one
invariant-loop-one l =
    are_answers (written_ops (drop (length l.yielded) l.asked)) (written_ops (drop (length l.yielded) l.answers))
    ≡ are_answers (written_ops l.asked) (written_ops l.answers)
