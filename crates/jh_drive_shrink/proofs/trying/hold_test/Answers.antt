use Rattle.jh_drive_shrink.proofs.FailLemmas.{fails_so}
use Rattle.jh_drive_shrink.proofs.HeldLemmas.{err_matched}
use Rattle.jh_drive_shrink.proofs.trying.hold_test.Goals as goal

pub returns-in_err-judged : goal.returns-in_err-judged
returns-in_err-judged g c =
    err_matched c.from_residual-in_err-judged.result c.in_err-judged.field-0.0 _ _ c.from_residual-in_err-judged.ensures.1
    (fails_so c.args.test c.args.judging c.args.number c.args.read _ _ _ _ c.in_ok-trial.trial c.hold_trial.new.trial c.in_err-judged.field-0.0 c.in_ok-trial.ensures c.in_err-judged.ensures)
