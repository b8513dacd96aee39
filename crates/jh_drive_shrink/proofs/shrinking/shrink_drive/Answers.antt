use Rattle.jh_drive_shrink.specs.DriveShrink.{settings_judging}
use Rattle.jh_drive_shrink.proofs.ShownLemmas.{broken_so, taken_so}
use Rattle.jh_drive_shrink.proofs.shrinking.shrink_drive.Goals as goal

pub returns-in_err-smallest-clause-shrunk : goal.returns-in_err-smallest-clause-shrunk
returns-in_err-smallest-clause-shrunk g c =
    let s = c.args.settings.settings in
    broken_so s.test (settings_judging s) c.args.runs _ _ _ _ s.initial s.model s.budget c.from_residual.result c.in_err-smallest.field-0.0 c.from_residual.ensures.1 c.in_err-smallest.ensures

pub returns-in_err-smallest-clause-taken : goal.returns-in_err-smallest-clause-taken
returns-in_err-smallest-clause-taken g c = λ error.
    let s = c.args.settings.settings in
    taken_so s.test (settings_judging s) c.args.runs _ _ _ _ s.initial s.model s.budget c.from_residual.result error
    (broken_so s.test (settings_judging s) c.args.runs _ _ _ _ s.initial s.model s.budget c.from_residual.result c.in_err-smallest.field-0.0 c.from_residual.ensures.1 c.in_err-smallest.ensures)

pub returns-clause-shrunk : goal.returns-clause-shrunk
returns-clause-shrunk g c = c.show_smallest.ensures c.args.runs _ _ c.in_ok-smallest.ensures

pub returns-clause-taken : goal.returns-clause-taken
returns-clause-taken g c = λ error.
    let s = c.args.settings.settings in
    taken_so s.test (settings_judging s) c.args.runs _ _ _ _ s.initial s.model s.budget c.show_smallest.result error (c.show_smallest.ensures c.args.runs _ _ c.in_ok-smallest.ensures)
