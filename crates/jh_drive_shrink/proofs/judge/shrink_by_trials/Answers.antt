use Rattle.jh_drive_shrink.specs.DriveShrink.{settings_judging}
use Rattle.jh_drive_shrink.proofs.SmallestLemmas.{smallest_so}
use Rattle.jh_drive_shrink.proofs.judge.shrink_by_trials.Goals as goal

pub returns : goal.returns
returns g c =
    let found = c.shrink_places-shrunk in
    smallest_so c.args.settings.now.test (settings_judging c.args.settings.now) _ _ _ _ c.args.runs found.result found.new.progress
    found.ensures.shrunk found.ensures.within found.ensures.used_up found.ensures.went c.smallest_of.result c.smallest_of.ensures
