-- What is told of the part that is left. This project's own.
use Rattle.std.specs.Prelude.{ℕ, ◌==◌, List, if◌then◌else◌}
use Rattle.jh_drive_shrink.specs.DriveShrink.{budget_heading, minimal_heading, not_reproduced_heading}
use Rattle.jh_drive_shrink.specs.declared.told.Told.{Told}
use Rattle.jh_drive_shrink.specs.declared.told.Told.TheVariants.{Minimal, Budget, NotReproduced}

abbrev pub told_heading : Told → List ℕ
told_heading Minimal = minimal_heading
told_heading Budget = budget_heading
told_heading NotReproduced = not_reproduced_heading

abbrev pub told_status : Told → ℕ
told_status Minimal = 1
told_status Budget = 2
told_status NotReproduced = 2

-- behind a trial whose verdict has this status: the part did not fail this time, where it is not 1
abbrev pub told_behind : Told → ℕ → Told
told_behind told status = if status == 1 then told else NotReproduced
