use Rattle.std.proofs.Common.{◌≡◌, take}
use Rattle.jh_edn.specs.View.{views}
use Rattle.jh_settings_texts.specs.ScheduleSteps.{step_texts}
use Rattle.jh_settings_texts.proofs.schedule_steps.steps_of_entries.Given as goal

abbrev pub invariant-loop-entry : goal.invariant-loop-entry
invariant-loop-entry l = views l.steps.items ≡ step_texts l.nodes (take l.entry-index l.entries)
