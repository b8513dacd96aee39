use Rattle.jh_timeline_sections.specs.ShownKeysInside.{AreMade}
use Rattle.jh_timeline_sections.proofs.key_sections.sections_of_shown.Given as goal

abbrev pub invariant-loop-one : goal.invariant-loop-one
invariant-loop-one l = AreMade l.fn.choice l.fn.shown.items l.one-iterator.rest.items l.sections.items
