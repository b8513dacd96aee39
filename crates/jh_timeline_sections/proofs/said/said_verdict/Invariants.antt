use Rattle.std.proofs.Common.{◌≡◌}
use Rattle.jh_timeline_sections.specs.SaidVerdicts.{said_before}
use Rattle.jh_timeline_sections.proofs.said.said_verdict.Given as goal

abbrev pub invariant-loop-at : goal.invariant-loop-at
invariant-loop-at l = l.said ≡ said_before l.text l.at
