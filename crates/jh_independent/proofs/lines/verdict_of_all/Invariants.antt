use Rattle.std.proofs.Common.{◌≡◌, map, take}
use Rattle.jh_checkers.specs.Findings.{finding_verdict}
use Rattle.jh_independent.proofs.lines.verdict_of_all.Given as goal

abbrev pub invariant-loop-one : goal.invariant-loop-one
invariant-loop-one l = l.verdicts.items ≡ map (λ one. finding_verdict one.finding) (take l.one-index l.found)
