use Rattle.std.proofs.Common.{◌≡◌, take}
use Rattle.std.specs.List.{count_by}
use Rattle.jh_timeline_sections.specs.Titles.{is_of_verdict}
use Rattle.jh_timeline_sections.proofs.title.count_of.Given as goal

-- the keys of this verdict so far were counted
abbrev pub invariant-loop-one : goal.invariant-loop-one
invariant-loop-one l = l.count ≡ count_by (is_of_verdict l.verdict) (take l.one-index l.findings)
