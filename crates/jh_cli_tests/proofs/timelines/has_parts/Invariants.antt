use denote.Shadow.{shadow}
use denote.Text.{Utf8}
use Rattle.jh_cli_tests.proofs.timelines.has_parts.Given as goal

abbrev pub invariant-loop-part : goal.invariant-loop-part
invariant-loop-part l = shadow (Utf8 l.behind)
