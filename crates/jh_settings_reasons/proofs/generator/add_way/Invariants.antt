use Rattle.std.proofs.Common.{◌≡◌, ◌++◌, length}
use Rattle.jh_settings_reasons.specs.Generators.{way_text}
use Rattle.jh_settings_reasons.proofs.generator.add_way.Given as goal

abbrev pub invariant-loop-rest : goal.invariant-loop-rest
invariant-loop-rest l = l.line.items ++ way_text l.rest ≡ l.fn.line.items ++ way_text l.fn.way

abbrev pub decreases-loop-rest : goal.decreases-loop-rest
decreases-loop-rest l = length l.rest
