use Rattle.std.proofs.Common.{◌≡◌, length}
use Rattle.jh_edn.specs.View.{views}
use Rattle.jh_gen.specs.BadPart as rule
use Rattle.jh_gen.proofs.bad_parts.is_reserve_form.Given as goal

abbrev pub invariant-loop-rest : goal.invariant-loop-rest
invariant-loop-rest l = rule.is_reserve_form (views l.parts) ≡ rule.is_reserve_form (views l.rest)

abbrev pub decreases-loop-rest : goal.decreases-loop-rest
decreases-loop-rest l = length l.rest
