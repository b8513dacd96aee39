use Rattle.std.proofs.Common.{◌≡◌, map, take}
use Rattle.jh_linear.proofs.config.firsts_of.Given as goal

abbrev pub invariant-loop-class : goal.invariant-loop-class
invariant-loop-class l = l.firsts.items ≡ map (λ class. class.from) (take l.class-index l.classes)
