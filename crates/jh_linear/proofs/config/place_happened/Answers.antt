use Rattle.std.proofs.Common.{refl, arith}
use Rattle.jh_linear.proofs.PlacingLemmas.{stands_happened}
use Rattle.jh_linear.proofs.config.place_happened.Goals as goal

pub returns : goal.returns
returns c = stands_happened c.args.problem.now c.requires.problem c.args.config.now _ c.args.index c.args.value c.remove.new.self.items c.requires.stage (omega arith) c.requires.allowed c.remove.ensures.items c.in_ok-config.ensures refl refl
