use Rattle.std.proofs.Common.{refl, arith}
use Rattle.jh_text_reasons.specs.Places.{here, behind}
use Rattle.jh_text_reasons.proofs.places.behind_blank.Goals as goal

pub loop-turn-init : goal.loop-turn-init
loop-turn-init c = record { passed = here c.args.at refl; boundary = c.requires; further = omega arith }

pub loop-turn-preserved : goal.loop-turn-preserved
loop-turn-preserved c =
    let found = c.in-Some.ensures in
    let so_far = c.loop-turn.invariant in
    record {
      passed = behind c.loop-turn.place found.blank.0 c.in-Some.end so_far.passed found.blank.1 found.blank.2;
      boundary = found.boundary;
      further = omega (arith, so_far.further, found.further);
    }
