use Rattle.std.proofs.Common.{◌≡◌}
use Rattle.std.specs.Prelude.{None}
use Rattle.jh_edn.specs.Edn.{size_of}
use Rattle.jh_edn.specs.View.{view}
use Rattle.jh_gen.specs.BadPart.{IsWayTo}
use Rattle.jh_gen.specs.GeneratorText.{parsed_generator}
use Rattle.jh_gen.proofs.bad_parts.bad_part.Given as goal

abbrev pub invariant-loop-step : goal.invariant-loop-step
invariant-loop-step l = record {
  leads : IsWayTo l.way.items (view l.value) (view l.part);
  bad : parsed_generator (view l.part) ≡ None;
}

abbrev pub decreases-loop-step : goal.decreases-loop-step
decreases-loop-step l = size_of (view l.part)
