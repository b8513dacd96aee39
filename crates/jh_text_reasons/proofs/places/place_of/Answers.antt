use Rattle.std.proofs.Common.{refl, ◌+◌}
use Rattle.jh_text_reasons.specs.Places.{none, one_more}
use Rattle.jh_text_reasons.proofs.places.place_of.Goals as goal

pub loop-element-init : goal.loop-element-init
loop-element-init c = record { read = none 0 c.args.from refl refl; boundary = c.requires }

pub loop-element-preserved : goal.loop-element-preserved
loop-element-preserved c =
    let read = rw c.in-Some.is at c.in_ok-end.ensures.read in
    let boundary = rw c.in-Some.is at c.in_ok-end.ensures.boundary in
    record {
      read = one_more c.loop-element._element (c.loop-element._element + 1) c.loop-element.at c.in-Some.end read.0 c.loop-element.invariant.read read.1 refl;
      boundary = boundary;
    }
