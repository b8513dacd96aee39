use Rattle.std.specs.Str.{IsCharBoundary}
use Rattle.jh_text_reasons.specs.Places.{AreRead}
use Rattle.jh_text_reasons.proofs.places.place_of.Given as goal

-- the elements so far are read
abbrev pub invariant-loop-element : goal.invariant-loop-element
invariant-loop-element l =
    record {
      read : AreRead l.text l.from l._element l.at;
      boundary : IsCharBoundary l.text l.at;
    }
