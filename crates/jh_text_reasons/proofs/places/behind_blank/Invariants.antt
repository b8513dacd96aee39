use Rattle.std.proofs.Common.{◌+◌, ◌≤◌}
use Rattle.std.specs.Str.{IsCharBoundary}
use Rattle.jh_text_reasons.specs.Places.{IsBehindBlank}
use Rattle.jh_text_reasons.proofs.places.behind_blank.Given as goal

-- what is blank so far is passed, a byte at least in each turn
abbrev pub invariant-loop-turn : goal.invariant-loop-turn
invariant-loop-turn l =
    record {
      passed : IsBehindBlank l.text l.at l.place;
      boundary : IsCharBoundary l.text l.place;
      further : l.at + l._turn ≤ l.place;
    }
