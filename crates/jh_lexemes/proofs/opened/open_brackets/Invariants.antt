use Rattle.std.proofs.Common.{◌≡◌, ◌-◌, length, drop}
use Rattle.std.specs.Str.{IsCharBoundary}
use Rattle.jh_lexemes.specs.Lexemes.{lexemes_from}
use Rattle.jh_lexemes.specs.Opened.{after_lexemes, open_brackets}
use Rattle.jh_lexemes.proofs.opened.open_brackets.Given as goal

abbrev pub invariant-loop-turn : goal.invariant-loop-turn
invariant-loop-turn l = record {
  boundary : IsCharBoundary l.text l.at;
  rest : after_lexemes l.places.items (lexemes_from (length l.text - l._turn) l.at (drop l.at l.text)) ≡ open_brackets l.text;
}
