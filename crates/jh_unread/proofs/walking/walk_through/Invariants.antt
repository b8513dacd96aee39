use Rattle.std.proofs.Common.{◌≡◌, ◌≤◌, ◌-◌, length, drop}
use Rattle.std.specs.Str.{IsCharBoundary}
use Rattle.jh_lexemes.specs.Lexemes.{lexemes_from}
use Rattle.jh_unread.specs.Unread.{walked, without_unread}
use Rattle.jh_unread.specs.Walking.{walk_of}
use Rattle.jh_unread.proofs.walking.walk_through.Given as goal

abbrev pub invariant-loop-turn : goal.invariant-loop-turn
invariant-loop-turn l = record {
  boundary : IsCharBoundary l.text l.at;
  within : length l.walk.out.items ≤ l.at;
  rest : walked l.text (lexemes_from (length l.text - l._turn) l.at (drop l.at l.text)) (walk_of l.walk) ≡ without_unread l.text;
}
