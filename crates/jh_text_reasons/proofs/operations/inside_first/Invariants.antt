use Rattle.std.specs.Str.{IsCharBoundary}
use Rattle.jh_text_reasons.proofs.operations.inside_first.Given as goal

abbrev pub invariant-loop-lexeme : goal.invariant-loop-lexeme
invariant-loop-lexeme l = IsCharBoundary l.text l.at
