use Rattle.std.proofs.Common.{◌≡◌, ◌<◌, get_or, length, Some, sym, arith}
use Rattle.jh_lexemes.specs.Lexemes.{bracket_of}
use Rattle.jh_lexemes.proofs.FrontLemmas.{behind_bracket}
use Rattle.jh_lexemes.proofs.lexeme.front.Goals as goal

pub returns-in-Some-clause-place : goal.returns-in-Some-clause-place
returns-in-Some-clause-place c =
    let s = c.args.rest.now in
    let some : 0 < length s = rw (← c.as_bytes.ensures.value) (omega arith) in
    let here : bracket_of (get_or s 0 0) ≡ Some c.in-Some.bracket = rw (← c.as_bytes.ensures.value) (sym c.in-Some.ensures) in
    (omega arith, behind_bracket s c.in-Some.bracket c.utf8.rest some here)
