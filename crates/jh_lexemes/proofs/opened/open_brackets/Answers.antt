use Rattle.std.proofs.Common.{[], length, ap}
use Rattle.std.proofs.lemmas.Str.{IsCharBoundary-start}
use Rattle.jh_lexemes.specs.Opened.{after_lexemes}
use Rattle.jh_lexemes.proofs.LexemesLemmas.{lexemes_first}
use Rattle.jh_lexemes.proofs.OpenedLemmas.{goes_on, ends, is_over}
use Rattle.jh_lexemes.proofs.opened.open_brackets.Goals as goal

pub loop-turn-init : goal.loop-turn-init
loop-turn-init c = record {
  boundary = IsCharBoundary-start c.args.text.now c.utf8.text;
  rest = rw c.new-places.ensures.items (ap (after_lexemes []) (lexemes_first c.args.text.now));
}

pub returns-in_default : goal.returns-in_default
returns-in_default c =
    let l = c.loop-turn in
    let text = c.args.text.now in
    ends l.places.items _ text (length text) l._turn l.at l.invariant.rest c.in_default.ensures.lexeme

pub loop-turn-preserved : goal.loop-turn-preserved
loop-turn-preserved c =
    let l = c.loop-turn in
    let text = c.args.text.now in
    record {
      boundary = c.in-Some.ensures.place.1;
      rest = goes_on l.places.items _ text (length text) l._turn l.at l.invariant.rest c.in-Some.end c.in-Some.lexeme c.follow.new.places.items c.loop-turn-test.true c.in-Some.ensures.lexeme c.in_ok-follow.ensures;
    }

pub returns : goal.returns
returns c =
    let l = c.loop-turn in
    let text = c.args.text.now in
    is_over l.places.items _ text (length text) l._turn l.at l.invariant.rest c.loop-turn-test.false
