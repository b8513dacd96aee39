use Rattle.std.proofs.Common.{◌≡◌, length, Some, None, ap, ◌∙◌, arith}
use Rattle.std.proofs.lemmas.Str.{IsCharBoundary-start}
use Rattle.jh_lexemes.proofs.CitedLemmas.{lexemes_first}
use Rattle.jh_unread.specs.Unread.{walked, walk_behind, walk_start, finished, without_unread}
use Rattle.jh_unread.specs.Walking.{walk_of}
use Rattle.jh_unread.proofs.WalkLemmas.{if_ok_so, next_is, none_is, stayed, goes_on, stops, ends, is_over}
use Rattle.jh_unread.proofs.walking.walk_through.Goals as goal

pub loop-turn-init : goal.loop-turn-init
loop-turn-init c =
    let text = c.args.text.now in
    record {
      boundary = IsCharBoundary-start text c.utf8.text;
      within = rw c.in_ok-with_capacity.ensures.items (omega arith);
      rest = rw (c.new.ensures.items, c.in_ok-with_capacity.ensures.items) (ap (λ ls. walked text ls walk_start) (lexemes_first text));
    }

pub returns-in_default : goal.returns-in_default
returns-in_default c =
    let l = c.loop-turn in
    let text = c.args.text.now in
    let end = ends text (length text) l._turn l.at (walk_of l.walk) _ l.invariant.rest c.in_default.ensures.lexeme in
    if_ok_so _ _ c.finish.result c.finish.ensures (λ out e. e ∙ end)

pub returns-then-not-branch : goal.returns-then-not-branch
returns-then-not-branch c =
    let l = c.loop-turn in
    let text = c.args.text.now in
    let new = c.follow.new.self in
    let behind : None ≡ walk_behind (walk_of l.walk) c.in_ok-part.part c.range-spelled.result.now = rw (← c.as_bytes.ensures.value) (none_is _ _ _ c.if-not-branch.true c.in_ok-follow.ensures.goes_on) in
    let same = stayed _ _ c.if-not-branch.true c.in_ok-follow.ensures.stays in
    let end = stops text (length text) l._turn l.at (walk_of l.walk) _ l.invariant.rest c.in-Some.end c.in-Some.lexeme c.in_ok-part.part c.range-spelled.result.now c.range_from.result.now c.loop-turn-test.true c.in-Some.ensures.lexeme c.range-spelled.ensures.value c.range_from.ensures.value c.in_ok-part.ensures behind in
    let here : finished text new.operation new.out.items ≡ without_unread text = rw (same.0, same.1) end in
    if_ok_so _ _ c.finish-then-not-branch.result c.finish-then-not-branch.ensures (λ out e. e ∙ here)

pub loop-turn-preserved : goal.loop-turn-preserved
loop-turn-preserved c =
    let l = c.loop-turn in
    let text = c.args.text.now in
    let behind : Some (walk_of c.follow.new.self) ≡ walk_behind (walk_of l.walk) c.in_ok-part.part c.range-spelled.result.now = rw (← c.as_bytes.ensures.value) (next_is _ _ _ c.if-not-branch.false c.in_ok-follow.ensures.goes_on) in
    record {
      boundary = c.in-Some.ensures.place.1;
      within = omega (arith, c.in_ok-follow.ensures.length, c.range-spelled.ensures.len, ap length c.as_bytes.ensures.value);
      rest = goes_on text (length text) l._turn l.at (walk_of l.walk) _ l.invariant.rest c.in-Some.end c.in-Some.lexeme c.in_ok-part.part c.range-spelled.result.now c.range_from.result.now c.loop-turn-test.true c.in-Some.ensures.lexeme c.range-spelled.ensures.value c.range_from.ensures.value c.in_ok-part.ensures (walk_of c.follow.new.self) behind;
    }

pub returns : goal.returns
returns c =
    let l = c.loop-turn in
    let text = c.args.text.now in
    let end = is_over text (length text) l._turn l.at (walk_of l.walk) _ l.invariant.rest c.loop-turn-test.false in
    if_ok_so _ _ c.finish-2.result c.finish-2.ensures (λ out e. e ∙ end)
