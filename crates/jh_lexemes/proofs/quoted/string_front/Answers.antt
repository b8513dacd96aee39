use Rattle.std.proofs.Common.{◌≡◌, ◌-◌, length, take, drop, ap, ◌∙◌, arith}
use Rattle.jh_lexemes.proofs.FrontLemmas.{slice_is}
use Rattle.jh_lexemes.proofs.QuotedLemmas.{closes, closes_boundary, ends}
use Rattle.jh_lexemes.proofs.quoted.string_front.Goals as goal

pub returns-then-b-eq34-clause-front : goal.returns-then-b-eq34-clause-front
returns-then-b-eq34-clause-front c =
    let b = c.as_bytes.result.now in
    let l = c.loop-b in
    let is : take (length b - 1) (drop 1 b) ≡ drop 1 c.args.rest.now = slice_is 1 b ∙ ap (drop 1) c.as_bytes.ensures.value in
    closes c.args.rest.now _ l.b-index l.len l.is_good l.is_escaped c.closed.result is c.loop-b-test.true c.if-b-eq34.true c.if-is_escaped.false c.closed.ensures l.invariant.rest

pub returns-then-b-eq34-clause-boundary : goal.returns-then-b-eq34-clause-boundary
returns-then-b-eq34-clause-boundary c =
    let b = c.as_bytes.result.now in
    let l = c.loop-b in
    let is : take (length b - 1) (drop 1 b) ≡ drop 1 c.args.rest.now = slice_is 1 b ∙ ap (drop 1) c.as_bytes.ensures.value in
    closes_boundary c.args.rest.now _ l.b-index l.len is c.utf8.rest c.loop-b-test.true l.invariant.len c.if-b-eq34.true

pub returns-clause-front : goal.returns-clause-front
returns-clause-front c =
    let b = c.as_bytes.result.now in
    let l = c.loop-b in
    let is : take (length b - 1) (drop 1 b) ≡ drop 1 c.args.rest.now = slice_is 1 b ∙ ap (drop 1) c.as_bytes.ensures.value in
    ends c.args.rest.now _ l.b-index l.len l.is_good l.is_escaped is (omega arith) l.invariant.rest
