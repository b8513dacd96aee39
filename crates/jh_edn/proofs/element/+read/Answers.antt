use Rattle.std.proofs.Common.{◌≡◌, ◌-◌, ◌<◌, [], ◌∷◌, ◌++◌, length, drop, get_or, true, false, subst, arith}
use Rattle.std.specs.Prelude.{◌≢◌}
use Rattle.std.specs.Str.{IsUtf8}
use Rattle.std.proofs.lemmas.Str.{IsCharBoundary-after_ascii}
use Rattle.std.proofs.lemmas.Result.{err_from_is_err_and}
use Rattle.std.proofs.lemmas.List.{map_push}
use Rattle.jh_edn.specs.Bytes.{hash, quote, open_paren, open_bracket, open_brace, begins_discard}
use Rattle.jh_edn.specs.View.{view, views}
use Rattle.jh_edn.specs.Reading.{deeper_reads}
use Rattle.jh_edn.proofs.ElementLoopLemmas.{ends, closes, stuck, fails, is_element, gap_ends, gap_fails, gap_goes, blank_shorter, discard_shorter, discard_boundary, elements_below, elements_too_deep, one_below, one_too_deep, stuck_one, all_fail, all_read, goes, item_shorter}
use Rattle.jh_edn.proofs.TextFrontLemmas.{within}
use Rattle.jh_edn.proofs.element.+read.Goals as goal

pub element-range_from-requires : goal.element-range_from-requires
element-range_from-requires t c =
    let s = c.args.rest.now in
    let first : get_or s 0 0 ≡ quote = rw (← c.as_bytes-bytes.ensures.value) (grind arith) in
    let some : 0 < length s = rw (← c.as_bytes-bytes.ensures.value) (grind arith) in
    λ _. IsCharBoundary-after_ascii s 0 (subst IsUtf8 c.as_bytes-bytes.ensures.value c.as_bytes-bytes.ensures.utf8) some (omega arith)

pub next_item-range_from-requires : goal.next_item-range_from-requires
next_item-range_from-requires t c =
    let s = c.in_ok-here.here.now in
    let first : get_or s 0 0 ≡ c.args.close = rw (← c.as_bytes-bytes.ensures.value) (grind arith) in
    let some : 0 < length s = rw (← c.as_bytes-bytes.ensures.value) (grind arith) in
    λ _. IsCharBoundary-after_ascii s 0 c.in_ok-here.ensures.text some (omega (arith, c.requires))

pub next_item-returns-in_err-here-clause-gives : goal.next_item-returns-in_err-here-clause-gives
next_item-returns-in_err-here-clause-gives t c =
    let p = err_from_is_err_and c.from_residual.result c.from_residual.ensures.1 in
    rw (p.1, p.2) (stuck c.args.close c.args.depth c.args.rest.now c.in_err-here.field-0.0 c.in_err-here.ensures.gives)

pub next_item-returns-then-is_empty-clause-gives : goal.next_item-returns-then-is_empty-clause-gives
next_item-returns-then-is_empty-clause-gives t c =
    let here = c.in_ok-here.here.now in
    let none : length here ≡ 0 = rw (← c.as_bytes-bytes.ensures.value) (grind arith) in
    rw c.syntax_error_at.ensures (ends c.args.close c.args.depth c.args.rest.now here c.in_ok-here.ensures.gives none)

pub next_item-returns-then-bytes-close-clause-gives : goal.next_item-returns-then-bytes-close-clause-gives
next_item-returns-then-bytes-close-clause-gives t c =
    let here = c.in_ok-here.here.now in
    let some : 0 < length here = rw (← c.as_bytes-bytes.ensures.value) (grind arith) in
    let first : get_or here 0 0 ≡ c.args.close = rw (← c.as_bytes-bytes.ensures.value) (grind arith) in
    rw c.range_from.ensures.value (closes c.args.close c.args.depth c.args.rest.now here c.in_ok-here.ensures.gives some first)

pub next_item-returns-in_err-value-clause-gives : goal.next_item-returns-in_err-value-clause-gives
next_item-returns-in_err-value-clause-gives t c =
    let p = err_from_is_err_and c.from_residual-in_err-value.result c.from_residual-in_err-value.ensures.1 in
    let here = c.in_ok-here.here.now in
    let some : 0 < length here = rw (← c.as_bytes-bytes.ensures.value) (grind arith) in
    let other : get_or here 0 0 ≢ c.args.close = rw (← c.as_bytes-bytes.ensures.value) (grind arith) in
    rw (p.1, p.2) (fails c.args.close c.args.depth c.args.rest.now here c.in_ok-here.ensures.gives c.in_err-value.field-0.0 some other c.in_err-value.ensures.gives)

pub next_item-returns-clause-gives : goal.next_item-returns-clause-gives
next_item-returns-clause-gives t c =
    let here = c.in_ok-here.here.now in
    let some : 0 < length here = rw (← c.as_bytes-bytes.ensures.value) (grind arith) in
    let other : get_or here 0 0 ≢ c.args.close = rw (← c.as_bytes-bytes.ensures.value) (grind arith) in
    is_element c.args.close c.args.depth c.args.rest.now here c.in_ok-here.ensures.gives (view c.in_ok-value.value) c.in_ok-value.after.now some other c.in_ok-value.ensures.gives

pub elements-returns-in_err-next-clause-gives : goal.elements-returns-in_err-next-clause-gives
elements-returns-in_err-next-clause-gives t c =
    let p = err_from_is_err_and c.from_residual-in_err-next.result c.from_residual-in_err-next.ensures.1 in
    let l = c.turns in
    rw (p.1, p.2) (all_fail c.args.close c.args.depth (views l.found.items) l.invariant.1 l.left.now _ l.invariant.2 l.invariant.3 c.in_err-next.field-0.0 c.in_err-next.ensures.gives)

pub elements-returns-in_default-clause-gives : goal.elements-returns-in_default-clause-gives
elements-returns-in_default-clause-gives t c =
    let l = c.turns in
    all_read c.args.close c.args.depth (views l.found.items) l.invariant.1 l.left.now _ l.invariant.2 l.invariant.3 c.in_ok-next.after.now (rw c.in_default.is at c.in_ok-next.ensures.gives)

pub elements-turns-smaller : goal.elements-turns-smaller
elements-turns-smaller t c =
    item_shorter c.args.close c.args.depth c.turns.left.now (view c.in-Some.value) c.in_ok-next.after.now (rw c.in-Some.is at c.in_ok-next.ensures.gives)

pub elements-turns-preserved : goal.elements-turns-preserved
elements-turns-preserved t c =
    let l = c.turns in
    let n = l.invariant.1 in
    let x = view c.in-Some.value in
    let after = c.in_ok-next.after.now in
    let is = rw c.in-Some.is at c.in_ok-next.ensures.gives in
    let pushed : views c.push.new.self.items ≡ views l.found.items ++ x ∷ [] = rw c.in_ok-push.ensures.items (map_push _ l.found.items c.in-Some.value) in
    let short : length after < n - 1 = omega (arith, l.invariant.2, item_shorter c.args.close c.args.depth l.left.now x after is) in
    (c.in_ok-next.ensures.text, n - 1, short, rw pushed (goes c.args.close c.args.depth (views l.found.items) n l.left.now _ l.invariant.2 l.invariant.3 x after is))

pub after_gap-returns-then-not-begins_discard-clause-gives : goal.after_gap-returns-then-not-begins_discard-clause-gives
after_gap-returns-then-not-begins_discard-clause-gives t c =
    let here = c.after_blank-here.result.now in
    let l = c.discards in
    let kept : begins_discard here ≡ false = rw (← c.begins_discard.ensures) (grind arith) in
    gap_ends (deeper_reads c.args.depth) l.invariant.1 l.left.now here _ l.invariant.2 c.after_blank-here.ensures l.invariant.3 kept

pub after_gap-one_inside-requires : goal.after_gap-one_inside-requires
after_gap-one_inside-requires t c =
    let here = c.after_blank-here.result.now in
    let marked : begins_discard here ≡ true = rw (← c.begins_discard.ensures) (grind arith) in
    (omega arith, discard_boundary here c.after_blank-here.utf8 marked)

pub after_gap-returns-in_err-behind-clause-gives : goal.after_gap-returns-in_err-behind-clause-gives
after_gap-returns-in_err-behind-clause-gives t c =
    let p = err_from_is_err_and c.from_residual.result c.from_residual.ensures.1 in
    let here = c.after_blank-here.result.now in
    let l = c.discards in
    let marked : begins_discard here ≡ true = rw (← c.begins_discard.ensures) (grind arith) in
    rw (p.1, p.2) (gap_fails (deeper_reads c.args.depth) l.invariant.1 l.left.now here _ l.invariant.2 c.after_blank-here.ensures l.invariant.3 c.in_err-behind.field-0.0 marked c.in_err-behind.ensures.gives)

pub after_gap-discards-smaller : goal.after_gap-discards-smaller
after_gap-discards-smaller t c =
    let here = c.after_blank-here.result.now in
    omega (arith, blank_shorter c.discards.left.now here c.after_blank-here.ensures, discard_shorter c.args.depth here (view c.in_ok-behind.field-0-0) c.in_ok-behind.behind.now c.in_ok-behind.ensures.gives)

pub after_gap-discards-preserved : goal.after_gap-discards-preserved
after_gap-discards-preserved t c =
    let here = c.after_blank-here.result.now in
    let l = c.discards in
    let n = l.invariant.1 in
    let marked : begins_discard here ≡ true = rw (← c.begins_discard.ensures) (grind arith) in
    let short : length c.in_ok-behind.behind.now < n - 1 = omega (arith, l.invariant.2, blank_shorter l.left.now here c.after_blank-here.ensures, discard_shorter c.args.depth here (view c.in_ok-behind.field-0-0) c.in_ok-behind.behind.now c.in_ok-behind.ensures.gives) in
    (c.in_ok-behind.ensures.text, n - 1, short, gap_goes (deeper_reads c.args.depth) n l.left.now here _ l.invariant.2 c.after_blank-here.ensures l.invariant.3 (view c.in_ok-behind.field-0-0) c.in_ok-behind.behind.now marked c.in_ok-behind.ensures.gives)

pub element-elements_inside-requires : goal.element-elements_inside-requires
element-elements_inside-requires t c =
    let s = c.args.rest.now in
    let first : get_or s 0 0 ≡ open_paren = rw (← c.as_bytes-bytes.ensures.value) (grind arith) in
    let some : 0 < length s = rw (← c.as_bytes-bytes.ensures.value) (grind arith) in
    (omega arith, (omega arith, IsCharBoundary-after_ascii s 0 (subst IsUtf8 c.as_bytes-bytes.ensures.value c.as_bytes-bytes.ensures.utf8) some (omega arith)))

pub element-elements_inside-requires-in-123 : goal.element-elements_inside-requires-in-123
element-elements_inside-requires-in-123 t c =
    let s = c.args.rest.now in
    let first : get_or s 0 0 ≡ open_brace = rw (← c.as_bytes-bytes.ensures.value) (grind arith) in
    let some : 0 < length s = rw (← c.as_bytes-bytes.ensures.value) (grind arith) in
    (omega arith, (omega arith, IsCharBoundary-after_ascii s 0 (subst IsUtf8 c.as_bytes-bytes.ensures.value c.as_bytes-bytes.ensures.utf8) some (omega arith)))

pub element-elements_inside-requires-in-91 : goal.element-elements_inside-requires-in-91
element-elements_inside-requires-in-91 t c =
    let s = c.args.rest.now in
    let first : get_or s 0 0 ≡ open_bracket = rw (← c.as_bytes-bytes.ensures.value) (grind arith) in
    let some : 0 < length s = rw (← c.as_bytes-bytes.ensures.value) (grind arith) in
    (omega arith, (omega arith, IsCharBoundary-after_ascii s 0 (subst IsUtf8 c.as_bytes-bytes.ensures.value c.as_bytes-bytes.ensures.utf8) some (omega arith)))

pub elements_inside-returns-then-depth-eq0-clause-gives : goal.elements_inside-returns-then-depth-eq0-clause-gives
elements_inside-returns-then-depth-eq0-clause-gives t c =
    let s = c.args.rest.now in
    rw c.syntax_error_at.ensures (elements_too_deep c.args.depth c.args.close s (drop c.args.front s) (omega arith))

pub elements_inside-returns-clause-gives : goal.elements_inside-returns-clause-gives
elements_inside-returns-clause-gives t c =
    let s = c.args.rest.now in
    rw (elements_below c.args.depth c.args.close s (drop c.args.front s) (omega arith), ← c.range_from.ensures.value) c.elements.ensures.gives

pub one_inside-returns-then-depth-eq0-clause-gives : goal.one_inside-returns-then-depth-eq0-clause-gives
one_inside-returns-then-depth-eq0-clause-gives t c =
    let s = c.args.rest.now in
    rw c.syntax_error_at.ensures (one_too_deep c.args.depth s (drop c.args.front s) (omega arith))

pub one_inside-returns-in_err-here-clause-gives : goal.one_inside-returns-in_err-here-clause-gives
one_inside-returns-in_err-here-clause-gives t c =
    let p = err_from_is_err_and c.from_residual.result c.from_residual.ensures.1 in
    let s = c.args.rest.now in
    rw (p.1, p.2, one_below c.args.depth s (drop c.args.front s) (omega arith), ← c.range_from.ensures.value) (stuck_one (c.args.depth - 1) c.range_from.result.now c.in_err-here.field-0.0 c.in_err-here.ensures.gives)

pub one_inside-returns-clause-gives : goal.one_inside-returns-clause-gives
one_inside-returns-clause-gives t c =
    let s = c.args.rest.now in
    rw (one_below c.args.depth s (drop c.args.front s) (omega arith), ← c.range_from.ensures.value, c.in_ok-here.ensures.gives) c.element.ensures.gives

pub hashed-elements_inside-requires : goal.hashed-elements_inside-requires
hashed-elements_inside-requires t c =
    let s = c.args.rest.now in
    let utf8 = subst IsUtf8 c.as_bytes.ensures.value c.as_bytes.ensures.utf8 in
    let second : get_or s 1 0 ≡ open_brace = rw (← c.as_bytes.ensures.value) (grind arith) in
    (omega arith, (omega arith, IsCharBoundary-after_ascii s 1 utf8 (within s 1 (omega arith)) (omega arith)))

pub hashed-range_from-behind-requires : goal.hashed-range_from-behind-requires
hashed-range_from-behind-requires t c =
    let s = c.args.rest.now in
    let utf8 = subst IsUtf8 c.as_bytes.ensures.value c.as_bytes.ensures.utf8 in
    let first : get_or s 0 0 ≡ hash = omega (arith, c.requires) in
    λ _. IsCharBoundary-after_ascii s 0 utf8 (within s 0 (omega arith)) (omega arith)
