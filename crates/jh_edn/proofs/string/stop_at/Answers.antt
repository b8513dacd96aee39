use Rattle.std.proofs.Common.{◌≡◌, ◌<◌, ◌≤◌, get_or, length, arith, None, Some}
use Rattle.std.specs.Prelude.{◌≢◌}
use Rattle.std.proofs.lemmas.Str.{IsCharBoundary-after_ascii}
use Rattle.jh_edn.specs.Bytes.{escaped_byte}
use Rattle.jh_edn.proofs.StringBodyLemmas.{stop_none, stop_some}
use Rattle.jh_edn.proofs.string.stop_at.Goals as goal

pub range_from-requires : goal.range_from-requires
range_from-requires c =
    let s = c.args.rest.now in
    let first : get_or s 0 0 ≡ 34 = rw (← c.as_bytes-bytes.ensures.value) (omega arith) in
    let some : 0 < length s = rw (← c.as_bytes-bytes.ensures.value) (grind arith) in
    λ _. IsCharBoundary-after_ascii s 0 c.utf8.rest some (omega arith)

pub range_from-requires-in-Some : goal.range_from-requires-in-Some
range_from-requires-in-Some c =
    let s = c.args.rest.now in
    let second : get_or s 1 0 < 128 = rw (← c.as_bytes-bytes.ensures.value) (grind arith) in
    let some : 1 < length s = rw (← c.as_bytes-bytes.ensures.value) (grind arith) in
    λ _. IsCharBoundary-after_ascii s 1 c.utf8.rest some second

pub returns-in-Some-clause-gives : goal.returns-in-Some-clause-gives
returns-in-Some-clause-gives c =
    let s = c.args.rest.now in
    let long : 2 ≤ length s = rw (← c.as_bytes-bytes.ensures.value) (grind arith) in
    let first : get_or s 0 0 ≢ 34 = rw (← c.as_bytes-bytes.ensures.value) (grind arith) in
    let some : escaped_byte (get_or s 1 0) ≡ Some c.in-Some.c = rw (← c.as_bytes-bytes.ensures.value) (grind arith) in
    rw c.range_from-in-Some.ensures.value (stop_some s c.in-Some.c c.requires long first some)

pub returns-in-None-clause-gives : goal.returns-in-None-clause-gives
returns-in-None-clause-gives c =
    let s = c.args.rest.now in
    let long : 2 ≤ length s = rw (← c.as_bytes-bytes.ensures.value) (grind arith) in
    let first : get_or s 0 0 ≢ 34 = rw (← c.as_bytes-bytes.ensures.value) (grind arith) in
    let none : escaped_byte (get_or s 1 0) ≡ None = rw (← c.as_bytes-bytes.ensures.value) (grind arith) in
    stop_none s c.requires long first none
