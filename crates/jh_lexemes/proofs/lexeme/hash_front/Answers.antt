use Rattle.std.proofs.Common.{◌≡◌, ◌<◌, length, drop, arith}
use Rattle.std.specs.List.{prefix_len}
use Rattle.jh_edn.specs.Bytes.{is_token_byte}
use Rattle.jh_lexemes.proofs.FrontLemmas.{slice_is, behind_run, within}
use Rattle.jh_lexemes.proofs.lexeme.hash_front.Goals as goal

pub returns-then-is_tag-clause-boundary : goal.returns-then-is_tag-clause-boundary
returns-then-is_tag-clause-boundary c =
    let s = c.args.rest.now in
    let n : c.token_len-len.result ≡ prefix_len is_token_byte (drop 1 s) = rw (← c.as_bytes-2.ensures.value, ← slice_is 1 c.as_bytes-2.result.now) c.token_len-len.ensures in
    let some : 0 < length s = within s 0 (omega (arith, c.requires)) in
    behind_run s 1 c.token_len-len.result (omega arith) n

pub returns-else-is_tag-clause-boundary : goal.returns-else-is_tag-clause-boundary
returns-else-is_tag-clause-boundary c =
    let s = c.args.rest.now in
    let n : c.token_len-len.result ≡ prefix_len is_token_byte (drop 1 s) = rw (← c.as_bytes-2.ensures.value, ← slice_is 1 c.as_bytes-2.result.now) c.token_len-len.ensures in
    let some : 0 < length s = within s 0 (omega (arith, c.requires)) in
    behind_run s 1 c.token_len-len.result (omega arith) n
