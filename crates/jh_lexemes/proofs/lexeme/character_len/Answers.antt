use Rattle.std.proofs.Common.{◌≡◌, ◌≤◌, length, drop, arith}
use Rattle.std.specs.List.{prefix_len}
use Rattle.std.proofs.lemmas.List.Sums.{prefix_len-le-length}
use Rattle.std.proofs.lemmas.List.{length-drop}
use Rattle.jh_edn.specs.Bytes.{is_token_byte}
use Rattle.jh_lexemes.proofs.FrontLemmas.{slice_is, behind_run}
use Rattle.jh_lexemes.proofs.lexeme.character_len.Goals as goal

pub overflow_add-result : goal.overflow_add-result
overflow_add-result c =
    let s = c.as_bytes.result.now in
    let n : c.token_len.result ≡ prefix_len is_token_byte (drop 2 s) = rw (← slice_is 2 s) c.token_len.ensures in
    omega (arith, prefix_len-le-length is_token_byte (drop 2 s), length-drop 2 s)

pub returns-in-len2-up-clause-boundary : goal.returns-in-len2-up-clause-boundary
returns-in-len2-up-clause-boundary c =
    let s = c.args.rest.now in
    let n : c.token_len.result ≡ prefix_len is_token_byte (drop 2 s) = rw (← c.as_bytes.ensures.value, ← slice_is 2 c.as_bytes.result.now) c.token_len.ensures in
    let some : 2 ≤ length s = rw (← c.as_bytes.ensures.value) c.in-len2-up.len_at_least in
    behind_run s 2 c.token_len.result some n
