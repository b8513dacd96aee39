use Rattle.std.proofs.Common.{◌≡◌}
use Rattle.std.specs.List.{prefix_len}
use Rattle.jh_edn.specs.Bytes.{is_space, is_token_byte}
use Rattle.jh_lexemes.specs.Lexemes.{is_in_line}
use Rattle.jh_lexemes.proofs.FrontLemmas.{behind_line, behind_spaces, behind_token}
use Rattle.jh_lexemes.proofs.lexeme.other_front.Goals as goal

pub returns-in-59-clause-boundary : goal.returns-in-59-clause-boundary
returns-in-59-clause-boundary c =
    let n : c.line_len.result ≡ prefix_len is_in_line c.args.rest.now = rw (← c.as_bytes-bytes.ensures.value) c.line_len.ensures in
    behind_line c.args.rest.now c.line_len.result n

pub returns-in_default-clause-boundary : goal.returns-in_default-clause-boundary
returns-in_default-clause-boundary c =
    let n : c.space_len.result ≡ prefix_len is_space c.args.rest.now = rw (← c.as_bytes-bytes.ensures.value) c.space_len.ensures in
    behind_spaces c.args.rest.now c.space_len.result c.utf8.rest n

pub returns-in_default-2-clause-boundary : goal.returns-in_default-2-clause-boundary
returns-in_default-2-clause-boundary c =
    let n : c.token_len.result ≡ prefix_len is_token_byte c.args.rest.now = rw (← c.as_bytes-bytes.ensures.value) c.token_len.ensures in
    behind_token c.args.rest.now c.token_len.result n
