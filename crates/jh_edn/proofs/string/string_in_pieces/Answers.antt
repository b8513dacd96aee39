use Rattle.std.proofs.Common.{◌≡◌, ℕ, ap, sym, ◌∙◌, rules, List, [], ◌∷◌, ◌++◌, refl, Ok}
use Rattle.std.specs.String.{string_bytes}
use Rattle.std.proofs.lemmas.Str.{encode_ascii}
use Rattle.std.proofs.lemmas.List.{append-nil}
use Rattle.jh_edn.specs.Bytes.{is_plain}
use Rattle.jh_edn.specs.Reading.{body}
use Rattle.jh_edn.proofs.PrefixLemmas.{prefix_len-past}
use Rattle.jh_edn.proofs.StringBodyLemmas.{read_with_front-append, moved, ended}
use Rattle.jh_edn.proofs.string.string_in_pieces.Goals as goal

pub stop_at-requires : goal.stop_at-requires
stop_at-requires c = rw (c.range_from-left.ensures.value, c.plain_len-len.ensures.len) (prefix_len-past is_plain c.pieces.left.now)

pub returns-in-End-clause-gives : goal.returns-in-End-clause-gives
returns-in-End-clause-gives c =
    let so_far = moved (string_bytes c.pieces.text) (string_bytes c.push_str.new.self) c.pieces.left.now c.range_from-left.result.now c.plain_len-len.result (body c.args.rest.now) c.plain_len-len.ensures.len (rw c.in_ok-push_str.ensures.bytes (search rules)) c.range_from-left.ensures.value c.pieces.invariant.1 in
    rw c.syntax_error_at.ensures (ended (string_bytes c.push_str.new.self) c.range_from-left.result.now (body c.args.rest.now) _ so_far c.in-End.ensures.gives)

pub returns-in-BadEscape-clause-gives : goal.returns-in-BadEscape-clause-gives
returns-in-BadEscape-clause-gives c =
    let so_far = moved (string_bytes c.pieces.text) (string_bytes c.push_str.new.self) c.pieces.left.now c.range_from-left.result.now c.plain_len-len.result (body c.args.rest.now) c.plain_len-len.ensures.len (rw c.in_ok-push_str.ensures.bytes (search rules)) c.range_from-left.ensures.value c.pieces.invariant.1 in
    rw c.syntax_error_at-in-BadEscape.ensures (ended (string_bytes c.push_str.new.self) c.range_from-left.result.now (body c.args.rest.now) _ so_far c.in-BadEscape.ensures.gives)

pub returns-in-Close-clause-gives : goal.returns-in-Close-clause-gives
returns-in-Close-clause-gives c =
    let so_far = moved (string_bytes c.pieces.text) (string_bytes c.push_str.new.self) c.pieces.left.now c.range_from-left.result.now c.plain_len-len.result (body c.args.rest.now) c.plain_len-len.ensures.len (rw c.in_ok-push_str.ensures.bytes (search rules)) c.range_from-left.ensures.value c.pieces.invariant.1 in
    rw c.in_ok-of_string-in-Close.ensures (ended (string_bytes c.push_str.new.self) c.range_from-left.result.now (body c.args.rest.now) _ so_far c.in-Close.ensures.gives ∙ ap (λ (t : List ℕ). Ok (t, c.in-Close.after.now)) (append-nil (string_bytes c.push_str.new.self)))

pub pieces-preserved : goal.pieces-preserved
pieces-preserved c =
    let so_far = moved (string_bytes c.pieces.text) (string_bytes c.push_str.new.self) c.pieces.left.now c.range_from-left.result.now c.plain_len-len.result (body c.args.rest.now) c.plain_len-len.ensures.len (rw c.in_ok-push_str.ensures.bytes (search rules)) c.range_from-left.ensures.value c.pieces.invariant.1 in
    let more : string_bytes c.push.new.self ≡ string_bytes c.push_str.new.self ++ c.in-Escape.c ∷ [] = rw (c.in_ok-push-in-Escape.ensures.bytes, encode_ascii c.in-Escape.c c.in-Escape.ensures.shorter.1) refl in
    let last = ended (string_bytes c.push_str.new.self) c.range_from-left.result.now (body c.args.rest.now) _ so_far c.in-Escape.ensures.gives in
    (c.in-Escape.ensures.shorter.2, rw more (sym (last ∙ read_with_front-append (string_bytes c.push_str.new.self) (c.in-Escape.c ∷ []) (body c.in-Escape.after.now))))
