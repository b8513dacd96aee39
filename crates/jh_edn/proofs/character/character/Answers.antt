use Rattle.std.proofs.Common.{◌≡◌, get_or, Some, ◌++◌, refl, sym, ◌∙◌, arith}
use Rattle.std.specs.Prelude.{encode_utf8, slice_get, chars}
use Rattle.std.specs.List.{prefix_len}
use Rattle.std.proofs.lemmas.Str.{IsCharBoundary-after_ascii}
use Rattle.jh_edn.specs.Bytes.{backslash, is_token_byte}
use Rattle.jh_edn.specs.Reading.{token_of, char_of}
use Rattle.jh_edn.proofs.TextFrontLemmas.{within}
use Rattle.jh_edn.proofs.CharacterLemmas.{gives, scalar_first, char_alone, by_name}
use Rattle.jh_edn.proofs.character.character.Goals.{then-len-eq0, else-len-eq0}
use Rattle.jh_edn.proofs.character.character.Goals as goal

pub range_from-behind-requires : goal.range_from-behind-requires
range_from-behind-requires c =
    let s = c.args.rest.now in
    let first : get_or s 0 0 ≡ backslash = c.requires in
    λ _. IsCharBoundary-after_ascii s 0 c.utf8.rest (within s 0 (omega arith)) (omega arith)

pub returns-in-Some-found-clause-gives : goal.returns-in-Some-found-clause-gives
returns-in-Some-found-clause-gives c =
    let t = c.range_from-behind.result.now in
    let after = c.as_str-after.result.now in
    let first = c.in-Some.first in
    let steps = c.in-Some.ensures.steps in
    let one : slice_get (chars t) 0 ≡ Some first = rw (← c.chars-chars.ensures.rest) (sym steps.2) in
    let parts : t ≡ encode_utf8 first ++ after = rw (← c.chars-chars.ensures.rest, c.as_str-after.ensures) steps.0 in
    let token : c.token_len-len.result ≡ prefix_len is_token_byte after = c.token_len-len.ensures.len in
    let found : c.if-len-eq0.found ≡ char_of first (token_of after) =
    elim c.if-len-eq0.branch [
      | then-len-eq0 w ↦ w.found-is ∙ w.alone-found.ensures ∙ sym (char_alone first after (sym token ∙ w.if-len-eq0.true))
      | else-len-eq0 w ↦ by_name first t after w.range.result.now w.len_utf8.result c.token_len-len.result c.if-len-eq0.found parts w.range.ensures.value w.len_utf8.ensures.len token w.if-len-eq0.false (w.found-is ∙ w.called-found.ensures)
    ] in
    let given = gives c.args.rest.now t after first c.if-len-eq0.found c.range_from-behind.ensures.value one parts (scalar_first t first c.range_from-behind.utf8 one) found in
    rw (c.range_from.ensures.value, token) (given ∙ rw c.in-Some-found.is refl)

pub returns-in-None-clause-gives : goal.returns-in-None-clause-gives
returns-in-None-clause-gives c =
    let t = c.range_from-behind.result.now in
    let after = c.as_str-after.result.now in
    let first = c.in-Some.first in
    let steps = c.in-Some.ensures.steps in
    let one : slice_get (chars t) 0 ≡ Some first = rw (← c.chars-chars.ensures.rest) (sym steps.2) in
    let parts : t ≡ encode_utf8 first ++ after = rw (← c.chars-chars.ensures.rest, c.as_str-after.ensures) steps.0 in
    let token : c.token_len-len.result ≡ prefix_len is_token_byte after = c.token_len-len.ensures.len in
    let found : c.if-len-eq0.found ≡ char_of first (token_of after) =
    elim c.if-len-eq0.branch [
      | then-len-eq0 w ↦ w.found-is ∙ w.alone-found.ensures ∙ sym (char_alone first after (sym token ∙ w.if-len-eq0.true))
      | else-len-eq0 w ↦ by_name first t after w.range.result.now w.len_utf8.result c.token_len-len.result c.if-len-eq0.found parts w.range.ensures.value w.len_utf8.ensures.len token w.if-len-eq0.false (w.found-is ∙ w.called-found.ensures)
    ] in
    let given = gives c.args.rest.now t after first c.if-len-eq0.found c.range_from-behind.ensures.value one parts (scalar_first t first c.range_from-behind.utf8 one) found in
    rw c.syntax_error_at-in-None.ensures (given ∙ rw c.in-None.is refl)
