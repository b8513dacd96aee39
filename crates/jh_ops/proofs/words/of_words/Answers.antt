use Rattle.std.proofs.Common.{drop, refl, sym, ap, ◌∙◌}
use Rattle.jh_ops.specs.RecordParts.{record_of}
use Rattle.jh_ops.specs.Words.{operation_of}
use Rattle.jh_ops.proofs.RecordReadLemmas.{record_parsed, words_fit, rest_whole}
use Rattle.jh_ops.proofs.words.of_words.Goals as goal

pub returns-in-Ok : goal.returns-in-Ok
returns-in-Ok c =
    let words = c.args.words.now in
    let h = c.in-Some.heading in
    let parsed = record_parsed words h (words_fit words (λ i. (c.type_inv.words i).fits)) c.in-Some.ensures in
    (record_of h (drop 3 words), parsed.0, sym (c.in-Ok.ensures ∙ ap (λ rest. operation_of (record_of h rest)) (rest_whole words _ refl)), parsed.1)

pub returns-in-Err : goal.returns-in-Err
returns-in-Err c =
    let words = c.args.words.now in
    let h = c.in-Some.heading in
    let parsed = record_parsed words h (words_fit words (λ i. (c.type_inv.words i).fits)) c.in-Some.ensures in
    (record_of h (drop 3 words), parsed.0, parsed.1)
