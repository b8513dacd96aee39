use Rattle.std.proofs.Common.{◌++◌, ◌∙◌, ap, arith, sym}
use Rattle.std.proofs.lemmas.Result.{on_ok_weaker}
use Rattle.jh_bands.proofs.WordsLemmas.{sequence_words, size_below, written_more}
use Rattle.jh_bands.proofs.words.+words.Goals as goal

pub write_elements-write_words-requires : goal.write_elements-write_words-requires
write_elements-write_words-requires t c =
    (omega (arith, size_below c.args.elements.now c.loop-place.place c.index-elements-place.result (omega arith) c.index-elements-place.is), tt)

pub write_elements-loop-place-preserved : goal.write_elements-loop-place-preserved
write_elements-loop-place-preserved t c =
    written_more c.args.elements.now c.loop-place.place c.index-elements-place.result c.args.text.now.items c.loop-place.text.items c.write_gap.new.text.items c.write_words.new.text.items
    (omega arith) c.index-elements-place.is c.loop-place.invariant c.in_ok-write_gap.ensures c.in_ok-write_words.ensures

pub write_words-returns-in-List : goal.write_words-returns-in-List
write_words-returns-in-List t c =
    let some = sym c.is_empty.ensures ∙ c.if-not-is_empty.true in
    let words = sequence_words c.args.value.now c.as_slice.result.now c.as_slice-in-List.result.now c.in-List.elements some c.as_slice.ensures c.as_slice-in-List.ensures c.in-List.is in
    on_ok_weaker c.write_elements.result (λ h. h ∙ ap (λ w. c.args.text.now.items ++ w) words) c.write_elements.ensures
