use Rattle.std.proofs.Common.{◌≡◌, ◌+◌, ◌++◌, take, drop, ap, ◌∙◌, sym, arith}
use Rattle.std.proofs.lemmas.List.{drop-drop}
use Rattle.std.proofs.Math.Seq.{take-add}
use Rattle.jh_ops.specs.Operation.{operation}
use Rattle.jh_ops.specs.RecordParts.{elements, AreWordsOfValues}
use Rattle.jh_ops.specs.Words.{heading, integers}
use Rattle.jh_ops.proofs.RecordLemmas.{counted, stand_for, elements_kept}
use Rattle.jh_ops.proofs.words.to_words.Goals as goal

pub overflow_add-len : goal.overflow_add-len
overflow_add-len c =
    let h = c.in-Some.ensures in
    let count = c.count_of-len.ensures ∙ counted (operation c.args.op.now) h.0 h.2 in
    omega (arith, count, h.1.few)

pub returns-then-words-len-clause-refused : goal.returns-then-words-len-clause-refused
returns-then-words-len-clause-refused c =
    let h = c.in-Some.ensures in
    let count = c.count_of-len.ensures ∙ counted (operation c.args.op.now) h.0 h.2 in
    (h.0, h.1, h.2, rw count at c.if-words-len.true)

pub returns-clause-recorded : goal.returns-clause-recorded
returns-clause-recorded c =
    let h = c.in-Some.ensures in
    let op = operation c.args.op.now in
    let n = c.count_of-len.result in
    let new = c.write_value.new.words in
    let rest = take n (drop 3 new) in
    let first : take 3 new ≡ heading h.0 = c.write_value.ensures.before ∙ c.write_heading.ensures.heading ∙ sym h.3 in
    let all : take (3 + n) new ≡ heading h.0 ++ rest = take-add 3 n new ∙ ap (λ ws. ws ++ rest) first in
    let are : AreWordsOfValues rest (elements op.value) = rw c.count_of-len.ensures c.write_value.ensures.integers in
    (h.0, h.1, h.2, (rest, all, stand_for rest (integers h.0.content) (rw (elements_kept op h.0 h.2) at are)))

pub returns-clause-others : goal.returns-clause-others
returns-clause-others c =
    let n = c.count_of-len.result in
    let mid = c.write_heading.new.words in
    let old = c.args.words.now in
    let after : drop (3 + n) c.write_value.new.words ≡ drop (3 + n) mid = rw c.count_of-len.ensures c.write_value.ensures.after in
    after ∙ sym (drop-drop n 3 mid) ∙ ap (drop n) c.write_heading.ensures.rest ∙ drop-drop n 3 old
