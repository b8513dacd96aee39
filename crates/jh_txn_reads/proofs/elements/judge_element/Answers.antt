use Rattle.std.proofs.Common.{length, sym, ◌∙◌}
use Rattle.std.proofs.lemmas.Bool.{false≢true}
use Rattle.jh_txn_reads.proofs.ElementLemmas.{sound_if, wrong_if_lacking}
use Rattle.jh_txn_reads.proofs.elements.judge_element.Goals as goal

pub returns-then-lacks_neighbour : goal.returns-then-lacks_neighbour
returns-then-lacks_neighbour c = λ base marked there.
    wrong_if_lacking c.args.txns.now c.requires.once (length c.args.marks.now) c.args.writers.now c.requires.writers base c.args.marks.now marked c.args.place c.args.key c.args.element there c.in-Some.writer (sym c.writer_at.ensures ∙ c.in-Some.is) c.if-writer-key.false c.if-writer-place.false
    (c.lacks_neighbour.ensures.0 c.if-lacks_neighbour.true)

pub returns : goal.returns
returns c = λ base marked there.
    sound_if c.args.txns.now c.requires.once (length c.args.marks.now) c.args.writers.now c.requires.writers base c.args.marks.now marked c.args.place c.args.key c.args.element there c.in-Some.writer (sym c.writer_at.ensures ∙ c.in-Some.is) c.if-writer-key.false c.if-writer-place.false
    (λ failed. false≢true (sym c.if-is_failed.false ∙ c.is_failed.ensures.1 failed))
    (λ lacks. false≢true (sym c.if-lacks_neighbour.false ∙ c.lacks_neighbour.ensures.1 lacks))
