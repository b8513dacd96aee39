use Rattle.std.proofs.Common.{length}
use Rattle.std.proofs.lemmas.Bool.{MatchBool-at_false, MatchBool-at_true}
use Rattle.jh_txn_reads.proofs.ElementLemmas.{in_turn_if, wrong_if_out_of_turn}
use Rattle.jh_txn_reads.proofs.bases.judge_base.Goals as goal

pub returns-then-not-unmark-clause-judged : goal.returns-then-not-unmark-clause-judged
returns-then-not-unmark-clause-judged c =
    wrong_if_out_of_turn c.args.txns.now c.requires.once (length c.args.marks.now) c.args.writers.now c.requires.writers c.args.place c.args.key c.args.base.now c.in_default.ensures
    (MatchBool-at_false _ _ c.if-not-unmark.true c.unmark.ensures.in_turn)

pub returns-clause-judged : goal.returns-clause-judged
returns-clause-judged c = record {
  distinct = c.mark.ensures.distinct.0 c.if-not-mark.false;
  elements = c.in_default.ensures;
  in_turn = in_turn_if c.args.txns.now c.requires.once (length c.args.marks.now) c.args.writers.now c.requires.writers c.args.place c.args.key c.args.base.now c.in_default.ensures
      (MatchBool-at_true _ _ c.if-not-unmark.false c.unmark.ensures.in_turn);
}
