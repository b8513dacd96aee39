use Rattle.std.proofs.lemmas.Option.{slice_get-get_or}
use Rattle.jh_txn_reads.proofs.ViewLemmas.{sound_if_not_done, new_later, not_done_at}
use Rattle.jh_txn_reads.proofs.find.judge_txn.Goals as goal

pub returns-in_default : goal.returns-in_default
returns-in_default c = record {
  judged = sound_if_not_done c.args.txns.now c.args.place (not_done_at c.args.txns.now c.args.place _ (slice_get-get_or c.args.txns.now c.args.place _ c.requires.there) c.in_default.not-Done);
  empty = λ _. new_later c.args.views.now c.args.place c.requires.empty;
  clear = λ _. c.requires.clear;
}
