use Rattle.std.proofs.Common.{◌<◌, sym, subst}
use Rattle.jh_txn_seen.specs.Reads.{IsAmongReads}
use Rattle.jh_txn_seen.specs.declared.done_reads.DoneRead.{DoneRead}
use Rattle.jh_txn_seen.proofs.KnownLemmas.{writers_below}
use Rattle.jh_txn_seen.proofs.ReadLemmas.{read_key_below}
use Rattle.jh_txn_snapshot_judge.proofs.verdict.judge_good_reads.Goals as goal

pub marks_of-requires : goal.marks_of-requires
marks_of-requires c = writers_below c.args.txns.now c.args.keys c.args.elements c.args.writers.now c.requires.numbered c.requires.writers

pub longest_reads-requires : goal.longest_reads-requires
longest_reads-requires c =
    subst (λ reads. (read : DoneRead) → IsAmongReads reads read → read.key < c.args.keys) (sym c.deref-2.ensures.value) (read_key_below c.args.txns.now c.in_ok-reads.reads.items c.args.keys c.in_ok-reads.ensures c.requires.numbered.keys_below)
