use Rattle.std.proofs.Common.{◌≡◌, ◌+◌, ◌<◌, Some, length, refl, sym, subst, ◌∙◌, arith}
use Rattle.std.specs.Prelude.{slice_get}
use Rattle.std.proofs.lemmas.Bool.{false≢true}
use Rattle.std.proofs.lemmas.Option.{slice_get_read}
use Rattle.jh_txn_seen.specs.Reads.{AreReadsBelow}
use Rattle.jh_txn_seen.proofs.ReadLemmas.{below_skip, below_more}
use Rattle.jh_txn_seen.proofs.done_reads.reads_of.Goals as goal
use Rattle.jh_txn_seen.proofs.done_reads.reads_of.Goals.{then-is_done+in_ok-add_reads, else-is_done}

pub loop-place-preserved : goal.loop-place-preserved
loop-place-preserved c =
    let txns = c.args.txns.now in
    let n = c.loop-place.place in
    let txn = c.index-txns-place.result in
    let low : n < length txns = omega arith in
    let at : slice_get txns n ≡ Some txn = slice_get_read txns (length txns) n txn refl low c.index-txns-place.is in
    elim c.if-is_done.branch [
      | then-is_done+in_ok-add_reads w ↦ subst (λ v. AreReadsBelow txns (n + 1) v.items) (sym w.reads-is)
          (below_more txns n txn w.as_slice.result.now c.loop-place.reads.items w.add_reads.new.reads.items at (c.is_done.ensures.0 w.if-is_done.true) w.as_slice.ensures c.loop-place.invariant w.in_ok-add_reads.ensures)
      | else-is_done w ↦ subst (λ v. AreReadsBelow txns (n + 1) v.items) (sym w.reads-is)
          (below_skip txns n txn c.loop-place.reads.items at (λ done. false≢true (sym w.if-is_done.false ∙ c.is_done.ensures.1 done)) c.loop-place.invariant)
    ]

pub returns : goal.returns
returns c =
    let all : c.loop-place.place ≡ length c.args.txns.now = omega arith in
    subst (λ n. AreReadsBelow c.args.txns.now n c.loop-place.reads.items) all c.loop-place.invariant
