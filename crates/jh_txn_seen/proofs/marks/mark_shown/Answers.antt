use Rattle.std.proofs.Common.{◌<◌, length, get_or, arith}
use Rattle.std.proofs.lemmas.Option.{slice_get-get_or}
use Rattle.jh_txn_seen.proofs.MarkLemmas.{ShownAt, marks_none_below, shown_all, shown_more}
use Rattle.jh_txn_seen.proofs.ReadLemmas.{no_read}
use Rattle.jh_txn_seen.proofs.marks.mark_shown.Goals as goal

pub mark_shown_by-requires : goal.mark_shown_by-requires
mark_shown_by-requires c = λ element writer is. omega (arith, c.requires element writer is, c.loop-read.auto.there)

pub loop-read-init : goal.loop-read-init
loop-read-init c = marks_none_below (ShownAt c.args.writers.now c.args.reads.now) c.args.there.now

pub loop-read-preserved : goal.loop-read-preserved
loop-read-preserved c =
    let reads = c.args.reads.now in
    let i = c.loop-read.read-index in
    let low : i < length reads = omega arith in
    shown_more c.args.writers.now reads i (get_or reads i no_read) c.args.there.now c.loop-read.there c.mark_shown_by.new.there (slice_get-get_or reads i no_read low) c.loop-read.invariant c.mark_shown_by.ensures

pub returns : goal.returns
returns c = shown_all c.args.writers.now c.args.reads.now c.loop-read.read-index c.args.there.now c.loop-read.there c.loop-read-test.false c.loop-read.invariant
