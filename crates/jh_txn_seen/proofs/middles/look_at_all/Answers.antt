use Rattle.std.proofs.Common.{◌≡◌, ◌<◌, Some, length, get_or, subst, arith}
use Rattle.std.specs.Prelude.{slice_get}
use Rattle.std.proofs.lemmas.Option.{slice_get-get_or, same_Some}
use Rattle.jh_txn.proofs.OrderCheckLemmas.{done_below}
use Rattle.jh_txn_seen.specs.Middles.{AreMiddlesOf}
use Rattle.jh_txn_seen.specs.Inside.{IsNotedUnread}
use Rattle.jh_txn_seen.proofs.MiddleLemmas.{middles_more}
use Rattle.jh_txn_seen.proofs.ReadLemmas.{no_read, read_key_below}
use Rattle.jh_txn_seen.proofs.middles.look_at_all.Goals as goal

pub note_txn-requires-clause-place : goal.note_txn-requires-clause-place
note_txn-requires-clause-place c =
    let reads = c.args.reads.now in
    let i = c.loop-read.read-index in
    let low : i < length reads = omega arith in
    let read = get_or reads i no_read in
    done_below c.args.txns.now read.place (c.requires.reads.right read (i, slice_get-get_or reads i no_read low)).1.0

pub look_at-requires-clause-middles : goal.look_at-requires-clause-middles
look_at-requires-clause-middles c =
    let reads = c.args.reads.now in
    let i = c.loop-read.read-index in
    let low : i < length reads = omega arith in
    let read = get_or reads i no_read in
    omega (arith, read_key_below c.args.txns.now reads (length c.args.longest.now) c.requires.reads c.requires.keys read (i, slice_get-get_or reads i no_read low), c.loop-read.invariant.middles.count)

pub look_at-requires-clause-table : goal.look_at-requires-clause-table
look_at-requires-clause-table c =
    let reads = c.args.reads.now in
    let i = c.loop-read.read-index in
    let low : i < length reads = omega arith in
    let read = get_or reads i no_read in
    omega (arith, read_key_below c.args.txns.now reads (length c.args.longest.now) c.requires.reads c.requires.keys read (i, slice_get-get_or reads i no_read low), c.requires.table, c.loop-read.auto.table, c.note_txn.auto.table)

pub look_at-requires-clause-longest : goal.look_at-requires-clause-longest
look_at-requires-clause-longest c =
    let reads = c.args.reads.now in
    let i = c.loop-read.read-index in
    let low : i < length reads = omega arith in
    let read = get_or reads i no_read in
    read_key_below c.args.txns.now reads (length c.args.longest.now) c.requires.reads c.requires.keys read (i, slice_get-get_or reads i no_read low)

pub loop-read-preserved : goal.loop-read-preserved
loop-read-preserved c =
    let reads = c.args.reads.now in
    let i = c.loop-read.read-index in
    let low : i < length reads = omega arith in
    let read = get_or reads i no_read in
    let at : slice_get reads i ≡ Some read = slice_get-get_or reads i no_read low in
    let below : read.key < length c.loop-read.middles = omega (arith, read_key_below c.args.txns.now reads (length c.args.longest.now) c.requires.reads c.requires.keys read (i, at), c.loop-read.invariant.middles.count) in
    record {
      middles = middles_more c.args.txns.now c.args.marks.now c.args.longest.now reads i read c.note_txn.new.table c.loop-read.middles c.look_at.new.middles at c.note_txn.ensures.unread c.note_txn.ensures.noted c.look_at.ensures below c.loop-read.invariant.middles;
      unread = c.note_txn.ensures.unread;
      noted = λ place is. subst (IsNotedUnread c.args.txns.now c.args.marks.now c.note_txn.new.table) (same_Some read.place place is) c.note_txn.ensures.noted;
    }

pub returns : goal.returns
returns c =
    let all : c.loop-read.read-index ≡ length c.args.reads.now = omega arith in
    subst (λ n. AreMiddlesOf c.args.txns.now c.args.marks.now c.args.longest.now c.args.reads.now n c.loop-read.middles) all c.loop-read.invariant.middles
