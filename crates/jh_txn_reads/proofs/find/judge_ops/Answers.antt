use Rattle.std.proofs.Common.{◌≡◌, ◌<◌, Some, get_or, length, arith}
use Rattle.std.specs.Prelude.{slice_get}
use Rattle.std.proofs.lemmas.Option.{MatchOption-at_none, MatchOption-at_some, slice_get-get_or}
use Rattle.jh_txn.specs.Transactions.{ops_at}
use Rattle.jh_txn_reads.proofs.ViewLemmas.{all_passed, sound_txn, new_later, op_at, views_begin}
use Rattle.jh_txn_reads.proofs.find.judge_ops.Goals as goal

pub loop-index-init : goal.loop-index-init
loop-index-init c = record {
  views = views_begin c.args.txns.now c.args.place c.args.views.now c.requires.empty;
  empty = new_later c.args.views.now c.args.place c.requires.empty;
  clear = c.requires.clear;
}

pub returns-in-Some-clause-judged : goal.returns-in-Some-clause-judged
returns-in-Some-clause-judged c =
    let txns = c.args.txns.now in
    let place = c.args.place in
    let items = c.as_slice-op-items.result.now in
    let i = c.loop-index.index in
    let low : i < length items = omega arith in
    let at : slice_get (ops_at txns place) i ≡ Some c.op-item.result = op_at txns place (get_or txns place c.index-txns-place.result) (slice_get-get_or txns place c.index-txns-place.result c.requires.there) items i c.op-item.result c.as_slice-op-items.ensures low c.op-item.is in
    MatchOption-at_some _ _ c.in-Some.kind c.in-Some.is (c.in_ok-kind.ensures.judged i at c.loop-index.invariant.views)

pub loop-index-preserved : goal.loop-index-preserved
loop-index-preserved c =
    let txns = c.args.txns.now in
    let place = c.args.place in
    let items = c.as_slice-op-items.result.now in
    let i = c.loop-index.index in
    let low : i < length items = omega arith in
    let at : slice_get (ops_at txns place) i ≡ Some c.op-item.result = op_at txns place (get_or txns place c.index-txns-place.result) (slice_get-get_or txns place c.index-txns-place.result c.requires.there) items i c.op-item.result c.as_slice-op-items.ensures low c.op-item.is in
    record {
      views = MatchOption-at_none _ _ c.in_default.is (c.in_ok-kind.ensures.judged i at c.loop-index.invariant.views);
      empty = c.in_ok-kind.ensures.empty c.loop-index.invariant.empty c.in_default.is;
      clear = c.in_ok-kind.ensures.clear c.in_default.is;
    }

pub returns-clause-judged : goal.returns-clause-judged
returns-clause-judged c =
    let txns = c.args.txns.now in
    let place = c.args.place in
    let items = c.as_slice-op-items.result.now in
    let i = c.loop-index.index in
    let count : length c.args.views.now ≡ length c.loop-index.views = omega arith in
    let past = all_passed txns place (get_or txns place c.index-txns-place.result) (slice_get-get_or txns place c.index-txns-place.result c.requires.there) items i c.as_slice-op-items.ensures c.loop-index-test.false in
    sound_txn txns place (length c.args.views.now) c.loop-index.views c.requires.numbered.keys_below count i past c.loop-index.invariant.views
