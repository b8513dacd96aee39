use Rattle.std.proofs.Common.{◌≡◌, ◌<◌, ◌+◌, Some, true, get_or, length, set, subst}
use Rattle.std.specs.Prelude.{slice_get}
use Rattle.std.proofs.lemmas.Option.{slice_get-get_or}
use Rattle.jh_txn.specs.BadReads.{IsBadRead}
use Rattle.jh_txn.specs.Transactions.{IsKeyBelow}
use Rattle.jh_txn_reads.specs.Inside.{AreEmptyFrom, AreViewsAt, IsSoundRead, IsViewWith, IsWrongRead, is_known_for, list_for}
use Rattle.jh_txn_reads.proofs.ViewLemmas.{bad_if, judged_then, new_set, none_then, views_appended, views_read}
use Rattle.jh_txn_reads.proofs.ops.judge_op.Goals as goal

pub returns-in_ok-append-in-Append-clause-judged : goal.returns-in_ok-append-in-Append-clause-judged
returns-in_ok-append-in-Append-clause-judged c = λ index at are.
    let views = c.args.views.now in
    let key = c.in-Append.key in
    let old = get_or views key c.index-views-key.result in
    let low : key < length views = subst (IsKeyBelow (length views)) c.in-Append.is c.requires.key in
    let there : slice_get views key ≡ Some old = slice_get-get_or views key c.index-views-key.result low in
    views_appended c.args.txns.now c.args.place index c.args.op.now at key c.in-Append.element c.in-Append.is views old c.append.new.self there c.in_ok-append-in-Append.ensures are

pub returns-in_ok-append-in-Append-clause-empty : goal.returns-in_ok-append-in-Append-clause-empty
returns-in_ok-append-in-Append-clause-empty c = λ new _.
    new_set c.args.views.now c.in-Append.key c.args.place c.append.new.self c.in_ok-append-in-Append.ensures.place new

pub returns-in-Read-clause-judged : goal.returns-in-Read-clause-judged
returns-in-Read-clause-judged c = λ index at are.
    let txns = c.args.txns.now in
    let place = c.args.place in
    let views = c.args.views.now in
    let key = c.in-Read.key in
    let seen = c.in-Read.seen in
    let old = get_or views key c.index-views-key-in-Read.result in
    let new = c.judge_read.new.view in
    let low : key < length views = subst (IsKeyBelow (length views)) c.in-Read.is c.requires.key in
    let there : slice_get views key ≡ Some old = slice_get-get_or views key c.index-views-key-in-Read.result low in
    judged_then c.judge_read.result
    (IsSoundRead txns place key (is_known_for old place) (list_for old place) c.as_slice.result.now)
    (IsViewWith new place true c.as_slice.result.now)
    (λ kind. IsWrongRead txns place key (is_known_for old place) (list_for old place) c.as_slice.result.now kind)
    (AreViewsAt txns place (index + 1) (set views key new))
    (λ kind. IsBadRead txns place index kind)
    c.judge_read.ensures.judged c.judge_read.ensures.view
    (λ sound view. views_read txns place index c.args.op.now at key seen c.in-Read.is c.requires.done views old new there (subst (IsSoundRead txns place key (is_known_for old place) (list_for old place)) c.as_slice.ensures sound) (subst (IsViewWith new place true) c.as_slice.ensures view) are)
    (λ kind wrong. bad_if txns place index c.args.op.now at key seen c.in-Read.is c.requires.done c.requires.once (is_known_for old place) (list_for old place) kind (are key old there) (subst (λ xs. IsWrongRead txns place key (is_known_for old place) (list_for old place) xs kind) c.as_slice.ensures wrong))

pub returns-in-Read-clause-empty : goal.returns-in-Read-clause-empty
returns-in-Read-clause-empty c = λ new.
    let view = c.judge_read.new.view in
    let views = c.args.views.now in
    none_then c.judge_read.result (IsViewWith view c.args.place true c.as_slice.result.now) (AreEmptyFrom (c.args.place + 1) (set views c.in-Read.key view)) c.judge_read.ensures.view (λ with_. new_set views c.in-Read.key c.args.place view with_.place new)
