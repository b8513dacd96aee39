use Rattle.std.proofs.Common.{◌≡◌, ◌<◌, Some, get_or, take, length, subst, sym, ◌∙◌, refl, arith}
use Rattle.std.specs.Prelude.{slice_get}
use Rattle.std.proofs.lemmas.Bool.{false≢true}
use Rattle.std.proofs.lemmas.List.{take_more}
use Rattle.std.proofs.lemmas.Option.{slice_get_read}
use Rattle.jh_txn.specs.OrderCheckInside.{AreListsAfter}
use Rattle.jh_txn.proofs.OrderCheckLemmas.{keys_at, reads_if, explained_if, explained_at, explained_more, explains_if, lists_more}
use Rattle.jh_txn.proofs.reads.run_all.Goals as goal

pub returns-then-not-branch : goal.returns-then-not-branch
returns-then-not-branch c =
    let txns = c.args.txns.now in
    let order = c.args.order.now in
    let keys = length c.args.lists.now in
    let i = c.loop-place.place-index in
    let p = get_or order i 0 in
    let low : i < length order = omega arith in
    let inside : p < length txns = c.requires.there i 0 low in
    let txn = c.index-txns-place.result in
    let at : slice_get txns p ≡ Some txn = slice_get_read txns (length txns) p txn refl inside c.index-txns-place.is in (
      λ e. absurd (false≢true e),
      λ explains. absurd (false≢true (sym c.if-not-branch.true ∙ c.in_ok-run.ensures.reads.1
          (reads_if txns keys p txn (take i order) c.loop-place.lists at (keys_at keys txns p txn c.requires.keys inside c.index-txns-place.is) c.loop-place.invariant.lists (explained_at txns order i low explains)))),
    )

pub loop-place-preserved : goal.loop-place-preserved
loop-place-preserved c =
    let txns = c.args.txns.now in
    let order = c.args.order.now in
    let keys = length c.args.lists.now in
    let i = c.loop-place.place-index in
    let p = get_or order i 0 in
    let low : i < length order = omega arith in
    let inside : p < length txns = c.requires.there i 0 low in
    let txn = c.index-txns-place.result in
    let at : slice_get txns p ≡ Some txn = slice_get_read txns (length txns) p txn refl inside c.index-txns-place.is in
    let all = keys_at keys txns p txn c.requires.keys inside c.index-txns-place.is in
    record {
      lists = subst (λ xs. AreListsAfter txns keys xs c.run.new.lists) (sym (take_more order i 0 low)) (lists_more txns keys p txn (take i order) c.loop-place.lists at all c.loop-place.invariant.lists c.run.new.lists (c.in_ok-run.ensures.after c.if-not-branch.false));
      explained = explained_more txns order i (explained_if txns keys p txn (take i order) c.loop-place.lists at all c.loop-place.invariant.lists (c.in_ok-run.ensures.reads.0 c.if-not-branch.false)) c.loop-place.invariant.explained;
    }

pub returns : goal.returns
returns c = (λ _. explains_if c.args.txns.now c.args.order.now (λ i low. c.loop-place.invariant.explained i (omega (arith, low, c.loop-place-test.false))), λ _. refl)
