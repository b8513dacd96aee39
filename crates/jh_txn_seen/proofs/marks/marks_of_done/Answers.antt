use Rattle.std.proofs.Common.{◌≡◌, ◌+◌, ◌<◌, ℕ, Some, length, refl, sym, ap, subst, ◌∙◌, arith}
use Rattle.std.specs.Prelude.{slice_get, ◌↔◌}
use Rattle.std.proofs.lemmas.List.{length_push}
use Rattle.std.proofs.lemmas.Option.{slice_get_read}
use Rattle.jh_txn.specs.Transactions.{IsDoneAt}
use Rattle.jh_txn_seen.specs.Marks.{IsMarked}
use Rattle.jh_txn_seen.proofs.MarkLemmas.{done_all, done_more}
use Rattle.jh_txn_seen.proofs.marks.marks_of_done.Goals as goal

pub loop-txn-preserved : goal.loop-txn-preserved
loop-txn-preserved c =
    let txns = c.args.txns.now in
    let i = c.loop-txn.txn-index in
    let old = c.loop-txn.there.items in
    let txn = c.txn-item.result in
    let low : i < length txns = omega arith in
    let at : slice_get txns i ≡ Some txn = slice_get_read txns (length txns) i txn refl low c.txn-item.is in
    record {
      count = ap length c.in_ok-push.ensures.items ∙ length_push old c.is_done.result ∙ ap (λ n. n + 1) c.loop-txn.invariant.count;
      done = subst (λ ms. (k : ℕ) → k < i + 1 → IsMarked ms k ↔ IsDoneAt txns k) (sym c.in_ok-push.ensures.items) (done_more txns i txn old c.is_done.result at c.loop-txn.invariant.count c.is_done.ensures c.loop-txn.invariant.done);
    }

pub returns-clause-count : goal.returns-clause-count
returns-clause-count c = omega (arith, c.loop-txn.invariant.count)

pub returns-clause-done : goal.returns-clause-done
returns-clause-done c =
    let all : c.loop-txn.txn-index ≡ length c.args.txns.now = omega arith in
    done_all c.args.txns.now c.loop-txn.there.items c.loop-txn.txn-index c.loop-txn.invariant.count all c.loop-txn.invariant.done
