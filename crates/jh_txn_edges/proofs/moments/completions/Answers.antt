use Rattle.std.proofs.Common.{◌≡◌, ◌+◌, ◌<◌, ℕ, true, Some, length, refl, sym, ap, subst, ◌∙◌, arith}
use Rattle.std.specs.Prelude.{slice_get}
use Rattle.std.proofs.lemmas.Bool.{false≢true}
use Rattle.std.proofs.lemmas.Option.{slice_get_read}
use Rattle.jh_txn.specs.Transactions.{includes}
use Rattle.jh_txn.proofs.ListLemmas.{includes_left}
use Rattle.jh_txn.proofs.OrderCheckLemmas.{done_below}
use Rattle.jh_txn_edges.specs.Moments.{IsDoneAtIndex, IsDoneFrom}
use Rattle.jh_txn_edges.proofs.MomentLemmas.{completions_kept, completions_only, pushed_there}
use Rattle.jh_txn_edges.proofs.moments.completions.Goals as goal
use Rattle.jh_txn_edges.proofs.moments.completions.Goals.{in-Some+in_ok-push, in_default}

pub loop-txn-init : goal.loop-txn-init
loop-txn-init c = record {
  whole = λ place index low. absurd (omega (arith, low));
  only = λ index h. absurd (false≢true (sym (ap (λ xs. includes xs index) c.new-moments.ensures.items) ∙ h));
}

pub loop-txn-preserved : goal.loop-txn-preserved
loop-txn-preserved c =
    let txns = c.args.txns.now in
    let i = c.loop-txn.txn-index in
    let txn = c.txn-item.result in
    let old = c.loop-txn.moments.items in
    let low : i < length txns = omega arith in
    let at : slice_get txns i ≡ Some txn = slice_get_read txns (length txns) i txn refl low c.txn-item.is in
    elim c.match-done_from.branch [
      | in-Some+in_ok-push w ↦
          let new = w.push.new.self.items in
          record {
            whole = subst (λ v. (place index : ℕ) → place < i + 1 → IsDoneFrom txns place index → includes v.items index ≡ true) (sym w.moments-is)
                (completions_kept txns i txn old new at
                (λ index h. subst (λ xs. includes xs index ≡ true) (sym w.in_ok-push.ensures.items) (includes_left old _ index h))
                (λ index h. subst (λ xs. includes xs index ≡ true) (sym w.in_ok-push.ensures.items) (pushed_there old w.in-Some.completed index (w.in-Some.ensures ∙ h)))
                c.loop-txn.invariant.whole);
            only = subst (λ v. (index : ℕ) → includes v.items index ≡ true → IsDoneAtIndex txns index) (sym w.moments-is)
                (λ index h. completions_only txns i index txn old w.in-Some.completed at w.in-Some.ensures c.loop-txn.invariant.only (subst (λ xs. includes xs index ≡ true) w.in_ok-push.ensures.items h));
          }
      | in_default w ↦ record {
        whole = subst (λ v. (place index : ℕ) → place < i + 1 → IsDoneFrom txns place index → includes v.items index ≡ true) (sym w.moments-is)
            (completions_kept txns i txn old old at (λ index h. h) (λ index h. absurd (w.in_default.not-Some index (c.done_from.ensures ∙ h))) c.loop-txn.invariant.whole);
        only = subst (λ v. (index : ℕ) → includes v.items index ≡ true → IsDoneAtIndex txns index) (sym w.moments-is) c.loop-txn.invariant.only;
      }
    ]

pub returns-clause-whole : goal.returns-clause-whole
returns-clause-whole c = λ place index h. c.loop-txn.invariant.whole place index (omega (arith, done_below c.args.txns.now place h.0, c.loop-txn-test.false)) h

pub returns-clause-only : goal.returns-clause-only
returns-clause-only c = c.loop-txn.invariant.only
