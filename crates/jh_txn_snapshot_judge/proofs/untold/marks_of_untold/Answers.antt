use Rattle.std.proofs.Common.{◌≡◌, ℕ, length, sym, subst, arith}
use Rattle.std.specs.Prelude.{◌↔◌}
use Rattle.std.proofs.lemmas.List.{take_at}
use Rattle.jh_txn_seen.specs.Marks.{AddsMarks, IsMarked}
use Rattle.jh_txn_seen.proofs.MarkLemmas.{marks_from_none}
use Rattle.jh_txn_snapshot_judge.specs.UntoldInside.{IsAnyUntoldAt}
use Rattle.jh_txn_snapshot_judge.proofs.untold.marks_of_untold.Goals as goal

pub returns : goal.returns
returns c =
    let Untold = IsAnyUntoldAt c.args.txns.now c.args.there.now c.args.marks.now in
    let new = c.mark_all_untold.new.untold in
    let kept : length new ≡ c.in_ok-untold.untold.len = omega arith in
    subst (λ ms. (element : ℕ) → IsMarked ms element ↔ Untold element) (sym (take_at new _ c.in_ok-untold.untold.len kept))
    (marks_from_none Untold c.args.elements c.in_ok-untold.untold.items new (c.in_ok-untold.ensures.items_if_clones_equal (λ y same. same)) (subst (λ ms. AddsMarks Untold ms new) c.deref_mut.ensures.value c.mark_all_untold.ensures))
