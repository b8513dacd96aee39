use Rattle.std.proofs.Common.{◌≡◌, ℕ, true, length, sym, ap, subst, arith}
use Rattle.std.specs.Prelude.{◌↔◌}
use Rattle.std.proofs.lemmas.List.{take_at}
use Rattle.jh_txn.specs.Transactions.{includes}
use Rattle.jh_txn_seen.specs.Marks.{AddsMarks, IsMarked}
use Rattle.jh_txn_seen.proofs.MarkLemmas.{marks_from_none}
use Rattle.jh_txn_points.proofs.fork.marks_of.Goals as goal

pub mark_elements-requires : goal.mark_elements-requires
mark_elements-requires c = λ element h. omega (arith, c.requires element h, ap length c.deref_mut.ensures.value, c.in_ok-marks.ensures.len)

pub returns : goal.returns
returns c =
    let seen = c.args.seen.now in
    let new = c.mark_elements.new.marks in
    let kept : length new ≡ c.in_ok-marks.marks.len = omega arith in
    subst (λ ms. (e : ℕ) → IsMarked ms e ↔ (includes seen e ≡ true)) (sym (take_at new _ c.in_ok-marks.marks.len kept))
    (marks_from_none (λ e. includes seen e ≡ true) c.args.elements c.in_ok-marks.marks.items new (c.in_ok-marks.ensures.items_if_clones_equal (λ y same. same)) (subst (λ ms. AddsMarks (λ e. includes seen e ≡ true) ms new) c.deref_mut.ensures.value c.mark_elements.ensures))
