use Rattle.std.proofs.Common.{◌≡◌, ℕ, length, sym, ap, subst, ◌∙◌, arith}
use Rattle.std.specs.Prelude.{◌↔◌}
use Rattle.std.proofs.lemmas.List.{take_at}
use Rattle.jh_txn_seen.specs.Marks.{AddsMarks, IsMarked, IsReadElement}
use Rattle.jh_txn_seen.proofs.MarkLemmas.{marks_from_none}
use Rattle.jh_txn_seen.proofs.marks.marks_of_read.Goals as goal

pub mark_longest-requires : goal.mark_longest-requires
mark_longest-requires c = λ key element h. omega (arith, c.requires key element h, ap length c.deref_mut.ensures.value, c.in_ok-marks.ensures.len)

pub returns-clause-count : goal.returns-clause-count
returns-clause-count c =
    let new = c.mark_longest.new.marks in
    let kept : length new ≡ c.in_ok-marks.marks.len = omega arith in
    ap length (take_at new _ c.in_ok-marks.marks.len kept) ∙ omega (arith, kept, c.in_ok-marks.ensures.len)

pub returns-clause-read : goal.returns-clause-read
returns-clause-read c =
    let longest = c.args.longest.now in
    let new = c.mark_longest.new.marks in
    let kept : length new ≡ c.in_ok-marks.marks.len = omega arith in
    subst (λ ms. (e : ℕ) → IsMarked ms e ↔ IsReadElement longest e) (sym (take_at new _ c.in_ok-marks.marks.len kept))
    (marks_from_none (IsReadElement longest) c.args.elements c.in_ok-marks.marks.items new (c.in_ok-marks.ensures.items_if_clones_equal (λ y same. same)) (subst (λ ms. AddsMarks (IsReadElement longest) ms new) c.deref_mut.ensures.value c.mark_longest.ensures))
