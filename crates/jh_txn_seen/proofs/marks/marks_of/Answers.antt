use Rattle.std.proofs.Common.{◌≡◌, length, sym, ap, subst, arith}
use Rattle.std.proofs.lemmas.List.{take_at}
use Rattle.jh_txn_seen.specs.Marks.{AddsMarks, AreThereMarks, IsShown}
use Rattle.jh_txn_seen.proofs.MarkLemmas.{marks_are}
use Rattle.jh_txn_seen.proofs.marks.marks_of.Goals as goal

pub mark_shown-requires : goal.mark_shown-requires
mark_shown-requires c = λ element writer is. omega (arith, c.requires element writer is, ap length c.deref_mut.ensures.value, c.in_ok-there.ensures.count)

pub returns : goal.returns
returns c =
    let txns = c.args.txns.now in
    let writers = c.args.writers.now in
    let reads = c.args.reads.now in
    let old = c.in_ok-there.there.items in
    let new = c.mark_shown.new.there in
    let kept : length new ≡ c.in_ok-there.there.len = omega arith in
    subst (AreThereMarks txns writers reads) (sym (take_at new _ c.in_ok-there.there.len kept))
    (marks_are txns writers reads old new c.in_ok-there.ensures.count c.in_ok-there.ensures.done (subst (λ ms. AddsMarks (IsShown writers reads) ms new) c.deref_mut.ensures.value c.mark_shown.ensures))
