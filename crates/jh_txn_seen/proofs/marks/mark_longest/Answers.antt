use Rattle.std.proofs.Common.{◌≡◌, true, subst, arith}
use Rattle.jh_txn.specs.Transactions.{includes}
use Rattle.jh_txn_seen.specs.Marks.{AddsMarks}
use Rattle.jh_txn_seen.specs.Reads.{longest_of}
use Rattle.jh_txn_seen.proofs.MarkLemmas.{longest_all, marks_more, marks_none_below}
use Rattle.jh_txn_seen.proofs.marks.mark_longest.Goals as goal

pub mark_elements-requires : goal.mark_elements-requires
mark_elements-requires c = λ element h. omega (arith, c.requires c.loop-key.key element (subst (λ xs. includes xs element ≡ true) c.longest_at.ensures h), c.loop-key.auto.marks)

pub loop-key-init : goal.loop-key-init
loop-key-init c = marks_none_below (λ k n. includes (longest_of c.args.longest.now k) n ≡ true) c.args.marks.now

pub loop-key-preserved : goal.loop-key-preserved
loop-key-preserved c =
    marks_more (λ k n. includes (longest_of c.args.longest.now k) n ≡ true) c.loop-key.key c.args.marks.now c.loop-key.marks c.mark_elements.new.marks c.loop-key.invariant
    (subst (λ xs. AddsMarks (λ n. includes xs n ≡ true) c.loop-key.marks c.mark_elements.new.marks) c.longest_at.ensures c.mark_elements.ensures)

pub returns : goal.returns
returns c = longest_all c.args.longest.now c.loop-key.key c.args.marks.now c.loop-key.marks c.loop-key-test.false c.loop-key.invariant
