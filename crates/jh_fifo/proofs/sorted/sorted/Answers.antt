use Rattle.std.proofs.Common.{◌≡◌, length, sym, refl, subst, ◌+◌, arith}
use Rattle.jh_fifo.proofs.SortedLemmas.{AreEntries, entries_none, entries_push, entries_sorted}
use Rattle.jh_fifo.proofs.sorted.sorted.Goals as goal

pub loop-index-init : goal.loop-index-init
loop-index-init c = subst (λ xs. AreEntries c.args.keys.now 0 xs) (sym c.new-entries.ensures.items) (entries_none c.args.keys.now)

pub loop-index-preserved : goal.loop-index-preserved
loop-index-preserved c =
    let l = c.loop-index in
    subst (λ xs. AreEntries c.args.keys.now (l.index + 1) xs) (sym c.in_ok-push.ensures.items) (entries_push c.args.keys.now l.index _ l.entries.items refl l.invariant)

pub returns : goal.returns
returns c =
    let keys = c.args.keys.now in
    let l = c.loop-index in
    let end : l.index ≡ length keys = omega (arith, c.loop-index-test.false, l.auto.index-end) in
    entries_sorted keys l.entries.items c.sort.new.self.items c.in_ok-sort.ensures.permutation c.in_ok-sort.ensures.sorted (subst (λ n. AreEntries keys n l.entries.items) end l.invariant)
