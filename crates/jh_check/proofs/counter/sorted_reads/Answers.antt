use Rattle.std.proofs.Common.{◌≡◌, ap, ◌∙◌, length, arith}
use Rattle.std.specs.List.{filter}
use Rattle.std.proofs.lemmas.List.{take_all}
use Rattle.std.proofs.lemmas.List.Elements.{All-filter, All-same}
use Rattle.std.proofs.lemmas.List.Sorted.{answers_always, All-permutation, IsStrictWeakOrder-by_number}
use Rattle.jh_edn.specs.Order.{in_order}
use Rattle.jh_edn.proofs.CitedLemmas.{sorted_is}
use Rattle.jh_ops.specs.Operation.{operations}
use Rattle.jh_ops.specs.Pairing.{IsPairWithin}
use Rattle.jh_check.specs.CounterResults.{ends_before, end_place, is_ok_read}
use Rattle.jh_check.proofs.counter.sorted_reads.Goals as goal

found : (c : goal.In_ok-sort_by) → c.loop-pair.reads.items ≡ filter (is_ok_read (operations c.args.history.now)) c.args.pairs.now
found c = c.loop-pair.invariant ∙ ap (filter (is_ok_read (operations c.args.history.now))) (take_all c.loop-pair.pair-index c.args.pairs.now (omega arith))

pub returns-clause-reads : goal.returns-clause-reads
returns-clause-reads c =
    let sorted = c.in_ok-sort_by.ensures in
    let order = IsStrictWeakOrder-by_number end_place in
    sorted_is ends_before order c.loop-pair.reads.items c.sort_by.new.self.items
    (sorted.sorted ends_before order (answers_always _ _ _ (λ f a r f' k. k.met)))
    (sorted.stable ends_before order (answers_always _ _ _ (λ f a r f' k. k.met)))
    ∙ ap (in_order ends_before) (found c)

pub returns-clause-within : goal.returns-clause-within
returns-clause-within c = λ all.
    let within = IsPairWithin (length c.args.history.now) in
    All-permutation within c.loop-pair.reads.items c.sort_by.new.self.items c.in_ok-sort_by.ensures.permutation
    (All-same within _ _ (found c) (All-filter (is_ok_read (operations c.args.history.now)) within c.args.pairs.now all))
