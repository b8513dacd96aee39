use Rattle.std.proofs.Common.{ap}
use Rattle.std.specs.Ordering.{is_lt}
use Rattle.std.proofs.lemmas.List.Sorted.{answers_always, ranks_by}
use Rattle.jh_queue.specs.QueueInside.{passage, passage_cmp}
use Rattle.jh_queue.specs.declared.passages.ValueAt.{ValueAt}
use Rattle.jh_queue.proofs.OrderLemmas.{passage_total}
use Rattle.jh_queue.proofs.passages.in_passage_order.Goals as goal

pub returns-clause-order : goal.returns-clause-order
returns-clause-order c =
    c.in_ok-sort_by.ensures.sorted (λ (a : ValueAt) (b : ValueAt). is_lt (passage_cmp (passage a) (passage b))) (ranks_by passage_total passage) (answers_always _ _ _ (λ f a r f' k. ap is_lt k.met))
