use Rattle.std.proofs.Common.{◌≡◌, ◌∷◌, ◌++◌, drop}
use Rattle.jh_edn.specs.View.{view, views}
use Rattle.jh_total_queue.proofs.TallyLemmas.{begun}
use Rattle.jh_total_queue.proofs.total_queue.each_once.Given as goal

abbrev pub invariant-loop-next : goal.invariant-loop-next
invariant-loop-next l = view l.initial.last ∷ begun (view l.initial.last) (views l.others) ≡ views l.found.items ++ begun (view l.last) (views (drop l.next-index l.others))
