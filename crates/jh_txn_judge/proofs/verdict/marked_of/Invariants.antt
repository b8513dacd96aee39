use Rattle.std.proofs.Common.{◌≡◌, false, take, filter, get_or}
use Rattle.jh_txn_judge.proofs.verdict.marked_of.Given as goal

abbrev pub invariant-loop-place : goal.invariant-loop-place
invariant-loop-place l = l.marked.items ≡ filter (λ place. get_or l.there place false) (take l.place-index l.order)
