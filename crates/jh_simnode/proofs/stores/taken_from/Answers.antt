use Rattle.std.proofs.Common.{◌≡◌, ◌<◌, ◌∙◌, ap, sym, length, get_or, rules}
use Rattle.std.proofs.lemmas.List.{get_or_default}
use Rattle.jh_simnode.specs.Replicas.{blank_replica, replica_at}
use Rattle.jh_simnode.proofs.TakeOverLemmas.{keeps_own, takes_more}
use Rattle.jh_simnode.proofs.stores.taken_from.Goals as goal
use Rattle.jh_simnode.proofs.stores.taken_from.Goals.{then-from-place+in_ok-replica+in_ok-push, else-from-place}

pub loop-place-preserved : goal.loop-place-preserved
loop-place-preserved c =
    let replicas = c.args.replicas.now in
    let sources = c.args.sources.now in
    let taken = c.loop-place.taken.items in
    let place = c.loop-place.place in
    let d = c.index-sources-place.result in
    let from : c.place-from.result ≡ get_or sources place d = c.place-from.ensures ∙ c.index-sources-place.is in
    elim c.if-from-place.branch [
      | then-from-place+in_ok-replica+in_ok-push w ↦
          let known : get_or sources place d < length replicas = c.requires.known place d c.loop-place-test.true in
          let there = w.index-replicas-from.result in
          let replica : w.in_ok-replica.replica ≡ replica_at replicas (get_or sources place d) =
          w.in_ok-replica.ensures ∙ w.index-replicas-from.is ∙ ap (λ p. get_or replicas p there) from
          ∙ get_or_default replicas (get_or sources place d) there blank_replica known
          in
          rw (w.taken-is, w.in_ok-push.ensures.items) (takes_more replicas taken sources place d w.in_ok-replica.replica c.requires c.loop-place-test.true replica c.loop-place.invariant)
      | else-from-place w ↦
          let same : c.place-from.result ≡ place = search rules in
          rw w.taken-is (keeps_own replicas taken sources place d c.requires c.loop-place-test.true (sym from ∙ same) c.loop-place.invariant)
    ]
