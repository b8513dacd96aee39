use Rattle.std.proofs.Common.{◌+◌, refl, subst, sym, ap, ◌∙◌, length}
use Rattle.std.proofs.lemmas.List.{length_push}
use Rattle.jh_txn_reads.specs.Inside.{AreEmptyFrom}
use Rattle.jh_txn_reads.proofs.ViewLemmas.{new_push}
use Rattle.jh_txn_reads.proofs.views.empty_views.Goals as goal

pub loop-key-preserved : goal.loop-key-preserved
loop-key-preserved c = record {
  count = ap length c.in_ok-push.ensures.items ∙ length_push c.loop-key.views.items _ ∙ ap (λ n. n + 1) c.loop-key.invariant.count;
  new = subst (AreEmptyFrom 0) (sym c.in_ok-push.ensures.items) (new_push c.loop-key.views.items _ c.loop-key.invariant.new refl c.new.ensures.items);
}
