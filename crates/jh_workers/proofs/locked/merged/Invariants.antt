use Rattle.std.proofs.Common.{◌≡◌, ◌+◌, ◌<◌, ◌≤◌, length}
use Rattle.std.specs.Prelude.{sum_by}
use Rattle.std.specs.Vec.Iter.{into_iter_items}
use Rattle.jh_workers.proofs.locked.merged.Given as goal

abbrev pub invariant-loop-share : goal.invariant-loop-share
invariant-loop-share g l = record {
  can : (goal.iterator-loop-share g).can_next l.share-iterator;
  ends : (goal.iterator-loop-share g).is_finite l.share-iterator;
  parts : l.all.parts + length (into_iter_items l.share-iterator) ≡ l.fn.rest.parts + length l.fn.shares.items;
  few : length (into_iter_items l.share-iterator) < length l.fn.shares.items → l.all.parts ≤ g.L.Ledger.parts;
  amount : l.all.amount + sum_by (λ share. share.count) (into_iter_items l.share-iterator)
      ≡ l.fn.rest.amount + sum_by (λ share. share.count) l.fn.shares.items;
}
