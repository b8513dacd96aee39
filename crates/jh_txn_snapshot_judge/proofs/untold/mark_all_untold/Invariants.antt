use Rattle.std.proofs.Common.{◌≡◌, ℕ, ◌<◌, Some, None}
use Rattle.std.specs.Prelude.{slice_index_or}
use Rattle.jh_txn_seen.specs.Marks.{AddsMarks}
use Rattle.jh_txn_seen.proofs.MarkLemmas.{NumbersBelow}
use Rattle.jh_txn_snapshot_judge.specs.UntoldInside.{IsUntoldAt}
use Rattle.jh_txn_snapshot_judge.proofs.untold.mark_all_untold.Given as goal

abbrev pub invariant-loop-place : goal.invariant-loop-place
invariant-loop-place l = record {
  marks : AddsMarks (NumbersBelow (IsUntoldAt l.txns l.there l.marks) l.place) l.fn.untold l.untold;
  earlier : (key other : ℕ) → slice_index_or l.readers key None ≡ Some other → other < l.place;
}
