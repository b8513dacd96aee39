use Rattle.std.proofs.Common.{◌≡◌, ℕ, Some}
use Rattle.jh_txn_seen.specs.Middles.{AreMiddlesOf}
use Rattle.jh_txn_seen.specs.Inside.{AreUnread, IsNotedUnread}
use Rattle.jh_txn_seen.proofs.middles.look_at_all.Given as goal

abbrev pub invariant-loop-read : goal.invariant-loop-read
invariant-loop-read l = record {
  middles : AreMiddlesOf l.txns l.marks l.longest l.reads l.read-index l.middles;
  unread : AreUnread l.txns l.marks l.table;
  noted : (place : ℕ) → l.noted ≡ Some place → IsNotedUnread l.txns l.marks l.table place;
}
