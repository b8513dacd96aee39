use Rattle.std.proofs.Common.{◌≡◌, ℕ, None, length, sym, ap, subst, arith, rules}
use Rattle.std.proofs.lemmas.List.{take_at}
use Rattle.jh_txn_seen.specs.Middles.{AreMiddlesOf}
use Rattle.jh_txn_seen.specs.Inside.{unread_at}
use Rattle.jh_txn_seen.proofs.MiddleLemmas.{middles_new, no_unread}
use Rattle.jh_txn_seen.proofs.middles.middles_of.Goals as goal

pub look_at_all-requires : goal.look_at_all-requires
look_at_all-requires c =
    let txns = c.args.txns.now in
    let marks = c.args.marks.now in
    let longest = c.args.longest.now in
    let reads = c.args.reads.now in
    let hubs = c.in_ok-middles.middles.items in
    let many : length hubs ≡ length longest = omega (arith, c.in_ok-middles.ensures.count, c.requires.end) in
    record {
      reads = c.requires.reads;
      keys = c.requires.keys;
      table = omega (arith, ap length c.deref_mut-2.ensures.value, c.in_ok-table.ensures.len);
      none = subst (λ t. (key : ℕ) → unread_at t key ≡ None) (sym c.deref_mut-2.ensures.value) (no_unread c.in_ok-table.table.items _ (c.in_ok-table.ensures.items_if_clones_equal (λ y same. search rules)));
      middles = subst (AreMiddlesOf txns marks longest reads 0) (sym c.deref_mut.ensures.value) (middles_new txns marks longest reads hubs many c.in_ok-middles.ensures.hubs);
    }

pub returns : goal.returns
returns c =
    let new = c.look_at_all.new.middles in
    let kept : length new ≡ c.in_ok-middles.middles.len = omega arith in
    subst (AreMiddlesOf c.args.txns.now c.args.marks.now c.args.longest.now c.args.reads.now (length c.args.reads.now)) (sym (take_at new _ c.in_ok-middles.middles.len kept)) c.look_at_all.ensures
