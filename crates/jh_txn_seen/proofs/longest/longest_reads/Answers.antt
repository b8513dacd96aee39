use Rattle.std.proofs.Common.{◌≡◌, ◌+◌, ◌<◌, ◌++◌, Some, None, length, get_or, take, drop, sym, ap, subst, ◌∙◌, arith, rules}
use Rattle.std.specs.Prelude.{slice_get}
use Rattle.std.proofs.lemmas.List.{take_at}
use Rattle.std.proofs.lemmas.Option.{slice_get-get_or}
use Rattle.jh_txn_seen.specs.Reads.{AreLongestOf}
use Rattle.jh_txn_seen.specs.Inside.{LooksAt}
use Rattle.jh_txn_seen.proofs.ReadLemmas.{forked, longest_more, longest_new, no_read}
use Rattle.jh_txn_seen.proofs.longest.longest_reads.Goals as goal

pub look_at-requires : goal.look_at-requires
look_at-requires c =
    let reads = c.args.reads.now in
    let i = c.loop-read.read-index in
    let low : i < length reads = omega arith in
    let below : (get_or reads i no_read).key < c.args.keys = c.requires (get_or reads i no_read) (i, slice_get-get_or reads i no_read low) in
    omega (arith, below, ap length c.deref_mut.ensures.value, c.loop-read.invariant.count)

pub loop-read-init : goal.loop-read-init
loop-read-init c = record {
  count = omega (arith, c.in_ok-table.ensures.len);
  longest = longest_new c.args.reads.now c.in_ok-table.table.items c.args.keys (c.in_ok-table.ensures.items_if_clones_equal (λ y same. search rules));
}

pub loop-read-preserved : goal.loop-read-preserved
loop-read-preserved c =
    let reads = c.args.reads.now in
    let i = c.loop-read.read-index in
    let low : i < length reads = omega arith in
    let read = get_or reads i no_read in
    let at : slice_get reads i ≡ Some read = slice_get-get_or reads i no_read low in
    let below : read.key < c.args.keys = c.requires read (i, at) in
    let old = c.loop-read.table.items in
    let new = c.look_at.new.table in
    let kept : length new ≡ c.loop-read.table.len = omega arith in
    let whole : take c.loop-read.table.len (new ++ drop (length new) old) ≡ new = take_at new (drop (length new) old) c.loop-read.table.len kept in
    let looks : LooksAt old read None new = subst (λ t. LooksAt t read None new) c.deref_mut.ensures.value c.in_default.ensures in
    record {
      count = ap length whole ∙ omega (arith, kept, ap length c.deref_mut.ensures.value, c.loop-read.invariant.count);
      longest = subst (AreLongestOf reads (i + 1)) (sym whole) (longest_more reads i read old new at (omega (arith, below, c.loop-read.invariant.count)) looks c.loop-read.invariant.longest);
    }

pub returns-in-Some : goal.returns-in-Some
returns-in-Some c =
    let reads = c.args.reads.now in
    let i = c.loop-read.read-index in
    let low : i < length reads = omega arith in
    let read = get_or reads i no_read in
    let looks : LooksAt c.loop-read.table.items read (Some c.in-Some.other) c.look_at.new.table = subst (λ t. LooksAt t read (Some c.in-Some.other) c.look_at.new.table) c.deref_mut.ensures.value c.in-Some.ensures in
    forked reads i read c.in-Some.other c.loop-read.table.items c.look_at.new.table (slice_get-get_or reads i no_read low) looks c.loop-read.invariant.longest

pub returns : goal.returns
returns c =
    let all : c.loop-read.read-index ≡ length c.args.reads.now = omega arith in
    (c.loop-read.invariant.count, subst (λ n. AreLongestOf c.args.reads.now n c.loop-read.table.items) all c.loop-read.invariant.longest)
