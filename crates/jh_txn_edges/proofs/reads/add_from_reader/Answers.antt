use Rattle.std.proofs.Common.{◌<◌, ◌≤◌, length, arith}
use Rattle.jh_txn_edges.proofs.ReadStepLemmas.{from_added, from_none}
use Rattle.jh_txn_edges.proofs.StepLemmas.{on_ok_then}
use Rattle.jh_txn_edges.proofs.reads.add_from_reader.Goals as goal

pub returns-then-read-longest : goal.returns-then-read-longest
returns-then-read-longest c =
    let read = c.args.read.now in
    let xs = c.longest_at-longest.result.now in
    let low : length read.seen.now < length xs = omega arith in
    on_ok_then c.add_lacked_step.result _ _ (from_added c.args.writers.now c.args.longest.now read xs c.longest_at-longest.ensures c.args.graph.now c.add_lacked_step.new.graph low) c.add_lacked_step.ensures

pub returns-else-read-longest : goal.returns-else-read-longest
returns-else-read-longest c =
    let read = c.args.read.now in
    let xs = c.longest_at-longest.result.now in
    let past : length xs ≤ length read.seen.now = omega arith in
    from_none c.args.writers.now c.args.longest.now read xs c.longest_at-longest.ensures c.args.graph.now c.args.graph.now past
