use Rattle.std.proofs.Common.{◌<◌, length, get_or, arith}
use Rattle.std.proofs.lemmas.Option.{slice_get-get_or}
use Rattle.jh_txn_seen.proofs.ReadLemmas.{no_read}
use Rattle.jh_txn_edges.proofs.StepLemmas.{adds_none_below}
use Rattle.jh_txn_points.proofs.PointStepLemmas.{HubAt, hubs_all, hubs_more}
use Rattle.jh_txn_points.proofs.unread.add_hub_steps.Goals as goal

pub add_hub_step-requires-clause-key : goal.add_hub_step-requires-clause-key
add_hub_step-requires-clause-key c =
    let reads = c.args.reads.now in
    let i = c.loop-read.read-index in
    let low : i < length reads = omega arith in
    c.requires.reads (get_or reads i no_read) (i, slice_get-get_or reads i no_read low)

pub loop-read-init : goal.loop-read-init
loop-read-init c = adds_none_below (HubAt c.args.count c.args.longest.now c.args.reads.now) c.args.graph.now

pub loop-read-preserved : goal.loop-read-preserved
loop-read-preserved c =
    let reads = c.args.reads.now in
    let i = c.loop-read.read-index in
    let low : i < length reads = omega arith in
    hubs_more c.args.count c.args.longest.now reads i (get_or reads i no_read) c.args.graph.now c.loop-read.graph c.add_hub_step.new.graph (slice_get-get_or reads i no_read low) c.loop-read.invariant c.in_ok-add_hub_step.ensures

pub returns : goal.returns
returns c = hubs_all c.args.count c.args.longest.now c.args.reads.now c.loop-read.read-index c.args.graph.now c.loop-read.graph c.loop-read-test.false c.loop-read.invariant
