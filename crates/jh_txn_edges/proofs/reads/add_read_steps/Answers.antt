use Rattle.std.proofs.Common.{◌<◌, length, get_or, arith}
use Rattle.std.proofs.lemmas.Option.{slice_get-get_or}
use Rattle.jh_txn_seen.proofs.ReadLemmas.{no_read}
use Rattle.jh_txn_edges.proofs.ReadStepLemmas.{read_all, read_more}
use Rattle.jh_txn_edges.proofs.reads.add_read_steps.Goals as goal

pub add_to_reader-requires : goal.add_to_reader-requires
add_to_reader-requires c =
    let reads = c.args.reads.now in
    let i = c.loop-read.read-index in
    let low : i < length reads = omega arith in
    omega (arith, c.requires.places (get_or reads i no_read) (i, slice_get-get_or reads i no_read low), c.loop-read.auto.graph)

pub add_from_reader-requires-clause-writers : goal.add_from_reader-requires-clause-writers
add_from_reader-requires-clause-writers c = λ element writer is. omega (arith, c.requires.writers element writer is, c.loop-read.auto.graph, c.in_ok-add_to_reader.ensures.count)

pub add_from_reader-requires-clause-key : goal.add_from_reader-requires-clause-key
add_from_reader-requires-clause-key c =
    let reads = c.args.reads.now in
    let i = c.loop-read.read-index in
    let low : i < length reads = omega arith in
    c.requires.keys (get_or reads i no_read) (i, slice_get-get_or reads i no_read low)

pub loop-read-preserved : goal.loop-read-preserved
loop-read-preserved c =
    let reads = c.args.reads.now in
    let i = c.loop-read.read-index in
    let low : i < length reads = omega arith in
    read_more c.args.writers.now c.args.longest.now reads i (get_or reads i no_read) c.args.graph.now c.loop-read.graph c.add_to_reader.new.graph c.add_from_reader.new.graph (slice_get-get_or reads i no_read low) c.loop-read.invariant c.in_ok-add_to_reader.ensures c.in_ok-add_from_reader.ensures

pub returns : goal.returns
returns c = read_all c.args.writers.now c.args.longest.now c.args.reads.now c.loop-read.read-index c.args.graph.now c.loop-read.graph c.loop-read-test.false c.loop-read.invariant
