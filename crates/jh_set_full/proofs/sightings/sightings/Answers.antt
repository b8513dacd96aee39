use Rattle.std.proofs.Common.{◌∙◌, ◌++◌, map, get_or}
use Rattle.jh_ops.specs.Operation.{operations}
use Rattle.std.specs.Prelude.{None}
use Rattle.jh_ops.specs.declared.pairs.Pair.{Pair}
use Rattle.jh_set_full.specs.Inside.{counted_in, counted_by}
use Rattle.jh_set_full.proofs.SightingLemmas.{sightings_more}
use Rattle.jh_set_full.proofs.sightings.sightings.Goals as goal

pub loop-pair-preserved : goal.loop-pair-preserved
loop-pair-preserved c =
    let history = operations c.args.history.now in
    let pairs = c.args.pairs.now in
    let i = c.loop-pair.pair-index in
    let none : Pair = record { invoke = 0; outcome = None } in
    let p = get_or pairs i none in
    c.in_ok-push_sightings.ensures
    ∙ (λ k. c.loop-pair.invariant k ++ map (counted_by p) (counted_in (c.shown_in.ensures k)))
    ∙ sightings_more c.args.side history pairs i none c.loop-pair-test.true
