use Rattle.std.proofs.Common.{sym, subst, length, take}
use Rattle.std.specs.List.{All}
use Rattle.std.proofs.lemmas.List.Elements.{All-filter, All-take}
use Rattle.jh_ops.specs.Operation.{operations}
use Rattle.jh_ops.specs.Pairing.{IsPairWithin}
use Rattle.jh_check.specs.CounterResults.{is_ok_read}
use Rattle.jh_set_full.proofs.spots.ok_reads.Goals as goal

pub returns-clause-within : goal.returns-clause-within
returns-clause-within c all =
    let history = operations c.args.history.now in
    let P = IsPairWithin (length c.args.history.now) in
    let pairs = c.args.pairs.now in
    let i = c.loop-pair.pair-index in
    subst (All P) (sym c.loop-pair.invariant) (All-filter (is_ok_read history) P (take i pairs) (All-take P i pairs all))
