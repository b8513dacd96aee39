use Rattle.std.proofs.Common.{ap, ◌∙◌, sym, ◌<◌, length, rules}
use Rattle.jh_ops.specs.StageInside.{pair_awaited, pairs_after}
use Rattle.jh_ops.proofs.ClientPairLemmas.{pairs_with_outcome-set}
use Rattle.jh_ops.proofs.pairing.record_pair.Goals as goal

pub index_mut-requires : goal.index_mut-requires
index_mut-requires c = let within : c.in-Waiting.at < length c.args.pairs.now.items = c.requires c.in-Waiting.at (ap pair_awaited c.in-Waiting.is) in search rules

pub returns-in-Waiting : goal.returns-in-Waiting
returns-in-Waiting c =
    let within : c.in-Waiting.at < length c.args.pairs.now.items = c.requires c.in-Waiting.at (ap pair_awaited c.in-Waiting.is) in
    pairs_with_outcome-set c.args.pairs.now.items c.in-Waiting.at c.args.place c.index_mut.result.now within c.index_mut.ensures.value
    ∙ ap (λ s. pairs_after s c.args.place c.args.pairs.now.items) (sym c.in-Waiting.is)
