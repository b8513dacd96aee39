use Rattle.jh_edn.proofs.FingerprintLemmas.{once_exactly}
use Rattle.jh_edn.proofs.pairs.each_once.Goals as goal

pub returns : goal.returns
returns c = once_exactly c.ascend.result c.args.numbers.now c.sort_unstable.new.self c.sort_unstable.ensures.permutation c.sort_unstable.ensures.sorted c.ascend.ensures
