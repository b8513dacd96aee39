use Rattle.std.proofs.Common.{refl}
use Rattle.jh_edn.proofs.SequenceLemmas.{pairs_in-members_of}
use Rattle.jh_edn.proofs.value.Value.into_pairs.Goals as goal

pub returns-in-Map : goal.returns-in-Map
returns-in-Map c = rw (c.in-Map.is, c.into_vec.ensures, pairs_in-members_of c.in-Map.pairs) refl
