use Rattle.jh_edn.proofs.CitedLemmas.{pairs_in-members_of}
use Rattle.jh_step_texts.proofs.spelling.bumps_in.Goals as goal

pub returns-in-Map : goal.returns-in-Map
returns-in-Map c = rw (c.in-Map.is, pairs_in-members_of c.in-Map.pairs, ← c.as_slice.ensures) c.all_bumps.ensures
