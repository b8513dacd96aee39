use Rattle.std.proofs.Common.{refl}
use Rattle.jh_edn.proofs.CitedLemmas.{list_of-items_of}
use Rattle.jh_ops.proofs.record.count_of.Goals as goal

pub returns-in-Vector : goal.returns-in-Vector
returns-in-Vector c = rw (c.in-Vector.is, list_of-items_of, c.len.ensures) refl
