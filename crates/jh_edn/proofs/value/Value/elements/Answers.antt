use Rattle.std.proofs.Common.{refl}
use Rattle.jh_edn.proofs.SequenceLemmas.{list_of-items_of}
use Rattle.jh_edn.proofs.value.Value.elements.Goals as goal

pub returns-in-List : goal.returns-in-List
returns-in-List c = rw (c.in-List.is, c.as_slice.ensures, list_of-items_of c.in-List.items) refl

pub returns-in-Vector : goal.returns-in-Vector
returns-in-Vector c = rw (c.in-Vector.is, c.as_slice-in-Vector.ensures, list_of-items_of c.in-Vector.items) refl
