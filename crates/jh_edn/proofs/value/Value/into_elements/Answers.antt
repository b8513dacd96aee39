use Rattle.std.proofs.Common.{refl}
use Rattle.jh_edn.proofs.SequenceLemmas.{list_of-items_of}
use Rattle.jh_edn.proofs.value.Value.into_elements.Goals as goal

pub returns-in-List-clause-elements : goal.returns-in-List-clause-elements
returns-in-List-clause-elements c = rw (c.in-List.is, c.into_vec.ensures, list_of-items_of c.in-List.items) refl

pub returns-in-Vector-clause-elements : goal.returns-in-Vector-clause-elements
returns-in-Vector-clause-elements c = rw (c.in-Vector.is, c.into_vec-in-Vector.ensures, list_of-items_of c.in-Vector.items) refl
