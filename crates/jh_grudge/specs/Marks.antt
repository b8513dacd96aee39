-- Marks of the nodes that were met (this project's own).
use Rattle.std.specs.Prelude.{◌↔◌, ℕ, Bool, false, List, IsTrue, slice_index_or}
use Rattle.std.specs.List.{Contains}
use Rattle.jh_grudge.specs.Lists.{AreDistinct}

-- just these nodes are marked, and none of them stands twice
pub record AreMetNodes (seen : List Bool) (nodes : List ℕ) : Type 0 where
  pub exact : (node : ℕ) → IsTrue (slice_index_or seen node false) ↔ Contains nodes node
  pub distinct : AreDistinct nodes
