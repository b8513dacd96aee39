-- What a random fault names (this project's own).
use Rattle.std.specs.Prelude.{◌≡◌, ℕ, ◌<◌, true, List}
use Rattle.std.specs.List.{All}
use Rattle.jh_grudge.specs.Lists.{AreDistinct}
use Rattle.jh_step_texts.specs.declared.kinds.FaultKind.{FaultKind}
use Rattle.jh_random_faults.specs.Kinds.{is_on_links}

-- these are different nodes of so many
pub record AreNodesOf (count : ℕ) (nodes : List ℕ) : Type 0 where
  pub below : All (λ node. node < count) nodes
  pub distinct : AreDistinct nodes

-- so many nodes have something for a fault of this kind to name
abbrev pub HasNamed : ℕ → FaultKind → Type 0
HasNamed count kind = is_on_links kind ≡ true → 1 < count

-- and for a fault of each of these kinds
abbrev pub HaveNamed : ℕ → List FaultKind → Type 0
HaveNamed count kinds = All (HasNamed count) kinds
